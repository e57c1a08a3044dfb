-- Calls of a store, one after another.
use Rattle.std.specs.Prelude.{◌≡◌, ℕ, Bool, List, [], ◌∷◌, map}
use Rattle.std.specs.List.{flat_map}
use Rattle.pana_calls.specs.declared.call.Call.{Call}
use Rattle.pana_shared_store.specs.Store.{StoreView}
use Rattle.pana_shared_laws.specs.Lives.{Deed, Does}

-- what was asked by these calls
abbrev pub asked_in : List Deed → List (List ℕ × Call)
asked_in deeds = flat_map (λ deed. map (λ message. (message.by, message.call)) deed.calls) deeds

-- the device's call was made, with an answer or without
abbrev pub Made : Bool → StoreView → List ℕ → Call → StoreView → Type 0
Made is_known old by call new = (deed : Deed) × Does is_known deed × (deed.begun ≡ old) × (deed.calls ≡ record { by = by; call = call } ∷ []) × (deed.ended ≡ new)
