-- The first records of a page and of a group.
use Rattle.std.proofs.Common.{◌≡◌, ◌≢◌, List, [], ◌∷◌, refl, sym, ap, ◌∙◌}
use Rattle.std.specs.Prelude.{get_or}
use Rattle.std.specs.Global.{Vec}
use Rattle.pana_shared.specs.declared.record.Record.{Record}
use Rattle.pana_shared_store.specs.declared.placing.Placed.TheVariants.{Ours, Others}
use Rattle.pana_shared_store.specs.inner.{IsPlaced}

-- the first record of a list, and the others
first_of : (group : List Record) (r : Record) → group ≢ [] → r ≡ get_or group 0 r → (rest : List Record) × (group ≡ r ∷ rest)
first_of [] r some is = absurd (some refl)
first_of (x ∷ rest) r some is = (rest, ap (λ (y : Record). y ∷ rest) (sym is))

module _ (page group : List Record) (s r : Record) (some : page ≢ []) (one : group ≢ []) (first : s ≡ get_or page 0 s) (wanted : r ≡ get_or group 0 r) where
  pub begins_same : s ≡ r → IsPlaced page group Ours
  begins_same same = let p = first_of page s some first in let g = first_of group r one wanted in (r, g.0, p.0, g.1, p.1 ∙ ap (λ (x : Record). x ∷ p.0) same)

  pub begins_otherwise : (given : Vec Record) → given.items ≡ page → s ≢ r → IsPlaced page group (Others given)
  begins_otherwise given is differs = let p = first_of page s some first in let g = first_of group r one wanted in (r, s, g.0, p.0, g.1, p.1, differs, is)
