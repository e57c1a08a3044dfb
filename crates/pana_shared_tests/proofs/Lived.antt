-- Lives of stores, call after call.
use Rattle.std.proofs.Common.{◌≡◌, ℕ, Bool, List, [], ◌∷◌, ◌++◌, map, Some, None, Result, Ok, Err, refl, sym, ap, subst, ◌∙◌, append_assoc, append-nil}
use Rattle.std.proofs.lemmas.Grind.{flat_map-append}
use Rattle.std.specs.Result.{IfOk}
use Rattle.std.specs.Prelude.{OnErr}
use Rattle.pana_calls.specs.declared.answer.Answer.{Answer}
use Rattle.pana_calls.specs.declared.answer.NoAnswer.{NoAnswer}
use Rattle.pana_calls.specs.declared.call.Call.{Call}
use Rattle.pana_calls.specs.declared.message.Message.{Message}
use Rattle.pana_shared_store.specs.Store.{Fails, Makes, StoreView}
use Rattle.pana_shared_store.proofs.Followed.{reads_none}
use Rattle.pana_shared_laws.specs.Lives.{Deed, Does, Lives, Waits}
use Rattle.pana_shared_tests.specs.Life.{Made, asked_in}

module _ (is_known : Bool) where
  pub waits_none : (store : StoreView) → Waits is_known store store
  waits_none store = record { reads = reads_none store.seen; entries = refl; turn = refl; stale = refl }

  -- a call is made, with an answer or without
  pub made : (old : StoreView) (by : List ℕ) (call : Call) (new : StoreView) (r : Result Answer NoAnswer) → IfOk r (λ answer. Makes is_known old by call answer new) → OnErr r (Fails is_known old (record { by = by; call = call } ∷ []) new) → Made is_known old by call new
  made old by call new (Ok answer) makes fails = (record { begun = old; calls = record { by = by; call = call } ∷ []; answer = Some answer; ended = new }, (record { by = by; call = call }, refl, makes), refl, refl, refl)
  made old by call new (Err none) makes fails = (record { begun = old; calls = record { by = by; call = call } ∷ []; answer = None; ended = new }, fails, refl, refl, refl)

  more : (old : StoreView) (deeds : List Deed) (deed : Deed) → Lives is_known old deeds deed.begun → Does is_known deed → Lives is_known old (deeds ++ (deed ∷ [])) deed.ended
  more old [] deed waits does = (waits, does, waits_none deed.ended)
  more old (d ∷ deeds) deed (waits, first, lives) does = (waits, first, more d.ended deeds deed lives does)

  asked_more : (deeds : List Deed) (deed : Deed) → asked_in (deeds ++ (deed ∷ [])) ≡ asked_in deeds ++ map (λ message. (message.by, message.call)) deed.calls
  asked_more deeds deed = flat_map-append (λ (d : Deed). map (λ (message : Message). (message.by, message.call)) d.calls) deeds (deed ∷ []) ∙ ap (λ (l : List (List ℕ × Call)). asked_in deeds ++ l) (append-nil (map (λ (message : Message). (message.by, message.call)) deed.calls))

  -- one more call
  pub lives_more : (old mid new : StoreView) (by : List ℕ) (call : Call) (asked : List (List ℕ × Call)) → ((deeds : List Deed) × Lives is_known old deeds mid × (asked_in deeds ≡ asked)) → Made is_known mid by call new
      → (deeds : List Deed) × Lives is_known old deeds new × (asked_in deeds ≡ asked ++ ((by, call) ∷ []))
  lives_more old mid new by call asked (deeds, lives, are) (deed, does, begun, is, ended) = (
    deeds ++ (deed ∷ []),
    subst (λ (s : StoreView). Lives is_known old (deeds ++ (deed ∷ [])) s) ended (more old deeds deed (subst (λ (s : StoreView). Lives is_known old deeds s) (sym begun) lives) does),
    asked_more deeds deed ∙ ap (λ (l : List (List ℕ × Call)). l ++ map (λ (message : Message). (message.by, message.call)) deed.calls) are
        ∙ ap (λ (l : List Message). asked ++ map (λ (message : Message). (message.by, message.call)) l) is,
  )

-- what is left of calls that are taken one after another
pub rest_next : {X : Type 0} (calls asked rest others : List X) (x : X) → calls ≡ asked ++ rest → rest ≡ x ∷ others → calls ≡ (asked ++ (x ∷ [])) ++ others
rest_next {X} calls asked rest others x whole is = whole ∙ ap (λ (l : List X). asked ++ l) is ∙ sym (append_assoc asked (x ∷ []) others)
