-- What reading a stamp comes to: two trees that the text spells, or a fault that says what the grammar does.
use Rattle.std.proofs.Common.{◌≡◌, ℕ, ◌+◌, ◌-◌, List, [], ◌∷◌, ◌++◌, length, refl, sym, ap, ◌∙◌, subst, append-nil, arith, Result, Ok, Err, Some}
use Rattle.std.proofs.lemmas.List.{length-append}
use Rattle.std.specs.Prelude.{⊤}
use Rattle.pana_id.specs.Id.{Id}
use Rattle.pana_event.specs.Event.{Event}
use Rattle.pana_text.specs.declared.fault.TextFault.{TextFault}
use Rattle.pana_text.specs.declared.fault.TextFault.TheVariants.{Syntax, TooDeep, NotNormal, TooLarge, OutOfMemory}
use Rattle.pana_text.specs.inner.Reading.{◌>>=◌, OfId, OfEvent, stamp_at}
use Rattle.pana_text.specs.Text.{in_two, id_text}
use Rattle.pana_text.specs.Grammar.{IsInGrammar, Spells, spelling, event_of, Says, room}
use Rattle.pana_text.proofs.Depths.{stamp-room}
use Rattle.pana_text.proofs.Machine.{stamp, Words, some_words}
use Rattle.pana_text.proofs.Runs.{stamp-run}
use Rattle.pana_text.proofs.Stops.{Whole, Outcome, outcome}

in_grammar : (text : List ℕ) → Words (stamp ∷ []) text → IsInGrammar text
in_grammar text (i, s, u, is, e, nil) =
    (i, s, is, e ∙ (ap (λ (x : List ℕ). in_two (id_text i) (spelling s) ++ x) nil ∙ append-nil (in_two (id_text i) (spelling s))))

as_words : (text : List ℕ) → IsInGrammar text → Words (stamp ∷ []) text
as_words text (i, s, is, e) = (i, s, [], is, e ∙ sym (append-nil (in_two (id_text i) (spelling s))), refl)

prefix_length : (text prefix rest : List ℕ) (place : ℕ) → text ≡ prefix ++ rest → place ≡ length text - length rest → place ≡ length prefix
prefix_length text prefix rest place whole p =
    let sum : length text ≡ length prefix + length rest = ap (λ (s : List ℕ). length s) whole ∙ length-append prefix rest in
    omega arith

-- what a result says of the text
abbrev pub Ends : List ℕ → Result ⊤ TextFault → Type 0
Ends text (Ok x) = (i : Id) × (e : Event) × Spells text i e
Ends text (Err e) = Says e text

ended : (text : List ℕ) (r : Result ⊤ TextFault) → Outcome (stamp ∷ []) 257 (length text) text r → Ends text r
ended text (Ok x) t =
    let (i, s, is, e) = in_grammar text t.words in
    let (di, ds) = stamp-room i s t.left_over is (subst (λ (u : List ℕ). room (Some 257) u ≡ Some t.left_over) e t.within) in
    (i, event_of s, record { spelled = s; numbers = is; event = refl; whole = e; id_within = di; event_within = ds })
ended text (Err (Syntax place)) t = let (end, words) = some_words t.next in (
  t.prefix,
  t.rest,
  t.whole,
  prefix_length text t.prefix t.rest place t.whole t.at,
  (end, in_grammar (t.prefix ++ end) (t.begins end words)),
  λ end start w. t.none end start (t.goes_on end (as_words (t.prefix ++ end) w)),
  (t.left_over, t.within),
)
ended text (Err TooDeep) t = let (end, words) = some_words t.next in (t.prefix, t.rest, t.whole, (end, in_grammar (t.prefix ++ (40 ∷ end)) (t.begins end words)), t.within)
ended text (Err _) t = absurd t

module _ {A N B : Type 0} (of_id : OfId A) (of : OfEvent N B) (text : List ℕ) where
  run-outcome : Outcome (stamp ∷ []) 257 (length text) text (stamp_at of_id of 256 text >>= λ s. Ok tt)
  unfolding stamp_at
  run-outcome = subst (Outcome (stamp ∷ []) 257 (length text) text) (stamp-run of_id of (length text) text) (outcome (length text) 257 (stamp ∷ []) text)

  -- a text that is read is within the depth
  pub read_whole : (x : A × B) → stamp_at of_id of 256 text ≡ Ok x → Whole (stamp ∷ []) 257 text
  read_whole x h = subst (λ r. Outcome (stamp ∷ []) 257 (length text) text (r >>= λ s. Ok tt)) h run-outcome

  -- it spells two trees
  pub read_spells : (x : A × B) → stamp_at of_id of 256 text ≡ Ok x → (i : Id) × (e : Event) × Spells text i e
  read_spells x h = ended text (Ok tt) (read_whole x h)

  -- of a text that isn't read the fault holds
  pub unread_says : (e : TextFault) → stamp_at of_id of 256 text ≡ Err e → Says e text
  unread_says e h = ended text (Err e) (subst (λ r. Outcome (stamp ∷ []) 257 (length text) text (r >>= λ s. Ok tt)) h run-outcome)
