-- Questions, one after another.
use Rattle.std.proofs.Common.{◌≡◌, ℕ, List, [], ◌∷◌, ◌++◌, Option, None, Some, refl, sym, ap, subst, ◌∙◌, append-nil, append_assoc}
use Rattle.pana_journal.specs.declared.entry.Entry.{Entry}
use Rattle.pana_calls.specs.declared.call.Call.{Call}
use Rattle.pana_calls.specs.declared.answer.Answer.{Answer}
use Rattle.pana_watch.specs.declared.family_change.FamilyChange.{FamilyChange}
use Rattle.pana_watch.specs.declared.watch.Watch.{Watch}
use Rattle.pana_watch.specs.Line.{change_lines, line_or_none}
use Rattle.pana_journal.specs.Reports.{subject}
use Rattle.pana_watch.specs.Watch.{Follows, Leads, Looks, Says}
use Rattle.pana_watch.specs.inner.Answers.{IsFirst}

module _ {S : Type 0} (step : S → List ℕ → Call → Answer → S → Type 0) (by : List ℕ) where
  -- the way has led so far from what one entry names to what another one names: whatever leads on from there ends the whole way
  abbrev pub LedSoFar : S → ℕ → Option ℕ → S → ℕ → Option ℕ → Type 0
  LedSoFar old here named new there next = (path : List Entry) (family : ℕ) (last : S) → Leads step by new there next path family last
      → (whole : List Entry) × Leads step by old here named whole family last

  pub led_on : (old : S) (here : ℕ) (named : Option ℕ) (mid : S) (there number : ℕ) (new : S) (next : Option ℕ) → LedSoFar old here named mid there (Some number)
      → IsFirst step by mid number new next → LedSoFar old here named new number next
  led_on old here named mid there number new next so_far (entry, rest, asked, is, names) path family last leads =
      so_far (entry ∷ path) family last (new, rest, asked, is, subst (λ (o : Option ℕ). Leads step by new number o path family last) names leads)

  pub led : (old : S) (here : ℕ) (named : Option ℕ) (new : S) (there : ℕ) → LedSoFar old here named new there None → (path : List Entry) × Leads step by old here named path there new
  led old here named new there so_far = so_far [] there new (refl, refl)

  -- the changes of the families of entries so far, and their lines: whatever follows for the rest follows for all
  abbrev pub FollowedSoFar : Watch → S → List Entry → List ℕ → Watch → S → List Entry → Type 0
  FollowedSoFar before old entries text after new rest = (changes : List (Option FamilyChange)) (later : Watch) (last : S) → Follows step by after new rest changes later last
      → (all : List (Option FamilyChange)) × Follows step by before old entries all later last × (change_lines all ≡ text ++ change_lines changes)

  pub followed_on : (before : Watch) (old : S) (entries : List Entry) (text : List ℕ) (watch : Watch) (mid : S) (entry : Entry) (rest : List Entry) → FollowedSoFar before old entries text watch mid (entry ∷ rest)
      → (path : List Entry) (family : ℕ) (asked : S) → Leads step by mid entry.number (subject entry.report) path family asked
      → (change : Option FamilyChange) (after : Watch) (new : S) → Looks step by watch asked family change after new
      → (more : List ℕ) → more ≡ text ++ line_or_none change → FollowedSoFar before old entries more after new rest
  followed_on before old entries text watch mid entry rest so_far path family asked leads change after new looks more is changes later last follows =
      let whole = so_far (change ∷ changes) later last (path, family, asked, after, new, leads, looks, follows) in
      (whole.0, whole.1, whole.2 ∙ sym (append_assoc text (line_or_none change) (change_lines changes)) ∙ ap (λ (l : List ℕ). l ++ change_lines changes) (sym is))

  pub followed : (before : Watch) (old : S) (entries : List Entry) (text : List ℕ) (after : Watch) (new : S) → FollowedSoFar before old entries text after new [] → Says step by before old entries text after new
  followed before old entries text after new so_far =
      let whole = so_far [] after new (refl, refl) in
      record { changes = whole.0; follows = whole.1; text_is = sym (whole.2 ∙ append-nil text) }
