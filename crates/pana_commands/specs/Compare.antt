-- What `compare` answers to two texts.
use Rattle.std.specs.Prelude.{◌≡◌, ◌⊎◌, ℕ, List, [], ◌∷◌, ◌++◌, codes, string_bytes}
use Rattle.pana_id.specs.Id.{Id}
use Rattle.pana_event.specs.Event.{Event}
use Rattle.pana_event.specs.Relation.{IsRelation, rel_name}
use Rattle.pana_event.specs.declared.rel.Rel.{Rel}
use Rattle.pana_text.specs.Fault.{fault_text}
use Rattle.pana_text.specs.Grammar.{Says}
use Rattle.pana_text.specs.Text.{IsTextOf, IsTextOfStamp}
use Rattle.pana_text.specs.declared.fault.TextFault.{TextFault}
use Rattle.pana_commands.specs.declared.printout.Printout.{Printout}

-- the line with the fault of a stamp, which is called `first` or `second`
abbrev pub fault_line : List ℕ → TextFault → List ℕ
fault_line name fault = codes "panad: " ++ name ++ codes " stamp: " ++ fault_text fault ++ 10 ∷ []

-- the name of how the first event relates to the second is printed on a line, with status 0
abbrev pub Compares : Event → Event → Printout → Type 0
Compares e f answer = (rel : Rel) × IsRelation e f rel × (string_bytes answer.out ≡ rel_name rel ++ 10 ∷ [])
    × (string_bytes answer.err ≡ []) × (answer.status ≡ 0)

-- the fault of a stamp is reported, and nothing is printed, with status 1
abbrev pub SaysFault : List ℕ → TextFault → Printout → Type 0
SaysFault name fault answer = (string_bytes answer.out ≡ []) × (string_bytes answer.err ≡ fault_line name fault) × (answer.status ≡ 1)

-- each text is that of a stamp, and their events are compared
abbrev pub AnswersRelation : List ℕ → List ℕ → Printout → Type 0
AnswersRelation a b answer = (i : Id) × (e : Event) × (j : Id) × (f : Event) × IsTextOf i e a × IsTextOf j f b × Compares e f answer

-- a fault that the text has is reported; that of memory is one which the text of a stamp may have
abbrev pub AnswersFault : List ℕ → List ℕ → Printout → Type 0
AnswersFault name text answer = (fault : TextFault) × Says fault text × SaysFault name fault answer

-- what is answered to two texts: how the stamps relate, or the fault of the first, or where that is a stamp's the fault of the second
abbrev pub AnswersTexts : List ℕ → List ℕ → Printout → Type 0
AnswersTexts a b answer = AnswersRelation a b answer ⊎ AnswersFault (codes "first") a answer ⊎ (IsTextOfStamp a × AnswersFault (codes "second") b answer)
