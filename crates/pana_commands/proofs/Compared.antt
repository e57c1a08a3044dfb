-- What is answered to what reading two texts returned.
use Rattle.std.proofs.Common.{ℕ, List, inl, inr, codes}
use Rattle.pana_id.specs.Id.{Id}
use Rattle.pana_event.specs.Event.{Event}
use Rattle.pana_text.specs.declared.fault.TextFault.{TextFault}
use Rattle.pana_text.specs.Grammar.{Says}
use Rattle.pana_text.specs.Text.{IsTextOf}
use Rattle.pana_commands.specs.Compare.{AnswersTexts, Compares, SaysFault}
use Rattle.pana_commands.specs.declared.printout.Printout.{Printout}

pub first_fault : (a b : List ℕ) (fault : TextFault) (answer : Printout) → Says fault a → SaysFault (codes "first") fault answer → AnswersTexts a b answer
first_fault a b fault answer says answers = inr (inl (fault, says, answers))

pub second_fault : (a b : List ℕ) (i : Id) (e : Event) (fault : TextFault) (answer : Printout) → IsTextOf i e a → Says fault b → SaysFault (codes "second") fault answer → AnswersTexts a b answer
second_fault a b i e fault answer is says answers = inr (inr ((i, e, is), (fault, says, answers)))

pub both_read : (a b : List ℕ) (i j : Id) (e f : Event) (answer : Printout) → IsTextOf i e a → IsTextOf j f b → Compares e f answer → AnswersTexts a b answer
both_read a b i j e f answer is other answers = inl (i, e, j, f, is, other, answers)
