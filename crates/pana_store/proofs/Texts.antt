-- The lines of a text that a file stands for, and what they say.
use Rattle.std.proofs.Common.{◌≡◌, ℕ, Bool, cond, List, [], ◌∷◌, ◌++◌, refl, sym, ◌∙◌, ap, append_assoc}
use Rattle.std.proofs.lemmas.List.{append-nil}
use Rattle.pana_wire.specs.Lines.{ended, unended, last_line, lines_of}
use Rattle.pana_log.specs.Lines.{recovered, text_of, HasNoBreak, AreLines}
use Rattle.pana_log.proofs.Recovered.{are_recovered}
use Rattle.pana_store.specs.declared.open_fault.OpenFault.{OpenFault}
use Rattle.pana_store.specs.declared.open_fault.OpenFault.TheVariants as faults
use Rattle.pana_store.specs.Opening.{HaveNoHall, IsOpenFault}

ended_line : (begun l rest : List ℕ) → HasNoBreak l → ended begun (l ++ 10 ∷ rest) ≡ (begun ++ l) ∷ ended [] rest
ended_line begun [] rest none = ap (λ (f : List ℕ). f ∷ ended [] rest) (sym (append-nil begun))
ended_line begun (b ∷ l) rest none =
    ap (λ t. cond t (begun ∷ ended [] (l ++ 10 ∷ rest)) (ended (begun ++ b ∷ []) (l ++ 10 ∷ rest))) none.0
    ∙ ended_line (begun ++ b ∷ []) l rest none.1
    ∙ ap (λ (f : List ℕ). f ∷ ended [] rest) (append_assoc begun (b ∷ []) l)

unended_line : (begun l rest : List ℕ) → HasNoBreak l → unended begun (l ++ 10 ∷ rest) ≡ unended [] rest
unended_line begun [] rest none = refl
unended_line begun (b ∷ l) rest none =
    ap (λ t. cond t (unended [] (l ++ 10 ∷ rest)) (unended (begun ++ b ∷ []) (l ++ 10 ∷ rest))) none.0 ∙ unended_line (begun ++ b ∷ []) l rest none.1

ended_lines : (ls : List (List ℕ)) → AreLines ls → ended [] (text_of ls) ≡ ls
ended_lines [] are = refl
ended_lines (l ∷ ls) are = ended_line [] l (text_of ls) are.1 ∙ ap (λ (x : List (List ℕ)). l ∷ x) (ended_lines ls are.2)

unended_lines : (ls : List (List ℕ)) → AreLines ls → unended [] (text_of ls) ≡ []
unended_lines [] are = refl
unended_lines (l ∷ ls) are = unended_line [] l (text_of ls) are.1 ∙ unended_lines ls are.2

-- cut into lines, the text of a file's lines gives them back
pub lines_again : (file : List ℕ) → lines_of (text_of (recovered file)) ≡ recovered file
lines_again file =
    let ls = recovered file in
    ap (λ (x : List (List ℕ)). x ++ last_line (unended [] (text_of ls))) (ended_lines ls (are_recovered file))
    ∙ ap (λ (x : List ℕ). ls ++ last_line x) (unended_lines ls (are_recovered file))
    ∙ append-nil ls

-- a text that has no hall is the reason why its file isn't opened
pub open_fault : (has_failed : Bool) (file : List ℕ) (fault : OpenFault) → HaveNoHall (recovered file) fault → IsOpenFault has_failed file fault
open_fault has_failed file faults.NoJournal why = absurd why
open_fault has_failed file faults.Unended why = absurd why
open_fault has_failed file (faults.Damaged number) why = why
open_fault has_failed file (faults.Device fault) why = absurd why
open_fault has_failed file (faults.Line number fault) why = why
open_fault has_failed file (faults.Entry fault) why = why
open_fault has_failed file faults.OutOfMemory why = why
