-- The call of a report, once the numbers of its copies are known.
use Rattle.std.proofs.Common.{◌≡◌, ℕ, List, [], ◌∷◌, Some, sym, ap, ◌∙◌, subst}
use Rattle.pana_copies.specs.declared.place.Place.{Place}
use Rattle.pana_journal.specs.declared.report.Report.{Report}
use Rattle.pana_calls.specs.declared.answer.Answer.{Answer}
use Rattle.pana_calls.specs.declared.call.Call.{Call}
use Rattle.pana_calls.specs.declared.call.Call.TheVariants as calls
use Rattle.pana_ask.specs.declared.placed_report.OneCopyReport.{OneCopyReport}
use Rattle.pana_ask.specs.declared.placed_report.PlacedReport.{PlacedReport}
use Rattle.pana_ask.specs.declared.placed_report.PlacedReport.TheVariants.{One, Two}
use Rattle.pana_ask.specs.declared.placed_report.TwoCopyReport.{TwoCopyReport}
use Rattle.pana_ask.specs.Looking.{Finds}
use Rattle.pana_ask.specs.Report.{IsCallFor, call_with, named, one_report, two_report}

module _ {S : Type 0} (step : S → List ℕ → Call → Answer → S → Type 0) (by : List ℕ) (report : PlacedReport) (old new : S) (made : Report) where
  pub one_call : (place : Place) (what : OneCopyReport) (copy : ℕ) → report ≡ One place what → Finds step by (place ∷ []) old (copy ∷ []) new → made ≡ one_report what copy
      → IsCallFor step by report old new (calls.Report made)
  one_call place what copy is finds made_is = record {
    copies = copy ∷ [];
    finds = subst (λ (r : PlacedReport). Finds step by (named r) old (copy ∷ []) new) (sym is) finds;
    is = ap (λ (r : PlacedReport). call_with r (copy ∷ [])) is ∙ ap (λ (m : Report). Some (calls.Report m)) (sym made_is);
  }

  pub two_call : (first second : Place) (what : TwoCopyReport) (a b : ℕ) → report ≡ Two first second what → Finds step by (first ∷ second ∷ []) old (a ∷ b ∷ []) new → made ≡ two_report what a b
      → IsCallFor step by report old new (calls.Report made)
  two_call first second what a b is finds made_is = record {
    copies = a ∷ b ∷ [];
    finds = subst (λ (r : PlacedReport). Finds step by (named r) old (a ∷ b ∷ []) new) (sym is) finds;
    is = ap (λ (r : PlacedReport). call_with r (a ∷ b ∷ [])) is ∙ ap (λ (m : Report). Some (calls.Report m)) (sym made_is);
  }
