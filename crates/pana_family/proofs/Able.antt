-- What can be reported of a family.
use Rattle.pana_family.proofs.Words.{◌≡◌, ◌≢◌, ◌==◌, ℕ, cond, Some, None, List, arith, nat_tests, FamilyReport, CanReport, StampRow, NamesLiving, fault_of}
use Rattle.pana_family.specs.declared.fault.FamilyFault.TheVariants.{SameCopy}

differ : (a b : ℕ) → (cond (a == b) (Some SameCopy) None) ≡ None → a ≢ b
differ a b none same = grind (arith, nat_tests)

pub able : (report : FamilyReport) (rows : List StampRow) → NamesLiving report rows → fault_of report rows ≡ None → CanReport report rows
able report rows names none = grind (arith, nat_tests)
