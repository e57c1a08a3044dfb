-- The tokens of a report are those of its object, which is read back, and its names are names.
use Rattle.std.proofs.Common.{◌≡◌, ◌<◌, ◌^◌, ℕ, Option, Some, None, List, true, refl}
use Rattle.std.specs.Prelude.{IfSome}
use Rattle.json.proofs.Printed.Decimals.{IsNumber-decimal}
use Rattle.json.specs.Tree.{HasNumbers, json_tokens}
use Rattle.serde_json.proofs.Numbers.{number_of-decimal}
use Rattle.serde_json.specs.Read.{of_json}
use Rattle.serde_json.specs.Written.{outline}
use Rattle.pana_copies.specs.Names.{is_device, is_path}
use Rattle.pana_copies.specs.declared.place.Place.{Place}
use Rattle.pana_journal.specs.Reports.{given_sum}
use Rattle.pana_journal.specs.declared.report.Report.{Report}
use Rattle.pana_journal.specs.declared.report.Report.TheVariants as reports
use Rattle.pana_wire.specs.Word.{word_name}
use Rattle.pana_wire.specs.Report.{put_report, report_word}
use Rattle.pana_wire.specs.declared.report_writing.Numbers.{Numbers}
use Rattle.pana_wire.specs.inner.LongLine.{IsReadable}
use Rattle.pana_wire.specs.inner.Names.{HasNames, IsSumOrNone}
use Rattle.pana_wire.specs.inner.ReportTokens.{given_place, numbers_of, object_of, tokens_of}

-- what is known of the parts that were written: the numbers have 64 bits, and the texts are names
pub record IsKnownOf (numbers : Numbers) (place : Option Place) (given : Option (List ℕ)) (n : Option ℕ) : Type 0 where
  pub a : IfSome numbers.a (λ k. k < 2 ^ 64)
  pub b : IfSome numbers.b (λ k. k < 2 ^ 64)
  pub copy : IfSome numbers.copy (λ k. k < 2 ^ 64)
  pub entry : IfSome numbers.entry (λ k. k < 2 ^ 64)
  pub heir : IfSome numbers.heir (λ k. k < 2 ^ 64)
  pub number : IfSome n (λ k. k < 2 ^ 64)
  pub device : IfSome place (λ p. is_device p.device ≡ true)
  pub path : IfSome place (λ p. is_path p.path ≡ true)
  pub sum : IsSumOrNone given

-- of the parts of a report
abbrev IsKnownIn : Report → Option ℕ → Type 0
IsKnownIn report number = IsKnownOf (numbers_of report) (given_place report) (given_sum report) number

named : (report : Report) (number : Option ℕ) → IsKnownIn report number → HasNames report
named (reports.Register place sum) number known = ((known.device, known.path), known.sum)
named (reports.Duplicate copy place sum) number known = ((known.device, known.path), known.sum)
named (reports.Edit copy sum) number known = known.sum
named (reports.Reconcile a b sum) number known = known.sum
named (reports.Merge a b sum) number known = known.sum
named (reports.Relocate copy place) number known = (known.device, known.path)
named (reports.Remove copy heir) number known = tt
named (reports.Note copy sum) number known = known.sum
named (reports.Confirm entry) number known = tt
named (reports.Withdraw entry) number known = tt

-- the tokens of a report's parts are those of its object, which is read back
record IsMade (by : List ℕ) (report : Report) (number : Option ℕ) : Type 0 where
  tokens : tokens_of by (numbers_of report) (given_place report) (word_name (report_word report)) (given_sum report) number ≡ json_tokens (outline (object_of by report number))
  whole : of_json (outline (object_of by report number)) ≡ Some (object_of by report number)
  numbers : HasNumbers (outline (object_of by report number))

made : (by : List ℕ) (report : Report) (number : Option ℕ) → IsKnownIn report number → IsMade by report number
unfolding put_report
made by (reports.Register place None) None known = record { tokens = refl; whole = refl; numbers = (tt, (tt, (tt, (tt, tt)))) }
made by (reports.Register place None) (Some n) known = record { tokens = refl; whole = rw (number_of-decimal n known.number) refl; numbers = search IsNumber-decimal }
made by (reports.Register place (Some sum)) None known = record { tokens = refl; whole = refl; numbers = (tt, (tt, (tt, (tt, (tt, tt))))) }
made by (reports.Register place (Some sum)) (Some n) known = record { tokens = refl; whole = rw (number_of-decimal n known.number) refl; numbers = search IsNumber-decimal }
made by (reports.Duplicate copy place None) None known = record { tokens = refl; whole = rw (number_of-decimal copy known.copy) refl; numbers = search IsNumber-decimal }
made by (reports.Duplicate copy place None) (Some n) known = record { tokens = refl; whole = rw (number_of-decimal copy known.copy, number_of-decimal n known.number) refl; numbers = search IsNumber-decimal }
made by (reports.Duplicate copy place (Some sum)) None known = record { tokens = refl; whole = rw (number_of-decimal copy known.copy) refl; numbers = search IsNumber-decimal }
made by (reports.Duplicate copy place (Some sum)) (Some n) known = record { tokens = refl; whole = rw (number_of-decimal copy known.copy, number_of-decimal n known.number) refl; numbers = search IsNumber-decimal }
made by (reports.Edit copy None) None known = record { tokens = refl; whole = rw (number_of-decimal copy known.copy) refl; numbers = search IsNumber-decimal }
made by (reports.Edit copy None) (Some n) known = record { tokens = refl; whole = rw (number_of-decimal copy known.copy, number_of-decimal n known.number) refl; numbers = search IsNumber-decimal }
made by (reports.Edit copy (Some sum)) None known = record { tokens = refl; whole = rw (number_of-decimal copy known.copy) refl; numbers = search IsNumber-decimal }
made by (reports.Edit copy (Some sum)) (Some n) known = record { tokens = refl; whole = rw (number_of-decimal copy known.copy, number_of-decimal n known.number) refl; numbers = search IsNumber-decimal }
made by (reports.Reconcile a b None) None known = record { tokens = refl; whole = rw (number_of-decimal a known.a, number_of-decimal b known.b) refl; numbers = search IsNumber-decimal }
made by (reports.Reconcile a b None) (Some n) known = record { tokens = refl; whole = rw (number_of-decimal a known.a, number_of-decimal b known.b, number_of-decimal n known.number) refl; numbers = search IsNumber-decimal }
made by (reports.Reconcile a b (Some sum)) None known = record { tokens = refl; whole = rw (number_of-decimal a known.a, number_of-decimal b known.b) refl; numbers = search IsNumber-decimal }
made by (reports.Reconcile a b (Some sum)) (Some n) known = record { tokens = refl; whole = rw (number_of-decimal a known.a, number_of-decimal b known.b, number_of-decimal n known.number) refl; numbers = search IsNumber-decimal }
made by (reports.Merge a b None) None known = record { tokens = refl; whole = rw (number_of-decimal a known.a, number_of-decimal b known.b) refl; numbers = search IsNumber-decimal }
made by (reports.Merge a b None) (Some n) known = record { tokens = refl; whole = rw (number_of-decimal a known.a, number_of-decimal b known.b, number_of-decimal n known.number) refl; numbers = search IsNumber-decimal }
made by (reports.Merge a b (Some sum)) None known = record { tokens = refl; whole = rw (number_of-decimal a known.a, number_of-decimal b known.b) refl; numbers = search IsNumber-decimal }
made by (reports.Merge a b (Some sum)) (Some n) known = record { tokens = refl; whole = rw (number_of-decimal a known.a, number_of-decimal b known.b, number_of-decimal n known.number) refl; numbers = search IsNumber-decimal }
made by (reports.Relocate copy place) None known = record { tokens = refl; whole = rw (number_of-decimal copy known.copy) refl; numbers = search IsNumber-decimal }
made by (reports.Relocate copy place) (Some n) known = record { tokens = refl; whole = rw (number_of-decimal copy known.copy, number_of-decimal n known.number) refl; numbers = search IsNumber-decimal }
made by (reports.Remove copy None) None known = record { tokens = refl; whole = rw (number_of-decimal copy known.copy) refl; numbers = search IsNumber-decimal }
made by (reports.Remove copy None) (Some n) known = record { tokens = refl; whole = rw (number_of-decimal copy known.copy, number_of-decimal n known.number) refl; numbers = search IsNumber-decimal }
made by (reports.Remove copy (Some heir)) None known = record { tokens = refl; whole = rw (number_of-decimal copy known.copy, number_of-decimal heir known.heir) refl; numbers = search IsNumber-decimal }
made by (reports.Remove copy (Some heir)) (Some n) known = record { tokens = refl; whole = rw (number_of-decimal copy known.copy, number_of-decimal heir known.heir, number_of-decimal n known.number) refl; numbers = search IsNumber-decimal }
made by (reports.Note copy sum) None known = record { tokens = refl; whole = rw (number_of-decimal copy known.copy) refl; numbers = search IsNumber-decimal }
made by (reports.Note copy sum) (Some n) known = record { tokens = refl; whole = rw (number_of-decimal copy known.copy, number_of-decimal n known.number) refl; numbers = search IsNumber-decimal }
made by (reports.Confirm entry) None known = record { tokens = refl; whole = rw (number_of-decimal entry known.entry) refl; numbers = search IsNumber-decimal }
made by (reports.Confirm entry) (Some n) known = record { tokens = refl; whole = rw (number_of-decimal entry known.entry, number_of-decimal n known.number) refl; numbers = search IsNumber-decimal }
made by (reports.Withdraw entry) None known = record { tokens = refl; whole = rw (number_of-decimal entry known.entry) refl; numbers = search IsNumber-decimal }
made by (reports.Withdraw entry) (Some n) known = record { tokens = refl; whole = rw (number_of-decimal entry known.entry, number_of-decimal n known.number) refl; numbers = search IsNumber-decimal }

-- what parts make, and what is known, where they are those of the report
pub record IsWritten (by : List ℕ) (numbers : Numbers) (place : Option Place) (word : List ℕ) (sum : Option (List ℕ)) (device : List ℕ) (report : Report) (number : Option ℕ) : Type 0 where
  pub tokens : tokens_of by numbers place word sum number ≡ json_tokens (outline (object_of device report number))
  pub names : HasNames report
  pub reads : IsReadable (object_of device report number)

pub written : (by : List ℕ) (numbers : Numbers) (place : Option Place) (word : List ℕ) (sum : Option (List ℕ)) (device : List ℕ) (report : Report) (number : Option ℕ)
    → by ≡ device → numbers ≡ numbers_of report → place ≡ given_place report → word ≡ word_name (report_word report) → sum ≡ given_sum report
    → IsKnownOf numbers place sum number → IsWritten by numbers place word sum device report number
written by numbers place word sum device report number is_by is_numbers is_place is_word is_sum known =
    let so : IsKnownIn report number = rw (is_numbers, is_place, is_sum) at known in
    let is = made device report number so in
    rw (is_by, is_numbers, is_place, is_word, is_sum) (record { tokens = is.tokens; names = named report number so; reads = record { whole = is.whole; numbers = is.numbers } })
