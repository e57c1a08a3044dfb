-- What `scan` answers for a device and a folder.
use Rattle.std.specs.Prelude.{◌≡◌, ◌⊎◌, ℕ, ◌==◌, false, List, [], ◌∷◌, ◌++◌, codes, decimal, if◌then◌else◌, string_bytes, Result, Ok, Err}
use Rattle.std.specs.List.{flat_map}
use Rattle.pana_copies.specs.Names.{is_device}
use Rattle.pana_scan.specs.Fault.{shown_scan_fault}
use Rattle.pana_scan.specs.Listing.{Contents}
use Rattle.pana_scan.specs.Plan.{plan_of}
use Rattle.pana_scan.specs.declared.scan_fault.ScanFault.{ScanFault}
use Rattle.pana_scan.specs.declared.step.Step.{Step}
use Rattle.pana_wire.specs.Report.{report_text}
use Rattle.pana_commands.specs.declared.printout.Printout.{Printout}
use Rattle.pana_commands.specs.Answered.{Reports, report_line}

-- the lines by which a device makes the reports of steps
abbrev pub lines_for : List ℕ → List Step → List ℕ
lines_for device steps = flat_map (λ step. report_text device step.report ++ 10 ∷ []) steps

-- the report about names that were passed over, where there are some
abbrev pub skipped_line : ℕ → List ℕ
skipped_line skipped = if skipped == 0 then [] else report_line (decimal skipped ++ codes " names skipped")

-- the lines of all that a first scan with this listing calls for, with status 0
abbrev pub PrintsFirstScan : Contents → Printout → Type 0
PrintsFirstScan listing answer = (string_bytes answer.out ≡ lines_for listing.device (plan_of [] [] listing).steps)
    × (string_bytes answer.err ≡ skipped_line listing.skipped) × (answer.status ≡ 0)

-- what is answered, by what is said of the scan: that the device is none; the lines of what was found; or why nothing was
abbrev pub AnswersScan : List ℕ → (Result Contents ScanFault → Type 0) → Printout → Type 0
AnswersScan device scanned answer = ((is_device device ≡ false) × Reports (codes "BadDevice") answer)
    ⊎ ((listing : Contents) × (listing.device ≡ device) × scanned (Ok listing) × PrintsFirstScan listing answer)
    ⊎ ((fault : ScanFault) × scanned (Err fault) × Reports (shown_scan_fault fault) answer)
