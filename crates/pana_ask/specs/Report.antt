-- What is reported of copies at places, and what comes of it.
use Rattle.std.specs.Prelude.{◌≡◌, ◌⊎◌, ℕ, List, [], ◌∷◌, ◌++◌, codes, decimal, Option, Some, None}
use Rattle.pana_copies.specs.declared.place.Place.{Place}
use Rattle.pana_journal.specs.declared.report.Report.{Report}
use Rattle.pana_journal.specs.declared.report.Report.TheVariants as reports
use Rattle.pana_journal.specs.Reports.{kind_name}
use Rattle.pana_calls.specs.Cause.{shown_cause}
use Rattle.pana_calls.specs.declared.call.Call.{Call}
use Rattle.pana_calls.specs.declared.call.Call.TheVariants as calls
use Rattle.pana_calls.specs.declared.call.Sighting.TheVariants as sightings
use Rattle.pana_calls.specs.declared.reply.Reply.TheVariants as replies
use Rattle.pana_calls.specs.declared.answer.Answer.{Answer}
use Rattle.pana_calls.specs.declared.answer.Answer.TheVariants as answers
use Rattle.pana_ask.specs.declared.ask_fault.AskFault.{AskFault}
use Rattle.pana_ask.specs.declared.ask_fault.AskFault.TheVariants.{NoCopy, NoAnswer, OutOfMemory}
use Rattle.pana_ask.specs.declared.placed_report.OneCopyReport.{OneCopyReport}
use Rattle.pana_ask.specs.declared.placed_report.OneCopyReport.TheVariants as one
use Rattle.pana_ask.specs.declared.placed_report.PlacedReport.{PlacedReport}
use Rattle.pana_ask.specs.declared.placed_report.PlacedReport.TheVariants.{Direct, One, Two}
use Rattle.pana_ask.specs.declared.placed_report.TwoCopyReport.{TwoCopyReport}
use Rattle.pana_ask.specs.declared.placed_report.TwoCopyReport.TheVariants as two
use Rattle.pana_ask.specs.declared.report_end.ReportEnd.{ReportEnd}
use Rattle.pana_ask.specs.declared.report_end.ReportEnd.TheVariants as ends
use Rattle.pana_ask.specs.Looking.{Finds, LooksInVain}

-- ---- the call

-- the report of one copy, by its number
abbrev pub one_report : OneCopyReport → ℕ → Report
one_report (one.Edit sum) copy = reports.Edit copy sum
one_report (one.Duplicate place sum) copy = reports.Duplicate copy place sum
one_report (one.Relocate place) copy = reports.Relocate copy place
one_report one.Remove copy = reports.Remove copy None
one_report (one.Note sum) copy = reports.Note copy sum

-- the report of two copies
abbrev pub two_report : TwoCopyReport → ℕ → ℕ → Report
two_report (two.Reconcile sum) a b = reports.Reconcile a b sum
two_report (two.Merge sum) a b = reports.Merge a b sum
two_report two.RemoveFor copy heir = reports.Remove copy (Some heir)

-- the places whose copies a report is about
abbrev pub named : PlacedReport → List Place
named (Direct call) = []
named (One place what) = place ∷ []
named (Two a b what) = a ∷ b ∷ []

-- the call that makes it, with the numbers of these copies
abbrev pub call_with : PlacedReport → List ℕ → Option Call
call_with (Direct call) [] = Some call
call_with (One place what) (copy ∷ []) = Some (calls.Report (one_report what copy))
call_with (Two a b what) (copy ∷ other ∷ []) = Some (calls.Report (two_report what copy other))
call_with report copies = None

-- the device of the first place that a report names
abbrev pub first_device : PlacedReport → Option (List ℕ)
first_device (Direct (calls.Report (reports.Register place sum))) = Some place.device
first_device (Direct (calls.Sighting (sightings.Found place sum))) = Some place.device
first_device (Direct (calls.Sighting (sightings.Missing place))) = Some place.device
first_device (Direct call) = None
first_device (One place what) = Some place.device
first_device (Two a b what) = Some a.device

-- ---- what comes of it

-- what an answer says of it
abbrev pub end_in : Answer → Option ReportEnd
end_in (answers.Given (replies.Done entry)) = Some (ends.Entry entry)
end_in (answers.Given (replies.Did kind entry)) = Some (ends.Did kind entry)
end_in (answers.Given (replies.Known copy)) = Some ends.Known
end_in (answers.Given (replies.Refused cause)) = Some (ends.Refused cause)
end_in answers.NotKept = Some ends.NotKept
end_in answer = None

module _ {S : Type 0} (step : S → List ℕ → Call → Answer → S → Type 0) where
  -- a device asks for the copies that a report is about, and this is the call of it
  pub record IsCallFor (by : List ℕ) (report : PlacedReport) (old new : S) (call : Call) : Type 0 where
    pub copies : List ℕ
    pub finds : Finds step by (named report) old copies new
    pub is : call_with report copies ≡ Some call

  -- it makes this call, and gets this answer
  pub record Makes (by : List ℕ) (report : PlacedReport) (old new : S) (answer : Answer) : Type 0 where
    pub mid : S
    pub call : Call
    pub called : IsCallFor by report old mid call
    pub made : step mid by call answer new

  module _ (settles : S → S → Type 0) where
    -- the call is made once, what it has made is kept, and this comes of it
    pub record Reports (by : List ℕ) (report : PlacedReport) (old new : S) (end : ReportEnd) : Type 0 where
      pub answer : Answer
      pub left : S
      pub makes : Makes by report old left answer
      pub keeps : settles left new
      pub ends : end_in answer ≡ Some end

    module _ (fails : S → List ℕ → Call → S → Type 0) (breaks_off : S → S → Type 0) where
      -- the call for it has no answer; or what it has made can't be kept; or its answer says nothing of it, as that of a hall
      -- never does
      abbrev pub IsUnanswered : List ℕ → PlacedReport → S → S → Type 0
      IsUnanswered by report old new = ((mid : S) × (call : Call) × IsCallFor by report old mid call × fails mid by call new)
          ⊎ ((answer : Answer) × (left : S) × Makes by report old left answer × breaks_off left new)
          ⊎ ((answer : Answer) × (left : S) × Makes by report old left answer × settles left new × (end_in answer ≡ None))

      -- why nothing is known to come of it: a copy isn't found, and then nothing is reported; or the call is unanswered
      abbrev pub ReportsNothing : List ℕ → PlacedReport → S → S → AskFault → Type 0
      ReportsNothing by report old new (NoCopy missing) = LooksInVain step fails by (named report) old new (NoCopy missing)
      ReportsNothing by report old new NoAnswer = LooksInVain step fails by (named report) old new NoAnswer ⊎ IsUnanswered by report old new
      ReportsNothing by report old new OutOfMemory = LooksInVain step fails by (named report) old new OutOfMemory

-- ---- what is printed

-- the line about what comes of a report
abbrev pub end_line : ReportEnd → List ℕ
end_line (ends.Entry entry) = codes "entry " ++ (decimal entry ++ codes "\n")
end_line (ends.Did kind entry) = kind_name kind ++ (codes ", entry " ++ (decimal entry ++ codes "\n"))
end_line ends.Known = codes "known\n"
end_line (ends.Refused cause) = codes "refused: " ++ (shown_cause cause ++ codes "\n")
end_line ends.NotKept = codes "refused: NotKept\n"

-- its status
abbrev pub end_status : ReportEnd → ℕ
end_status (ends.Refused cause) = 1
end_status ends.NotKept = 1
end_status end = 0
