-- Parts of what is reported by rounds.
use Rattle.std.specs.Prelude.{◌≡◌, ◌⊎◌, ℕ, Bool, true, false, List, ◌++◌, length, Option, Some, None}
use Rattle.std.specs.List.{list_any}
use Rattle.pana_calls.specs.Session.{one}
use Rattle.pana_calls.specs.declared.call.Call.{Call}
use Rattle.pana_calls.specs.declared.answer.Answer.{Answer}
use Rattle.pana_calls.specs.declared.message.Message.{Message}
use Rattle.pana_scan.specs.declared.notices.Notice.{Notice}
use Rattle.pana_track.specs.declared.fault.TrackFault.{TrackFault}
use Rattle.pana_track.specs.declared.fault.TrackFault.TheVariants.{NotKept, OutOfMemory}
use Rattle.pana_track.specs.declared.tally.TrackTally.{TrackTally}
use Rattle.pana_track.specs.Calls.{Asked, Makes, asked}
use Rattle.pana_track.specs.Tally.{noted_all}
use Rattle.pana_track.specs.Reports.{IsRound, ReportsBy, ReportsRounds, is_unkept, messages_of, moved}
use Rattle.pana_track.specs.inner.Reporting.{BreaksOff}

-- why it stops behind a list
abbrev pub stop_behind : Bool → Option TrackFault
stop_behind true = Some NotKept
stop_behind false = None

module _ {S : Type 0} (step : S → List ℕ → Call → Answer → S → Type 0) (device : List ℕ) (notices : List Notice) (old new : S) (tally_old tally_new : TrackTally) where
  -- the session makes a list of calls, one about each notice, and those are left of which something was done
  pub record MakesList (left_old left_new : List Notice) (stop : Option TrackFault) : Type 0 where
    pub answers : List Answer
    pub all : length answers ≡ length notices
    pub calls : Makes step old (asked (messages_of device notices) answers) new
    pub left : left_new ≡ left_old ++ moved notices answers
    pub tally : tally_new ≡ noted_all tally_old (asked (messages_of device notices) answers)
    pub stops : stop ≡ stop_behind (list_any is_unkept answers)

  -- it does so; or memory runs out before
  abbrev pub ReportsList : List Notice → List Notice → Option TrackFault → Type 0
  ReportsList left_old left_new stop = MakesList left_old left_new stop ⊎ ((stop ≡ Some OutOfMemory) × (new ≡ old) × (tally_new ≡ tally_old) × (left_new ≡ left_old))

  -- the first calls of the list are made, and the next ones have no answers
  pub record BreaksList (fails : S → List Message → S → Type 0) : Type 0 where
    pub answers : List Answer
    pub made : List Message
    pub tried : List Message
    pub behind : List Message
    pub split : messages_of device notices ≡ made ++ (tried ++ behind)
    pub all : length answers ≡ length made
    pub mid : S
    pub calls : Makes step old (asked made answers) mid
    pub failed : fails mid tried new
    pub tally : tally_new ≡ noted_all tally_old (asked made answers)

  -- the session makes the calls of a round, and those are left for the next one
  pub record ReportsRound (left_old left_new : List Notice) (stop : Option TrackFault) : Type 0 where
    pub lists : List (List Answer)
    pub made : List Asked
    pub left : List Notice
    pub calls : Makes step old made new
    pub is : IsRound device notices lists made left stop
    pub adds : left_new ≡ left_old ++ left
    pub tally : tally_new ≡ noted_all tally_old made

  -- the session makes the first calls of those that are so, and the next ones, which are made together, have no answers
  pub record BreaksIn (are : List Asked → Type 0) (fails : S → List Message → S → Type 0) : Type 0 where
    pub made : List Asked
    pub mid : S
    pub messages : List Message
    pub calls : Makes step old made mid
    pub next : (answers : List Answer) → length answers ≡ length messages → (others : List Asked) × are (made ++ (asked messages answers ++ others))
    pub failed : fails mid messages new
    pub tally : tally_new ≡ noted_all tally_old made

  -- in a round
  abbrev pub BreaksRound : (S → List Message → S → Type 0) → Type 0
  BreaksRound fails = BreaksIn (λ made. (lists : List (List Answer)) × (left : List Notice) × (stop : Option TrackFault) × IsRound device notices lists made left stop) fails

  -- the session reports by rounds
  pub record MakesRounds (stop : Option TrackFault) : Type 0 where
    pub made : List Asked
    pub calls : Makes step old made new
    pub are : ReportsRounds 1000 device notices made stop
    pub tally : tally_new ≡ noted_all tally_old made

  abbrev pub BreaksRounds : (S → List Message → S → Type 0) → Type 0
  BreaksRounds fails = BreaksIn (λ made. (stop : Option TrackFault) × ReportsRounds 1000 device notices made stop) fails

  -- the session reports all, by rounds or not
  pub record ReportsAllBy (together : Bool) (stop : Option TrackFault) : Type 0 where
    pub made : List Asked
    pub calls : Makes step old made new
    pub are : ReportsBy together device notices made stop
    pub tally : tally_new ≡ noted_all tally_old made

  -- it reports some, and the next have no answers
  abbrev pub BreaksOffBy : Bool → (S → List Message → S → Type 0) → Type 0
  BreaksOffBy false fails = BreaksOff step (one fails) device notices old new tally_old tally_new
  BreaksOffBy true fails = BreaksIn (λ made. (stop : Option TrackFault) × ReportsBy true device notices made stop) fails
