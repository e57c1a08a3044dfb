-- Parts of what is reported.
use Rattle.std.specs.Prelude.{◌≡◌, ℕ, List, [], ◌∷◌, ◌++◌, Option, Some, None, if◌then◌else◌}
use Rattle.pana_calls.specs.declared.call.Call.{Call}
use Rattle.pana_calls.specs.declared.call.Call.TheVariants as calls
use Rattle.pana_calls.specs.declared.call.Query.TheVariants as queries
use Rattle.pana_calls.specs.declared.holding.Holding.{Holding}
use Rattle.pana_calls.specs.declared.answer.Answer.{Answer}
use Rattle.pana_calls.specs.declared.answer.Answer.TheVariants as answers
use Rattle.pana_scan.specs.declared.notices.Notice.{Notice}
use Rattle.pana_scan.specs.Notice.{call_of}
use Rattle.pana_track.specs.declared.fault.TrackFault.{TrackFault}
use Rattle.pana_track.specs.declared.tally.TrackTally.{TrackTally}
use Rattle.pana_track.specs.declared.reporting.CallEnd.{CallEnd}
use Rattle.pana_track.specs.declared.reporting.CallEnd.TheVariants as ends
use Rattle.pana_track.specs.Calls.{Asked, Makes}
use Rattle.pana_track.specs.Tally.{noted, noted_all}
use Rattle.pana_track.specs.Reports.{Reports, has_moved}
use Rattle.pana_calls.specs.Parts.{holdings_in}

-- how a call that reports something ends, by its answer
abbrev pub end_of : Notice → Answer → CallEnd
end_of notice answers.NotKept = ends.NotKept
end_of notice (answers.Given reply) = if has_moved notice (answers.Given reply) then ends.Moved else ends.Settled

-- the session makes a call about it, with this answer
abbrev pub Answers : {S : Type 0} → (S → List ℕ → Call → Answer → S → Type 0) → List ℕ → Notice → S → S → TrackTally → TrackTally → CallEnd → Type 0
Answers step device notice old new tally_old tally_new end =
    (answer : Answer) × step old device (call_of device notice) answer new × (tally_new ≡ noted tally_old answer) × (end ≡ end_of notice answer)

-- the session makes a call about it; or memory runs out before
abbrev pub CallsOnce : {S : Type 0} → (S → List ℕ → Call → Answer → S → Type 0) → List ℕ → Notice → S → S → TrackTally → TrackTally → CallEnd → Type 0
CallsOnce step device notice old new tally_old tally_new ends.OutOfMemory = (new ≡ old) × (tally_new ≡ tally_old)
CallsOnce step device notice old new tally_old tally_new ends.NotKept = Answers step device notice old new tally_old tally_new ends.NotKept
CallsOnce step device notice old new tally_old tally_new ends.Moved = Answers step device notice old new tally_old tally_new ends.Moved
CallsOnce step device notice old new tally_old tally_new ends.Settled = Answers step device notice old new tally_old tally_new ends.Settled

-- these calls report what was first noticed, of which there may be so many more than one, up to where it stops, or else to
-- the end; what is reported of the others follows
abbrev pub AreFirst : ℕ → List ℕ → Notice → List Asked → Option TrackFault → Type 0
AreFirst more device notice made (Some fault) = (notices : List Notice) → Reports more device (notice ∷ notices) made (Some fault)
AreFirst more device notice made None =
    (notices : List Notice) (others : List Asked) (stop : Option TrackFault) → Reports 999 device notices others stop → Reports more device (notice ∷ notices) (made ++ others) stop

-- the session reports one thing
pub record ReportsOne {S : Type 0} (step : S → List ℕ → Call → Answer → S → Type 0) (device : List ℕ) (notice : Notice) (old new : S) (tally_old tally_new : TrackTally) (stop : Option TrackFault) : Type 0 where
  pub made : List Asked
  pub calls : Makes step old made new
  pub are : AreFirst 999 device notice made stop
  pub tally : tally_new ≡ noted_all tally_old made

-- the session reports all
pub record ReportsAll {S : Type 0} (step : S → List ℕ → Call → Answer → S → Type 0) (device : List ℕ) (notices : List Notice) (old new : S) (tally_old tally_new : TrackTally) (stop : Option TrackFault) : Type 0 where
  pub made : List Asked
  pub calls : Makes step old made new
  pub are : Reports 999 device notices made stop
  pub tally : tally_new ≡ noted_all tally_old made

-- the session reports one thing so far, and the next call has no answer
pub record BreaksOne {S : Type 0} (step : S → List ℕ → Call → Answer → S → Type 0) (fails : S → List ℕ → Call → S → Type 0) (device : List ℕ) (notice : Notice) (old new : S) (tally_old tally_new : TrackTally) : Type 0 where
  pub made : List Asked
  pub mid : S
  pub call : Call
  pub calls : Makes step old made mid
  pub next : (notices : List Notice) (answer : Answer) → (stop : Option TrackFault) × Reports 999 device (notice ∷ notices) (made ++ record { by = device; call = call; answer = answer } ∷ []) stop
  pub failed : fails mid device call new
  pub tally : tally_new ≡ noted_all tally_old made

-- the session reports some, and the next call has no answer
pub record BreaksOff {S : Type 0} (step : S → List ℕ → Call → Answer → S → Type 0) (fails : S → List ℕ → Call → S → Type 0) (device : List ℕ) (notices : List Notice) (old new : S) (tally_old tally_new : TrackTally) : Type 0 where
  pub made : List Asked
  pub mid : S
  pub call : Call
  pub calls : Makes step old made mid
  pub next : (answer : Answer) → (stop : Option TrackFault) × Reports 999 device notices (made ++ record { by = device; call = call; answer = answer } ∷ []) stop
  pub failed : fails mid device call new
  pub tally : tally_new ≡ noted_all tally_old made

-- the device asks for its holdings
abbrev pub Asks : {S : Type 0} → (S → List ℕ → Call → Answer → S → Type 0) → List ℕ → S → S → TrackTally → TrackTally → Option (List Holding) → Type 0
Asks step device old new tally_old tally_new held =
    (answer : Answer) × step old device (calls.Query (queries.Holdings device None)) answer new × (held ≡ holdings_in answer) × (tally_new ≡ noted tally_old answer)
