-- What is counted of calls.
use Rattle.std.specs.Prelude.{ℕ, ◌+◌, ◌-◌, ◌^◌, min, List, [], ◌∷◌, Option, Some, None}
use Rattle.pana_calls.specs.declared.cause.Cause.{Cause}
use Rattle.pana_calls.specs.declared.reply.Reply.TheVariants.{Done, Did, Refused}
use Rattle.pana_calls.specs.declared.answer.Answer.{Answer}
use Rattle.pana_calls.specs.declared.answer.Answer.TheVariants.{Given}
use Rattle.pana_track.specs.declared.tally.TrackTally.{TrackTally}
use Rattle.pana_track.specs.Calls.{Asked}

-- no call yet
abbrev pub nothing : TrackTally
nothing = record { done = 0; refused = 0; cause = None }

-- one more, up to the greatest number of 64 bits
abbrev pub one_more : ℕ → ℕ
one_more n = min (n + 1) (2 ^ 64 - 1)

-- the first cause there is
abbrev pub first_cause : Option Cause → Cause → Option Cause
first_cause (Some cause) other = Some cause
first_cause None other = Some other

-- the tally with one more call, by its answer
abbrev pub noted : TrackTally → Answer → TrackTally
noted tally (Given (Done entry)) = record tally { done = one_more tally.done }
noted tally (Given (Did kind entry)) = record tally { done = one_more tally.done }
noted tally (Given (Refused cause)) = record tally { refused = one_more tally.refused; cause = first_cause tally.cause cause }
noted tally answer = tally

-- the tally with these calls more
abbrev pub noted_all : TrackTally → List Asked → TrackTally
noted_all tally [] = tally
noted_all tally (made ∷ others) = noted_all (noted tally made.answer) others
