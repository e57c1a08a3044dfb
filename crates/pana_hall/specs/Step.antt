-- One call as a step from journal to journal.
use Rattle.std.specs.Prelude.{◌≡◌, ℕ, List}
use Rattle.pana_journal.specs.declared.entry.Entry.{Entry}
use Rattle.pana_calls.specs.declared.answer.Answer.{Answer}
use Rattle.pana_calls.specs.declared.answer.Answer.TheVariants.{Given, NotKept}
use Rattle.pana_calls.specs.declared.call.Call.{Call}
use Rattle.pana_calls.specs.declared.reply.Reply.{Reply}
use Rattle.pana_hall.specs.Permit.{Permits, journal_after}

-- on the old journal the device's call may get the reply, which leaves the new journal
abbrev pub Steps : List Entry → List ℕ → Call → Reply → List Entry → Type 0
Steps old by call reply new = Permits old by call reply × (new ≡ journal_after old by call reply)

-- a hall by itself: its reply is the answer
abbrev pub Replies : List Entry → List ℕ → Call → Answer → List Entry → Type 0
Replies old by call (Given reply) new = Steps old by call reply new
Replies old by call NotKept new = ⊥
