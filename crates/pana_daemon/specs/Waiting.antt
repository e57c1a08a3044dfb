-- Calls that wait for an entry, and answers that say of one.
use Rattle.std.specs.Prelude.{ℕ, Option, Some, None}
use Rattle.pana_calls.specs.declared.answer.Answer.{Answer}
use Rattle.pana_calls.specs.declared.answer.Answer.TheVariants.{Given}
use Rattle.pana_calls.specs.declared.call.Call.{Call}
use Rattle.pana_calls.specs.declared.call.Call.TheVariants as calls
use Rattle.pana_calls.specs.declared.call.Query.TheVariants as queries
use Rattle.pana_calls.specs.declared.reply.Reply.TheVariants as replies

-- the entry that a call waits for, and for how many seconds at most
abbrev pub awaited_by : Call → Option (ℕ × ℕ)
awaited_by (calls.Query (queries.JournalAwaited entry seconds)) = Some (entry, seconds)
awaited_by call = None

-- the last entry of the journal, where the answer says that the call has made it
abbrev pub made_by : Answer → Option ℕ
made_by (Given (replies.Done entry)) = Some entry
made_by (Given (replies.Did kind entry)) = Some entry
made_by answer = None
