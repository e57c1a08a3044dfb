-- The replies that are permitted, and the journal that each leaves.
use Rattle.std.specs.Prelude.{◌≡◌, ℕ, ◌+◌, List, [], ◌∷◌, ◌++◌, length, Option, Some, None, ◌⊎◌}
use Rattle.pana_journal.specs.declared.entry.Entry.{Entry}
use Rattle.pana_calls.specs.declared.call.Query.{Query}
use Rattle.pana_calls.specs.declared.call.Query.TheVariants as queries
use Rattle.pana_calls.specs.declared.call.Call.{Call}
use Rattle.pana_calls.specs.declared.call.Call.TheVariants as calls
use Rattle.pana_hall.specs.declared.decision.Decision.{Decision}
use Rattle.pana_hall.specs.declared.decision.Decision.TheVariants as decisions
use Rattle.pana_calls.specs.declared.cause.Cause.{Cause}
use Rattle.pana_calls.specs.declared.cause.Cause.TheVariants as causes
use Rattle.pana_calls.specs.declared.reply.Reply.{Reply}
use Rattle.pana_calls.specs.declared.reply.Reply.TheVariants as replies
use Rattle.pana_hall.specs.Living.{living}
use Rattle.pana_hall.specs.Board.{board_of}
use Rattle.pana_calls.specs.declared.copy_stamp.CopyStamp.{CopyStamp}
use Rattle.pana_hall.specs.Stamps.{AreStampsOf}
use Rattle.pana_hall.specs.Queries.{counts_of, family_rows, pair_of, holdings, holdings_from}
use Rattle.pana_hall.specs.Status.{standing_at, status_rows}
use Rattle.pana_journal.specs.Entries.{page}
use Rattle.pana_journal.specs.Reports.{kind_of}
use Rattle.pana_hall.specs.Finding.{decision}
use Rattle.pana_hall.specs.Refusal.{refusal, with_report}

-- the reply answers the query
abbrev pub Answers : List Entry → Query → Reply → Type 0
Answers journal queries.Families reply = reply ≡ replies.Families (family_rows journal (living journal))
Answers journal (queries.Board family) reply = reply ≡ replies.Board (board_of family (living journal))
Answers journal (queries.Stamps family) reply = (stamps : List CopyStamp) × AreStampsOf family journal stamps × (reply ≡ replies.Stamps stamps)
Answers journal (queries.Pair a b) reply = reply ≡ replies.Pair (pair_of (living journal) a b)
Answers journal (queries.Holdings device from) reply = reply ≡ replies.Holdings (holdings_from from (holdings (living journal) device))
Answers journal (queries.At place) reply = reply ≡ replies.At (standing_at (living journal) place)
Answers journal (queries.Status device from) reply = reply ≡ replies.Status (status_rows (living journal) device from)
Answers journal (queries.JournalFrom n) reply = reply ≡ replies.Journal (page journal n)
Answers journal (queries.JournalAwaited n seconds) reply = reply ≡ replies.Journal (page journal n)
Answers journal queries.Counts reply = reply ≡ replies.Counts (counts_of (living journal))

-- the reply where what is done of a sighting is done
abbrev pub reply_of : List Entry → Decision → Reply
reply_of journal (decisions.Known copy) = replies.Known copy
reply_of journal (decisions.One report) = replies.Did (kind_of report) (length journal + 1)
reply_of journal (decisions.Both report second) = replies.Did (kind_of second) (length journal + 2)

-- the journal then
abbrev pub after_decision : List Entry → List ℕ → Decision → List Entry
after_decision journal by (decisions.Known copy) = journal
after_decision journal by (decisions.One report) = with_report journal by report
after_decision journal by (decisions.Both report second) = with_report (with_report journal by report) by second

-- the reply grants a call that nothing stands against: a report is the next entry, what is done of a sighting is done, a query is
-- answered
abbrev pub Grants : List Entry → Call → Reply → Type 0
Grants journal (calls.Report report) reply = reply ≡ replies.Done (length journal + 1)
Grants journal (calls.Sighting sighting) reply = reply ≡ reply_of journal (decision (living journal) sighting)
Grants journal (calls.Query query) reply = Answers journal query reply

-- the call may be refused so for a shortage, although nothing stands against it: memory may run out, but for a Pair and for Counts
abbrev pub IsShortage : List Entry → Call → Cause → Type 0
IsShortage journal (calls.Query (queries.Pair a b)) cause = ⊥
IsShortage journal (calls.Query queries.Counts) cause = ⊥
IsShortage journal call cause = cause ≡ causes.OutOfMemory

-- the reply to a call, given why it is refused: that cause and no other, but that memory may run out before it is found what a
-- sighting comes to; else what is granted, or a shortage
abbrev pub PermitsBy : Option Cause → List Entry → Call → Reply → Type 0
PermitsBy (Some cause) journal (calls.Sighting sighting) reply = (reply ≡ replies.Refused cause) ⊎ (reply ≡ replies.Refused causes.OutOfMemory)
PermitsBy (Some cause) journal call reply = reply ≡ replies.Refused cause
PermitsBy None journal call reply = Grants journal call reply ⊎ ((cause : Cause) × IsShortage journal call cause × (reply ≡ replies.Refused cause))

-- the reply is permitted to the device's call on the journal
unfoldable pub Permits : List Entry → List ℕ → Call → Reply → Type 0
Permits journal by call reply = PermitsBy (refusal journal by call) journal call reply

-- the journal after a call: one entry longer where a report was done, with what was done of a sighting, and else as it was
unfoldable pub journal_after : List Entry → List ℕ → Call → Reply → List Entry
journal_after journal by (calls.Report report) (replies.Done n) = journal ++ record { number = n; by = by; report = report } ∷ []
journal_after journal by (calls.Sighting sighting) (replies.Did kind n) = after_decision journal by (decision (living journal) sighting)
journal_after journal by _ _ = journal
