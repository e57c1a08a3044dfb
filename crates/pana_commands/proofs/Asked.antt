-- What the replies to questions say.
use Rattle.std.specs.Prelude.{◌≡◌, ℕ, List, Option, Some, None}
use Rattle.std.proofs.Common.{refl, inl, inr}
use Rattle.pana_journal.specs.declared.entry.Entry.{Entry}
use Rattle.pana_calls.specs.declared.board.BoardView.{BoardView}
use Rattle.pana_calls.specs.declared.call.Call.TheVariants as calls
use Rattle.pana_calls.specs.declared.call.Query.{Query}
use Rattle.pana_calls.specs.declared.call.Query.TheVariants as queries
use Rattle.pana_calls.specs.declared.cause.Cause.{Cause}
use Rattle.pana_calls.specs.declared.family_row.FamilyRow.{FamilyRow}
use Rattle.pana_calls.specs.declared.reply.Reply.{Reply}
use Rattle.pana_calls.specs.declared.reply.Reply.TheVariants as replies
use Rattle.pana_hall.specs.Board.{board_of}
use Rattle.pana_hall.specs.Living.{living}
use Rattle.pana_hall.specs.Permit.{Permits, PermitsBy, journal_after}
use Rattle.pana_hall.specs.Queries.{family_rows}
use Rattle.pana_hall.specs.Refusal.{refusal}

-- a question leaves the journal
pub asked : (journal : List Entry) (by : List ℕ) (query : Query) (reply : Reply) → journal_after journal by (calls.Query query) reply ≡ journal
unfolding journal_after
asked journal by query (replies.Done entry) = refl
asked journal by query (replies.Did kind entry) = refl
asked journal by query (replies.Known copy) = refl
asked journal by query (replies.Families rows) = refl
asked journal by query (replies.Board board) = refl
asked journal by query (replies.Stamps stamps) = refl
asked journal by query (replies.Pair rel) = refl
asked journal by query (replies.Holdings holdings) = refl
asked journal by query (replies.At standing) = refl
asked journal by query (replies.Status rows) = refl
asked journal by query (replies.Journal entries) = refl
asked journal by query (replies.Counts counts) = refl
asked journal by query (replies.Refused cause) = refl

board_by : (cause : Option Cause) (journal : List Entry) (family : ℕ) (board : BoardView)
    → PermitsBy cause journal (calls.Query (queries.Board family)) (replies.Board board) → board ≡ board_of family (living journal)
board_by (Some cause) journal family board permits = absurd (cc)
board_by None journal family board (inl same) = cc
board_by None journal family board (inr (cause, shortage, odd)) = absurd (cc)

pub board_asked : (journal : List Entry) (by : List ℕ) (family : ℕ) (board : BoardView)
    → Permits journal by (calls.Query (queries.Board family)) (replies.Board board) → board ≡ board_of family (living journal)
unfolding Permits
board_asked journal by family board permits = board_by (refusal journal by (calls.Query (queries.Board family))) journal family board permits

families_by : (cause : Option Cause) (journal : List Entry) (rows : List FamilyRow)
    → PermitsBy cause journal (calls.Query queries.Families) (replies.Families rows) → rows ≡ family_rows journal (living journal)
families_by (Some cause) journal rows permits = absurd (cc)
families_by None journal rows (inl same) = cc
families_by None journal rows (inr (cause, shortage, odd)) = absurd (cc)

pub families_asked : (journal : List Entry) (by : List ℕ) (rows : List FamilyRow)
    → Permits journal by (calls.Query queries.Families) (replies.Families rows) → rows ≡ family_rows journal (living journal)
unfolding Permits
families_asked journal by rows permits = families_by (refusal journal by (calls.Query queries.Families)) journal rows permits
