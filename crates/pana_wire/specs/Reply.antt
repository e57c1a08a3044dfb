-- The object that each reply stands for, and its text.
use Rattle.std.specs.Prelude.{ℕ, List, map, codes, Option, Some, None, string_bytes}
use Rattle.serde_json.specs.Data.{Data, boolean, string, array, object, member, no_members, null, put}
use Rattle.serde_json.specs.View.{items_of}
use Rattle.serde_json.specs.Written.{compact_text}
use Rattle.pana_event.specs.Relation.{rel_name}
use Rattle.pana_journal.specs.declared.entry.Entry.{Entry}
use Rattle.pana_calls.specs.declared.family_row.FamilyRow.{FamilyRow}
use Rattle.pana_calls.specs.declared.hall_counts.HallCounts.{HallCounts}
use Rattle.pana_calls.specs.declared.holding.Holding.{Holding}
use Rattle.pana_calls.specs.declared.board.BoardRow.{BoardRow}
use Rattle.pana_calls.specs.declared.board.BoardView.{BoardView}
use Rattle.pana_calls.specs.declared.cause.Cause.{Cause}
use Rattle.pana_calls.specs.declared.copy_stamp.CopyStamp.{CopyStamp}
use Rattle.pana_calls.specs.declared.reply.Reply.{Reply}
use Rattle.pana_calls.specs.declared.reply.Reply.TheVariants.{Done, Did, Known, Families, Board, Stamps, Pair, Holdings, At, Status, Journal, Counts, Refused}
use Rattle.pana_calls.specs.declared.standing.CopyStanding.{CopyStanding}
use Rattle.pana_calls.specs.declared.standing.PlacedCopy.{PlacedCopy}
use Rattle.pana_calls.specs.declared.standing.StatusRow.{StatusRow}
use Rattle.pana_calls.specs.Cause.{code_of, cause_name, cause_copy}
use Rattle.pana_calls.specs.Standing.{state_name}
use Rattle.pana_wire.specs.Word.{word_name}
use Rattle.pana_wire.specs.Report.{number_data, kind_word, entry_data}

-- a list of numbers
unfoldable pub numbers_data : List ℕ → Data
numbers_data numbers = array (items_of (map number_data numbers))

-- a copy on a board
unfoldable pub row_data : BoardRow → Data
row_data row = object (
    member (codes "conflict") (number_data row.conflict) (
    member (codes "copy") (number_data row.copy) (
    member (codes "device") (string row.place.device) (
    member (codes "equal") (number_data row.equal) (
    member (codes "newer") (number_data row.newer) (
    member (codes "older") (number_data row.older) (
    member (codes "path") (string row.place.path)
    no_members)))))))

-- the copies on a board
unfoldable pub rows_data : List BoardRow → Data
rows_data rows = array (items_of (map row_data rows))

-- a board
unfoldable pub board_data : BoardView → Data
board_data board = object (
    member (codes "copies") (rows_data board.rows) (
    member (codes "family") (number_data board.family) (
    member (codes "newest") (numbers_data board.newest) (
    member (codes "split") (boolean board.split)
    no_members))))

-- a family with a living copy
unfoldable pub family_data : FamilyRow → Data
family_data row = object (
    member (codes "copies") (number_data row.copies) (
    member (codes "family") (number_data row.family) (
    member (codes "newest") (number_data row.newest) (
    member (codes "split") (boolean row.split)
    no_members))))

unfoldable pub families_data : List FamilyRow → Data
families_data rows = array (items_of (map family_data rows))

-- a copy's stamp
unfoldable pub stamp_data : CopyStamp → Data
stamp_data stamp = object (
    member (codes "copy") (number_data stamp.copy) (
    member (codes "stamp") (string (string_bytes stamp.text))
    no_members))

unfoldable pub stamps_data : List CopyStamp → Data
stamps_data stamps = array (items_of (map stamp_data stamps))

-- the object, and where a sum is known one member more for it
abbrev pub with_sum : Option (List ℕ) → Data → Data
with_sum (Some sum) (object members) = object (put (codes "sum") (string sum) members)
with_sum _ d = d

-- a living copy on a device
unfoldable pub holding_data : Holding → Data
holding_data holding = with_sum holding.sum (object (
    member (codes "copy") (number_data holding.copy) (
    member (codes "family") (number_data holding.family) (
    member (codes "path") (string holding.path) (
    member (codes "touch") (number_data holding.touch)
    no_members)))))

unfoldable pub holdings_data : List Holding → Data
holdings_data holdings = array (items_of (map holding_data holdings))

-- a living copy: how it relates to the others of its family
unfoldable pub standing_data : CopyStanding → Data
standing_data standing = object (
    member (codes "conflict") (number_data standing.conflict) (
    member (codes "copy") (number_data standing.copy) (
    member (codes "equal") (number_data standing.equal) (
    member (codes "family") (number_data standing.family) (
    member (codes "newer") (number_data standing.newer) (
    member (codes "older") (number_data standing.older) (
    member (codes "state") (string (state_name standing.state))
    no_members)))))))

-- the living copy at a place; where there is none, `null`
abbrev pub at_data : Option CopyStanding → Data
at_data None = null
at_data (Some standing) = with_sum standing.sum (standing_data standing)

-- a copy and its place
unfoldable pub placed_data : PlacedCopy → Data
placed_data placed = object (
    member (codes "copy") (number_data placed.copy) (
    member (codes "device") (string placed.place.device) (
    member (codes "path") (string placed.place.path)
    no_members)))

-- a copy that is obsolete or in conflict, and the other
unfoldable pub status_row_data : StatusRow → Data
status_row_data row = object (
    member (codes "copy") (number_data row.copy) (
    member (codes "device") (string row.place.device) (
    member (codes "path") (string row.place.path) (
    member (codes "state") (string (state_name row.state)) (
    member (codes "with") (placed_data row.with)
    no_members)))))

unfoldable pub status_data : List StatusRow → Data
status_data rows = array (items_of (map status_row_data rows))

-- entries of the journal
unfoldable pub entries_data : List Entry → Data
entries_data entries = array (items_of (map entry_data entries))

-- how many copies live, and on how many devices
unfoldable pub counts_data : HallCounts → Data
counts_data counts = object (
    member (codes "copies") (number_data counts.copies) (
    member (codes "devices") (number_data counts.devices)
    no_members))

-- a refusal: the code and the name of its cause, with the copy that it names between them
abbrev pub refusal_data : ℕ → Option ℕ → List ℕ → Data
refusal_data code None name = object (
    member (codes "code") (number_data code) (
    member (codes "refused") (string name)
    no_members))
refusal_data code (Some copy) name = object (
    member (codes "code") (number_data code) (
    member (codes "copy") (number_data copy) (
    member (codes "refused") (string name)
    no_members)))

-- the refusal that a cause stands for
unfoldable pub refused_data : Cause → Data
refused_data cause = refusal_data (code_of cause) (cause_copy cause) (cause_name cause)

-- a number, where there is one, and else `null`
abbrev pub number_or_null : Option ℕ → Data
number_or_null None = null
number_or_null (Some n) = number_data n

-- the object that a reply stands for
unfoldable pub reply_data : Reply → Data
reply_data (Done entry) = object (member (codes "done") (number_data entry) no_members)
reply_data (Did kind entry) = object (
    member (codes "did") (string (word_name (kind_word kind))) (
    member (codes "done") (number_data entry)
    no_members))
reply_data (Known copy) = object (member (codes "known") (number_or_null copy) no_members)
reply_data (Families rows) = object (member (codes "families") (families_data rows) no_members)
reply_data (Board board) = object (member (codes "board") (board_data board) no_members)
reply_data (Stamps stamps) = object (member (codes "stamps") (stamps_data stamps) no_members)
reply_data (Pair rel) = object (member (codes "pair") (string (rel_name rel)) no_members)
reply_data (Holdings holdings) = object (member (codes "holdings") (holdings_data holdings) no_members)
reply_data (At standing) = object (member (codes "at") (at_data standing) no_members)
reply_data (Status rows) = object (member (codes "status") (status_data rows) no_members)
reply_data (Journal entries) = object (member (codes "entries") (entries_data entries) no_members)
reply_data (Counts counts) = object (member (codes "counts") (counts_data counts) no_members)
reply_data (Refused cause) = refused_data cause

-- the text of a reply: its object, with no blank
unfoldable pub reply_text : Reply → List ℕ
reply_text reply = compact_text (reply_data reply)
