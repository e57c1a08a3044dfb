-- What an answer has of what was asked for; none where it is another answer.
use Rattle.std.specs.Prelude.{List, Option, Some, None}
use Rattle.pana_journal.specs.declared.entry.Entry.{Entry}
use Rattle.pana_calls.specs.declared.answer.Answer.{Answer}
use Rattle.pana_calls.specs.declared.answer.Answer.TheVariants.{Given}
use Rattle.pana_calls.specs.declared.board.BoardView.{BoardView}
use Rattle.pana_calls.specs.declared.family_row.FamilyRow.{FamilyRow}
use Rattle.pana_calls.specs.declared.hall_counts.HallCounts.{HallCounts}
use Rattle.pana_calls.specs.declared.holding.Holding.{Holding}
use Rattle.pana_calls.specs.declared.reply.Reply.TheVariants.{At, Board, Counts, Families, Holdings, Journal, Status}
use Rattle.pana_calls.specs.declared.standing.CopyStanding.{CopyStanding}
use Rattle.pana_calls.specs.declared.standing.StatusRow.{StatusRow}

abbrev pub families_in : Answer → Option (List FamilyRow)
families_in (Given (Families families)) = Some families
families_in answer = None

abbrev pub board_in : Answer → Option BoardView
board_in (Given (Board board)) = Some board
board_in answer = None

abbrev pub holdings_in : Answer → Option (List Holding)
holdings_in (Given (Holdings holdings)) = Some holdings
holdings_in answer = None

abbrev pub standing_in : Answer → Option (Option CopyStanding)
standing_in (Given (At standing)) = Some standing
standing_in answer = None

abbrev pub status_in : Answer → Option (List StatusRow)
status_in (Given (Status status)) = Some status
status_in answer = None

abbrev pub journal_in : Answer → Option (List Entry)
journal_in (Given (Journal journal)) = Some journal
journal_in answer = None

abbrev pub counts_in : Answer → Option HallCounts
counts_in (Given (Counts counts)) = Some counts
counts_in answer = None
