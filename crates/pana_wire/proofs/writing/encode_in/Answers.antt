-- Each reply is an object with the members that were written.
use Rattle.std.specs.Prelude.{Option, Some, None}
use Rattle.std.proofs.Common.{◌≡◌, refl}
use Rattle.json.specs.Print.{escape_byte}
use Rattle.pana_calls.specs.declared.standing.CopyStanding.{CopyStanding}
use Rattle.pana_wire.specs.inner.Pieces.{data_or_null}
use Rattle.pana_wire.specs.Reply.{at_data, families_data, holdings_data, reply_data, reply_text, stamps_data, standing_data, status_data, with_sum}
use Rattle.pana_wire.proofs.writing.encode_in.Goals as goal

standing_same : (standing : Option CopyStanding) → data_or_null (λ s. with_sum s.sum (standing_data s)) standing ≡ at_data standing
standing_same None = refl
standing_same (Some standing) = refl

pub returns-in-Done-clause-text : goal.returns-in-Done-clause-text
unfolding reply_text reply_data escape_byte
returns-in-Done-clause-text c = rw c.in-Done.is c.text_around.ensures.text

pub returns-in-Families-clause-text : goal.returns-in-Families-clause-text
unfolding reply_text reply_data families_data
returns-in-Families-clause-text c = rw (c.in-Families.is, ← c.as_slice.ensures) c.list_text.ensures.text

pub returns-in-Board-clause-text : goal.returns-in-Board-clause-text
unfolding reply_text reply_data
returns-in-Board-clause-text c = rw c.in-Board.is c.member_text.ensures.text

pub returns-in-Stamps-clause-text : goal.returns-in-Stamps-clause-text
unfolding reply_text reply_data stamps_data
returns-in-Stamps-clause-text c = rw (c.in-Stamps.is, ← c.as_slice-in-Stamps.ensures) c.list_text-in-Stamps.ensures.text

pub returns-in-Holdings-clause-text : goal.returns-in-Holdings-clause-text
unfolding reply_text reply_data holdings_data
returns-in-Holdings-clause-text c = rw (c.in-Holdings.is, ← c.as_slice-in-Holdings.ensures.holdings) c.list_text-in-Holdings.ensures.text

pub returns-in-At-clause-text : goal.returns-in-At-clause-text
unfolding reply_text reply_data
returns-in-At-clause-text c = rw (c.in-At.is, ← standing_same c.in-At.standing) c.member_text-in-At.ensures.text

pub returns-in-Status-clause-text : goal.returns-in-Status-clause-text
unfolding reply_text reply_data status_data
returns-in-Status-clause-text c = rw (c.in-Status.is, ← c.as_slice-in-Status.ensures) c.list_text-in-Status.ensures.text

pub returns-in-Counts-clause-text : goal.returns-in-Counts-clause-text
unfolding reply_text reply_data
returns-in-Counts-clause-text c = rw c.in-Counts.is c.member_text-in-Counts.ensures.text
