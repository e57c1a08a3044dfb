-- The line is what had begun, with the bytes that end it.
use Rattle.std.proofs.Common.{◌≡◌, ◌==◌, true, length, sym, ◌∙◌, ◌++◌}
use Rattle.pana_wire.proofs.Lines.{held_so, whole_held}
use Rattle.pana_wire.proofs.Rounds.{is_read}
use Rattle.pana_wire.proofs.round.read_line.Goals as goal

pub returns-then-is_empty-clause-said : goal.returns-then-is_empty-clause-said
returns-then-is_empty-clause-said c begun is =
    let none : (length c.args.held.now == 0) ≡ true = sym c.is_empty.ensures ∙ c.if-is_empty.true in
    is_read c.read.result c.first_bytes.result.now (begun ++ c.args.last.now) (whole_held c.args.held.now begun c.args.last.now c.first_bytes.result.now is none c.first_bytes.ensures) c.read.ensures.exact c.read.ensures.memory

pub returns-clause-said : goal.returns-clause-said
returns-clause-said c begun is =
    is_read c.read-said.result c.as_slice.result.now (begun ++ c.args.last.now) (held_so c.args.held.now begun c.args.last.now _ _ is c.extend.ensures c.as_slice.ensures) c.read-said.ensures.exact c.read-said.ensures.memory
