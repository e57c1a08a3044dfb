use Rattle.std.proofs.Common.{arith}
use Rattle.pana_wire.proofs.Said.{next_said, fault_at}
use Rattle.pana_wire.proofs.dump.decode_dump_lines.Goals as goal

pub returns-in-Err : goal.returns-in-Err
returns-in-Err c =
    fault_at c.args.lines.now c.loop-index.index _ c.loop-index.entries c.in-Err.fault (omega arith) c.loop-index.invariant c.in-Err.ensures.exact c.in-Err.ensures.memory

pub loop-index-preserved : goal.loop-index-preserved
loop-index-preserved c =
    next_said c.args.lines.now c.loop-index.index _ c.loop-index.entries _ c.in-Ok.more (omega arith) c.loop-index.invariant c.in-Ok.ensures.exact c.in_ok-append-in-Ok.ensures.ok
