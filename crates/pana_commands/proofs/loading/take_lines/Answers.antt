use Rattle.std.proofs.Common.{◌++◌, refl, arith}
use Rattle.pana_wire.proofs.Said.{next_said, fault_at}
use Rattle.pana_commands.proofs.loading.take_lines.Goals as goal

pub returns-in-Err : goal.returns-in-Err
returns-in-Err c =
    fault_at c.args.lines.now c.loop-index.index _ c.loop-index.invariant.0 c.in-Err.fault (omega arith) c.loop-index.invariant.1 c.in-Err.ensures.exact c.in-Err.ensures.memory

pub loop-index-preserved : goal.loop-index-preserved
loop-index-preserved c =
    let before = c.loop-index.invariant in
    let said = before.0 ++ c.in-Ok.more in
    (said, next_said c.args.lines.now c.loop-index.index _ before.0 said c.in-Ok.more (omega arith) before.1 c.in-Ok.ensures.exact refl, c.with-taken.ensures before.0 before.2)
