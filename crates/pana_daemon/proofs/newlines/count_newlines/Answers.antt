use Rattle.pana_daemon.proofs.Counted.{all_counted, more_counted, none_counted}
use Rattle.pana_daemon.proofs.newlines.count_newlines.Goals as goal

pub loop-init : goal.loop-init
loop-init g c = (tt, none_counted g.R.Read.remaining c.args.ticks.now c.args.input.now c.args.counter.now c.requires.unused c.requires.new)

pub loop-preserved : goal.loop-preserved
loop-preserved g c =
    (tt, more_counted g.R.Read.remaining c.args.ticks.now c.args.input.now c.loop.input c.count_piece.new.input c.loop.counter c.count_piece.new.counter c.count_piece.result c.if-not-count_piece.false c.loop.invariant.1 c.count_piece.ensures)

pub returns-then-not-count_piece : goal.returns-then-not-count_piece
returns-then-not-count_piece g c =
    let all = all_counted g.R.Read.remaining c.args.ticks.now c.args.input.now c.loop.input c.count_piece.new.input c.loop.counter c.count_piece.new.counter c.end.new.counter c.count_piece.result c.if-not-count_piece.true c.loop.invariant.1 c.count_piece.ensures c.end.ensures in
    record { id = all.0; counts = all.1 }
