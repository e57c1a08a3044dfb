-- No entry waits.
use Rattle.std.proofs.Common.{refl, arith}
use Rattle.pana_store.proofs.Waiting.{room_for_none}
use Rattle.pana_store.proofs.pending.Pending.new.Goals as goal

pub returns : goal.returns
returns c sealer = record {
  line = c.in_ok-line.ensures;
  counted = refl;
  like = tt;
  sealed = λ some. absurd (omega arith);
  room = room_for_none c.in_ok-line.line c.in_ok-line.ensures;
}
