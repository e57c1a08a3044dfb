use Rattle.std.proofs.Common.{refl}
use Rattle.pana_shared_tests.proofs.life.live.Goals as goal

pub returns : goal.returns
returns g c known = (
  record { log = g.L.SharedLog.seen c.args.log; opened = c.in_ok-store.store; deeds = c.call_all.ensures.0; last = c.call_all.new.store },
  record { by = refl; fresh = c.requires known; opens = c.in_ok-store.ensures.opens; lives = c.call_all.ensures.1; ends = refl },
  c.call_all.ensures.2,
  refl,
  c.in_ok-store.ensures.stale,
)
