use Rattle.std.proofs.Common.{refl}
use Rattle.pana_shared_store.proofs.Placed.{looked_on}
use Rattle.pana_shared_store.proofs.Readied.{store_opened}
use Rattle.pana_shared_store.proofs.store.SharedStore.open.Goals as goal

pub returns-clause-opens : goal.returns-clause-opens
returns-clause-opens g c = record {
  on = record {
    goes_on = (c.in_ok-hall.hall, refl);
    first = c.in_ok-hall.ensures.first;
    own = λ known. (c.read_hall.ensures.reads known).grows;
    follows = λ known. looked_on (g.L.SharedLog.seen c.args.log) (g.L.SharedLog.seen c.read_hall.new.log) (c.read_hall.ensures.reads known);
  };
  all = c.in_ok-hall.ensures.all;
  turn = refl;
  whole = refl;
}

pub invariant_of-result : goal.invariant_of-result
invariant_of-result g c known =
    let fresh = c.requires known in
    store_opened c.in_ok-hall.hall (g.L.SharedLog.seen c.args.log) (g.L.SharedLog.seen c.read_hall.new.log) fresh.asked fresh.at fresh.put (c.read_hall.ensures.reads known) (c.in_ok-hall.ensures.first known)
