use Rattle.std.proofs.Common.{rules, IsTrue}
use Rattle.pana_shared_store.specs.inner.{PlacesNone}
use Rattle.pana_shared_store.proofs.Placed.{asks_on, is_unknown, was_found, was_put}
use Rattle.pana_shared_store.proofs.placing.place_records.Goals as goal

pub returns-in-Put-clause-ok : goal.returns-in-Put-clause-ok
returns-in-Put-clause-ok g c known =
    let e = c.in-Put.ensures.came known in
    was_put _ _ _ _ (c.requires.may known) (c.requires.some known) (c.requires.other known) (c.requires.unused known) e.0 e.1

pub returns-in-Taken-clause-ok : goal.returns-in-Taken-clause-ok
returns-in-Taken-clause-ok g c known =
    let e = c.in-Taken.ensures.came known in
    was_found _ _ _ _ (c.requires.may known) (c.requires.some known) (c.requires.other known) (c.requires.unused known) e.0 _ e.1 c.placed_from.result c.placed_from.ensures

pub returns-in_err-look-in-Unknown-clause-err : goal.returns-in_err-look-in-Unknown-clause-err
returns-in_err-look-in-Unknown-clause-err g c =
    let none : IsTrue g.L.SharedLog.is_known → PlacesNone (g.L.SharedLog.seen c.args.log.now) c.args.at c.args.group.now (g.L.SharedLog.seen c.look.new.log) = λ known.
    is_unknown _ _ _ _ (c.requires.may known) (c.requires.some known) (c.requires.other known) (c.requires.unused known) (asks_on _ _ _ _ _ (c.requires.may known) (c.requires.some known) (c.in-Unknown.ensures.came known) (c.look.ensures.reads known)) in
    search (rules, none)

pub returns-in_ok-look-in-Unknown-clause-ok : goal.returns-in_ok-look-in-Unknown-clause-ok
returns-in_ok-look-in-Unknown-clause-ok g c known =
    was_found _ _ _ _ (c.requires.may known) (c.requires.some known) (c.requires.other known) (c.requires.unused known) (asks_on _ _ _ _ _ (c.requires.may known) (c.requires.some known) (c.in-Unknown.ensures.came known) (c.look.ensures.reads known))
    _ (c.in_ok-look-in-Unknown.ensures.part known) c.placed_from-in-Unknown.result c.placed_from-in-Unknown.ensures
