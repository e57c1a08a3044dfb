-- The group is the records that are looked at.
use Rattle.std.proofs.Common.{IsTrue, List, sym, subst}
use Rattle.std.specs.Prelude.{IfOk, OnErr}
use Rattle.pana_shared.specs.declared.record.Record.{Record}
use Rattle.pana_shared.specs.Log.{MayAppend, loose_at, ours}
use Rattle.pana_shared_store.specs.inner.{IsNew, IsUnusedGroup, Places, PlacesNone}
use Rattle.pana_shared_store.proofs.placing.place.Goals as goal

pub place_records-placed-requires-clause-may : goal.place_records-placed-requires-clause-may
place_records-placed-requires-clause-may g c known = subst (λ (l : List Record). MayAppend (g.L.SharedLog.seen c.args.log.now) c.args.at l) (sym c.as_slice.ensures.value) (c.requires.may known)

pub place_records-placed-requires-clause-other : goal.place_records-placed-requires-clause-other
place_records-placed-requires-clause-other g c known = subst (λ (l : List Record). IsNew l (loose_at c.args.at (g.L.SharedLog.seen c.args.log.now))) (sym c.as_slice.ensures.value) (c.requires.other known)

pub place_records-placed-requires-clause-unused : goal.place_records-placed-requires-clause-unused
place_records-placed-requires-clause-unused g c known = subst (λ (l : List Record). IsUnusedGroup l (ours (g.L.SharedLog.seen c.args.log.now).writer (g.L.SharedLog.seen c.args.log.now).records)) (sym c.as_slice.ensures.value) (c.requires.unused known)

pub returns-clause-ok : goal.returns-clause-ok
returns-clause-ok g c = subst (λ (l : List Record). IfOk c.place_records-placed.result (λ placed. IsTrue g.L.SharedLog.is_known → Places (g.L.SharedLog.seen c.args.log.now) c.args.at l placed (g.L.SharedLog.seen c.place_records-placed.new.log))) c.as_slice.ensures.value c.place_records-placed.ensures.ok

pub returns-clause-err : goal.returns-clause-err
returns-clause-err g c = subst (λ (l : List Record). OnErr c.place_records-placed.result (IsTrue g.L.SharedLog.is_known → PlacesNone (g.L.SharedLog.seen c.args.log.now) c.args.at l (g.L.SharedLog.seen c.place_records-placed.new.log))) c.as_slice.ensures.value c.place_records-placed.ensures.err
