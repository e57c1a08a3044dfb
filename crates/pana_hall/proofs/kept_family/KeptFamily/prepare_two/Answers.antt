use Rattle.pana_hall.proofs.Words.{IfOk, List, Result, StampRow, arith, nat_tests, sym, subst, AreBefore, RoomyFamily}
use Rattle.pana_family.specs.After.{reported_rows}
use Rattle.pana_family.specs.View.{IsPreparedBehind}
use Rattle.pana_family.specs.declared.change.Change.{Change}
use Rattle.std.specs.declared.alloc.AllocError.{AllocError}
use Rattle.pana_hall.proofs.Histories.{kept_roomier}
use Rattle.pana_hall.proofs.kept_family.KeptFamily.prepare_two.Goals as goal
use Rattle.pana_hall.proofs.kept_family.KeptFamily.prepare_two.Goals.{in-Ok, in-Err}

pub prepare_two-requires-clause-living : goal.prepare_two-requires-clause-living
prepare_two-requires-clause-living c = grind (arith, nat_tests, c.self.view_is, c.requires.able)

pub prepare_two-requires-clause-new : goal.prepare_two-requires-clause-new
prepare_two-requires-clause-new c = subst (λ (k : RoomyFamily). AreBefore c.args.entry k.kept.rows) (sym c.self.view_is) c.requires.new

pub prepare_two-requires-clause-second_new : goal.prepare_two-requires-clause-second_new
prepare_two-requires-clause-second_new c = subst (λ (k : RoomyFamily). AreBefore c.args.next (reported_rows c.args.entry c.args.report k.kept.rows)) (sym c.self.view_is) c.requires.second_new

pub invariant_of-self : goal.invariant_of-self
invariant_of-self c = kept_roomier c.self.inside.family.room c.prepare_two.new.self.room c.self.inside.family.rows c.prepare_two.new.self.rows c.self.inside.undo c.prepare_two.ensures.rows c.prepare_two.ensures.room c.self.invariant

pub returns-clause-second : goal.returns-clause-second
returns-clause-second c =
    let room = c.prepare_two.new.self.room in
    let behind : Result (Change × Change) AllocError → Type 0 = λ r. IfOk r (λ made. IsPreparedBehind c.args.next c.args.second made.1 (reported_rows c.args.entry c.args.report c.prepare_two.new.self.rows) room) in
    elim c.match-prepare_two.branch [
      | in-Ok w ↦ subst behind (sym w.result-is) (subst (λ (rows : List StampRow). IsPreparedBehind c.args.next c.args.second w.in-Ok.changes.1 (reported_rows c.args.entry c.args.report rows) room) (sym c.prepare_two.ensures.rows) w.in-Ok.ensures.second)
      | in-Err w ↦ subst behind (sym w.result-is) tt
    ]
