use Rattle.pana_hall.proofs.Words.{arith, nat_tests, sym, subst, AreBefore, RoomyFamily}
use Rattle.pana_hall.proofs.Histories.{kept_roomier}
use Rattle.pana_hall.proofs.kept_family.KeptFamily.prepare.Goals as goal

pub prepare-requires-clause-living : goal.prepare-requires-clause-living
prepare-requires-clause-living c = grind (arith, nat_tests, c.self.view_is, c.requires.able)

pub prepare-requires-clause-new : goal.prepare-requires-clause-new
prepare-requires-clause-new c = subst (λ (k : RoomyFamily). AreBefore c.args.entry k.kept.rows) (sym c.self.view_is) c.requires.new

pub invariant_of-self : goal.invariant_of-self
invariant_of-self c = kept_roomier c.self.inside.family.room c.prepare.new.self.room c.self.inside.family.rows c.prepare.new.self.rows c.self.inside.undo c.prepare.ensures.rows c.prepare.ensures.room c.self.invariant
