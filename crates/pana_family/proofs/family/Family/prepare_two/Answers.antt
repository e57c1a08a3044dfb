use Rattle.std.proofs.Common.{Result, Err, ◌⊎◌, inl, inr}
use Rattle.pana_family.proofs.Words.{◌≡◌, ℕ, List, Option, None, Some, refl, sym, ap, ◌∙◌, subst, arith, AreBefore, IsMade, RowList, StampRow, after}
use Rattle.pana_family.specs.After.{reported_rows}
use Rattle.pana_family.specs.Change.{Fits, IsRoomier, Room}
use Rattle.pana_family.specs.View.{IsPrepared, IsPreparedBehind, NamesLiving, fault_of}
use Rattle.pana_family.specs.declared.change.Change.{Change}
use Rattle.pana_family.specs.declared.fault.FamilyFault.{FamilyFault}
use Rattle.pana_family.specs.declared.fault.FamilyFault.TheVariants.{OutOfMemory}
use Rattle.pana_family.specs.declared.report.FamilyReport.{FamilyReport}
use Rattle.pana_family.proofs.family.Family.prepare_two.Goals as goal

-- what is prepared of rows is prepared of each family that has them, and no less room
behind : (n : ℕ) (report : FamilyReport) (change : Change) (g : RowList) (rows : List StampRow) (room : Room) → IsPrepared n report change g → g.rows ≡ rows → IsRoomier g.room room → IsPreparedBehind n report change rows room
unfolding IsPrepared
behind n report change g rows room is same roomy f f_is f_roomy = record {
  made = subst (λ (r : List StampRow). IsMade n report r (after change r)) (same ∙ sym f_is) is.made;
  fits = subst (λ (r : List StampRow). Fits change r f.room) (same ∙ sym f_is) (omega (arith, is.fits.0, roomy.0, f_roomy.0), omega (arith, is.fits.1, roomy.1, f_roomy.1));
}

abbrev failed : FamilyFault → Result Change FamilyFault
failed fault = Err fault

-- a fault that stands in the way, or there is none but memory
fault_by : (o : Option FamilyFault) (fault : FamilyFault) → ((f : FamilyFault) → o ≡ Some f → failed fault ≡ failed f) → (o ≡ None → fault ≡ OutOfMemory) → (fault ≡ OutOfMemory) ⊎ (o ≡ Some fault)
fault_by None fault all memory = inl (memory refl)
fault_by (Some f) fault all memory = let same = all f refl in let is : fault ≡ f = cc in inr (ap (λ x. Some x) (sym is))

pub prepare-behind-requires-clause-living : goal.prepare-behind-requires-clause-living
prepare-behind-requires-clause-living c = subst (NamesLiving c.args.second) (sym (c.apply-back.ensures.rows ∙ ap (reported_rows c.args.entry c.args.report) c.prepare.ensures.rows)) c.requires.second_living

pub prepare-behind-requires-clause-new : goal.prepare-behind-requires-clause-new
prepare-behind-requires-clause-new c = subst (AreBefore c.args.next) (sym (c.apply-back.ensures.rows ∙ ap (reported_rows c.args.entry c.args.report) c.prepare.ensures.rows)) c.requires.second_new

pub returns-in-Ok-clause-second : goal.returns-in-Ok-clause-second
returns-in-Ok-clause-second c =
    behind c.args.next c.args.second c.in-Ok.behind c.prepare-behind.new.self _ c.take_back-change.new.self.room c.in-Ok.ensures.prepared
    (c.prepare-behind.ensures.rows ∙ c.apply-back.ensures.rows ∙ ap (reported_rows c.args.entry c.args.report) c.prepare.ensures.rows) c.take_back-change.ensures.room

pub returns-in-Err-clause-fault : goal.returns-in-Err-clause-fault
returns-in-Err-clause-fault c =
    let is : c.apply-back.new.self.rows ≡ reported_rows c.args.entry c.args.report c.args.self.now.rows = c.apply-back.ensures.rows ∙ ap (reported_rows c.args.entry c.args.report) c.prepare.ensures.rows in
    elim (fault_by (fault_of c.args.second c.apply-back.new.self.rows) c.in-Err.fault (λ f e. c.in-Err.ensures.fault f e) c.in-Err.ensures.memory) [
      | inl memory ↦ inl memory
      | inr stands ↦ inr (inr (ap (fault_of c.args.second) (sym is) ∙ stands))
    ]
