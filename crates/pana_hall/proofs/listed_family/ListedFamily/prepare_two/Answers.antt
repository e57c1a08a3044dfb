use Rattle.pana_hall.proofs.Words.{◌≡◌, sym, ap, ◌∙◌, subst, AreBefore, KeptRows, RoomyFamily, listed}
use Rattle.pana_family.specs.After.{reported_rows}
use Rattle.pana_hall.proofs.listed_family.ListedFamily.prepare_two.Goals as goal

pub prepare_two-requires-clause-new : goal.prepare_two-requires-clause-new
prepare_two-requires-clause-new c =
    let it : listed c.args.self.now ≡ c.deref_mut.result.now.kept = sym c.grow.ensures.same ∙ ap listed c.in-Changed.is ∙ ap (λ (f : RoomyFamily). f.kept) (sym c.deref_mut.ensures.value) in
    subst (λ (k : KeptRows). AreBefore c.args.entry k.rows) it c.requires.new

pub prepare_two-requires-clause-second_new : goal.prepare_two-requires-clause-second_new
prepare_two-requires-clause-second_new c =
    let it : listed c.args.self.now ≡ c.deref_mut.result.now.kept = sym c.grow.ensures.same ∙ ap listed c.in-Changed.is ∙ ap (λ (f : RoomyFamily). f.kept) (sym c.deref_mut.ensures.value) in
    subst (λ (k : KeptRows). AreBefore c.args.next (reported_rows c.args.entry c.args.report k.rows)) it c.requires.second_new
