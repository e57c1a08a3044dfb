use Rattle.pana_hall.proofs.Words.{◌≡◌, sym, ap, ◌∙◌, subst, AreBefore, KeptRows, RoomyFamily, listed}
use Rattle.pana_hall.proofs.listed_family.ListedFamily.prepare.Goals as goal

pub prepare-requires-clause-new : goal.prepare-requires-clause-new
prepare-requires-clause-new c =
    let it : listed c.args.self.now ≡ c.deref_mut.result.now.kept = sym c.grow.ensures.same ∙ ap listed c.in-Changed.is ∙ ap (λ (f : RoomyFamily). f.kept) (sym c.deref_mut.ensures.value) in
    subst (λ (k : KeptRows). AreBefore c.args.entry k.rows) it c.requires.new
