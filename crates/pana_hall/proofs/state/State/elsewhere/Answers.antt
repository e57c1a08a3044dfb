use Rattle.std.proofs.lemmas.Result.{IfOk-weaker}
use Rattle.pana_hall.proofs.Words.{filter, ap, ◌∙◌, living}
use Rattle.pana_hall.specs.inner.Finding.{is_elsewhere, passes}
use Rattle.pana_hall.proofs.Decided.{elsewhere_is}
use Rattle.pana_hall.proofs.state.State.elsewhere.Goals as goal

pub returns : goal.returns
returns c =
    let journal = c.args.self.now.journal.entries in
    IfOk-weaker c.elsewhere_among.result _ _ (λ made h. h ∙ ap (filter (passes (is_elsewhere c.args.place.now c.args.sum.now) (living journal))) c.as_slice.ensures.value
    ∙ elsewhere_is journal c.args.self.now.copies c.args.place.now c.args.sum.now c.in_ok-copies.copies.items c.requires.accepted c.requires.spots c.in_ok-copies.ensures.found c.in_ok-copies.ensures.rising) c.elsewhere_among.ensures
