use Rattle.pana_family.proofs.Words.{sym, refl, ◌∙◌, ap, ◌≡◌, ℕ, set, Change, IsRising, row_at, changed, mapped, with_event, with_touch}
use Rattle.pana_family.proofs.Inverses.{mapped_at}
use Rattle.pana_family.proofs.change.apply.Goals as goal

renewed : (c : goal.After-items-1) → IsRising 0 (set c.args.items.now.items c.in-Some.at c.renew-event.new.row)
    × (row_at (set c.args.items.now.items c.in-Some.at c.renew-event.new.row) ≡ mapped c.in-Event.copy (with_event c.in-Event.event c.in-Event.touch) (row_at c.args.items.now.items))
renewed c = mapped_at c.in-Event.copy c.in-Some.at (with_event c.in-Event.event c.in-Event.touch) c.index_mut.result.now c.renew-event.new.row c.args.items.now.items c.deref.result.now c.requires.rising c.deref.ensures.value
    c.in-Some.ensures.some.0 (c.in-Some.ensures.some.1 c.index_mut.result.now) c.index_mut.ensures.value c.renew-event.ensures.row (λ q. refl)

pub returns-in-Some-clause-rising : goal.returns-in-Some-clause-rising
returns-in-Some-clause-rising c = (renewed c).0

pub returns-in-Some-clause-rows : goal.returns-in-Some-clause-rows
returns-in-Some-clause-rows c = (renewed c).1 ∙ ap (λ (w : Change). changed w (row_at c.args.items.now.items)) (sym c.in-Event.is)

retouched : (c : goal.After-items-in-Some-row_position-1) → IsRising 0 (set c.args.items.now.items c.in-Some-row_position.at (with_touch c.replace.new.dest c.index_mut-in-Some-row_position.result.now))
    × (row_at (set c.args.items.now.items c.in-Some-row_position.at (with_touch c.replace.new.dest c.index_mut-in-Some-row_position.result.now)) ≡ mapped c.in-Touch.copy (with_touch c.in-Touch.touch) (row_at c.args.items.now.items))
retouched c =
    let r = c.index_mut-in-Some-row_position.result.now in
    mapped_at c.in-Touch.copy c.in-Some-row_position.at (with_touch c.in-Touch.touch) r (with_touch c.replace.new.dest r) c.args.items.now.items c.deref-in-Touch.result.now c.requires.rising c.deref-in-Touch.ensures.value
    c.in-Some-row_position.ensures.some.0 (c.in-Some-row_position.ensures.some.1 r) c.index_mut-in-Some-row_position.ensures.value (ap (λ (t : ℕ). with_touch t r) c.replace.ensures.after) (λ q. refl)

pub returns-in-Some-row_position-clause-rising : goal.returns-in-Some-row_position-clause-rising
returns-in-Some-row_position-clause-rising c = (retouched c).0

pub returns-in-Some-row_position-clause-rows : goal.returns-in-Some-row_position-clause-rows
returns-in-Some-row_position-clause-rows c = (retouched c).1 ∙ ap (λ (w : Change). changed w (row_at c.args.items.now.items)) (sym c.in-Touch.is)
