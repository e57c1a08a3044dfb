use Rattle.std.proofs.Common.{[], arith, ap, sym, ◌∙◌}
use Rattle.pana_ticks.specs.declared.hand.Hand.{Hand}
use Rattle.pana_ticks.specs.Hands.{both, count_of}
use Rattle.pana_ticks.proofs.Steps.{both_known, compares, meets}
use Rattle.pana_ticks.proofs.ticks.Ticks.meet.Goals as goal

pub join_seat-requires : goal.join_seat-requires
join_seat-requires c = (
  ap (λ s. s.id) c.counter.view_is ∙ c.requires.of ∙ sym c.self.view_is,
  ap (λ s. s.id) c.watcher.view_is ∙ c.requires.other_of ∙ sym c.self.view_is,
  ap (λ m. m.1) c.watcher.invariant.0,
  (let words = c.self.invariant in omega arith),
  meets _ _ _ _ (ap (λ m. m.0) c.counter.invariant.0) (ap (λ m. m.0) c.watcher.invariant.0),
)

pub load-requires : goal.load-requires
load-requires c =
    let joined = c.join_seat.ensures in
    let v = c.counter.inside.seat.me.0 in
    let w = c.watcher.inside.seat.me.0 in
    let known = both_known v w (ap (λ m. m.0) c.counter.invariant.0) (ap (λ m. m.0) c.watcher.invariant.0) in (
      joined.0 ∙ ap (λ s. s.id) c.counter.view_is ∙ c.requires.of ∙ sym c.self.view_is,
      (let words = c.self.invariant in omega arith),
      compares _ _ _ (count_of v) (count_of w) (joined.2 ∙ ap (λ m. (both v w, m.1)) c.counter.invariant.0 ∙ ap (λ (x : Hand). (x, [])) known),
    )
