use Rattle.std.proofs.Common.{◌≡◌, [], ◌++◌, map, All}
use Rattle.pana_turn.specs.declared.view.Stage.TheVariants.{Idle}
use Rattle.pana_turn.specs.inner.Views.{account_of, view}
use Rattle.pana_turn.proofs.closing.gather.Given as goal

-- the accounts so far, and those of the passes to come, are all
abbrev pub invariant-loop-pass : goal.invariant-loop-pass
invariant-loop-pass g l =
    (goal.iterator-loop-pass g).can_next l.pass-iterator
    × (goal.iterator-loop-pass g).is_finite l.pass-iterator
    × (l.seat.table_id ≡ l.fn.seat.table_id)
    × (l.seat.id ≡ l.fn.seat.id)
    × (l.seat.me ≡ (view l.seat.me.0.accounts l.fn.seat.me.0.seen [] Idle, []))
    × (l.seat.me.0.accounts ++ map account_of l.pass-iterator.rest.items ≡ map account_of l.fn.passes.items)
    × All (λ pass. pass.desk.table ≡ l.shared.table_id) l.pass-iterator.rest.items
