use Rattle.std.proofs.Common.{◌∷◌, Some, arith, ap, sym, ◌∙◌}
use Rattle.atomic_table.specs.Table.{rest}
use Rattle.pana_turn.specs.History.{left_by}
use Rattle.pana_turn.proofs.Taking.{draws}
use Rattle.pana_turn.proofs.turn.take_turn.Goals as goal

pub fetch_add-ticket-requires : goal.fetch_add-ticket-requires
fetch_add-ticket-requires g c =
    (c.requires.seat.0, (let words = c.requires.table.0 in omega arith), draws _ _ _ _ (ap (λ me. me.0.stage) c.requires.seat.1))

pub exchange-requires : goal.exchange-requires
exchange-requires g c =
    let machine = Some (left_by c.args.shared.now.key.begun c.await_turn.new.seat.me.0.seen) in
    let taken = ap (λ me. me.1) c.await_turn.ensures.turn in (
      c.await_turn.ensures.table ∙ c.fetch_add-ticket.ensures.0 ∙ c.requires.seat.0,
      (machine, taken ∙ ap (λ slots. (0, machine) ∷ slots) (sym (ap rest taken))),
    )
