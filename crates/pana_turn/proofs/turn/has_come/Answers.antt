use Rattle.std.proofs.Common.{◌≡◌, length, arith, ap, sym, ◌∙◌}
use Rattle.pana_turn.specs.declared.view.Stage.TheVariants.{Drawn}
use Rattle.pana_turn.specs.inner.Steps.{ticket_of}
use Rattle.pana_turn.proofs.Looking.{awaits}
use Rattle.pana_turn.proofs.turn.has_come.Goals as goal

pub load-requires : goal.load-requires
load-requires g c =
    let stage = ap (λ me. me.0.stage) c.requires.seat.1 in
    let alone : length c.args.seat.now.me.0.accounts ≡ 1 = ap (λ me. length me.0.accounts) c.requires.seat.1 in (
      c.requires.seat.0,
      (let words = c.requires.table.0 in omega arith),
      awaits _ _ _ _ (stage ∙ ap Drawn (sym (ap ticket_of stage))) (omega arith),
    )
