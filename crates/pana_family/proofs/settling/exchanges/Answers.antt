use Rattle.pana_family.proofs.Words.{arith, nat_tests, ap, true, ◌∙◌, ◌≡◌, exchanged_all, planned}
use Rattle.pana_family.proofs.Places.{in_read}
use Rattle.pana_family.proofs.Planned.{one_added, one_stays, planned_named}
use Rattle.pana_family.proofs.settling.exchanges.Goals as goal
use Rattle.pana_family.proofs.settling.exchanges.Goals.{then-not-is_apart+in_ok-add_exchange, else-not-is_apart}

pub add_exchange-requires-clause-here : goal.add_exchange-requires-clause-here
add_exchange-requires-clause-here c = in_read c.args.rows.now c.loop-row.row-index c.row-item.result c.loop-row-test.true c.row-item.is

pub loop-row-preserved : goal.loop-row-preserved
loop-row-preserved c =
    let rows = c.args.rows.now in
    let plan = planned c.args.entry c.args.plan.now rows in
    let named = planned_named c.args.entry c.args.plan.now rows in
    elim c.if-not-is_apart.branch [
      | then-not-is_apart+in_ok-add_exchange w ↦
          ap (λ news. exchanged_all news.items rows) w.news-is
          ∙ one_added plan rows c.loop-row.row-index c.row-item.result _ _ named c.requires.kept.rising c.loop-row-test.true c.row-item.is w.in_ok-add_exchange.ensures c.loop-row.invariant
      | else-not-is_apart w ↦
          let apart : c.is_apart.result ≡ true = grind (arith, nat_tests) in
          ap (λ news. exchanged_all news.items rows) w.news-is ∙ c.loop-row.invariant
          ∙ one_stays plan rows c.loop-row.row-index c.row-item.result named c.requires.kept.rising c.loop-row-test.true c.row-item.is (c.is_apart.ensures c.args.entry rows apart)
    ]
