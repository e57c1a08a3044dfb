use Rattle.pana_hall.proofs.Words.{filter_map, holding_in, holdings, living, sym, ap, ◌∙◌}
use Rattle.std.proofs.lemmas.Result.{IfOk-weaker}
use Rattle.pana_hall.specs.Queries.{holdings_from}
use Rattle.pana_hall.proofs.Held.{held_first, held_on}
use Rattle.pana_hall.proofs.Shown.{from_zero}
use Rattle.pana_hall.proofs.state.State.holdings_from.Goals as goal

pub returns-in_ok-numbers-in-None : goal.returns-in_ok-numbers-in-None
returns-in_ok-numbers-in-None c =
    let journal = c.args.self.now.journal.entries in
    let device = c.args.device.now in
    let all = holdings (living journal) device in
    let numbers = c.in_ok-numbers-in-None in
    IfOk-weaker c.holdings_of.result _ _ (λ made h. h ∙ ap (filter_map (holding_in (living journal) device)) c.as_slice.ensures.value
    ∙ held_on journal c.args.self.now.copies device 0 numbers.numbers.items c.requires.kept.accepted c.requires.kept.spots numbers.ensures.found numbers.ensures.rising
    ∙ from_zero all ∙ ap (λ from. holdings_from from all) (sym c.in-None.is)) c.holdings_of.ensures

pub returns-in_ok-numbers-in-Some : goal.returns-in_ok-numbers-in-Some
returns-in_ok-numbers-in-Some c =
    let journal = c.args.self.now.journal.entries in
    let device = c.args.device.now in
    let all = holdings (living journal) device in
    let numbers = c.in_ok-numbers-in-Some in
    IfOk-weaker c.holdings_of-in-Some.result _ _ (λ made h. h ∙ ap (filter_map (holding_in (living journal) device)) (c.as_slice-in-Some.ensures.value ∙ c.truncate.ensures.items)
    ∙ held_first journal c.args.self.now.copies device c.in-Some.from numbers.numbers.items c.requires.kept.accepted c.requires.kept.spots numbers.ensures.found 1000 numbers.ensures.rising
    ∙ ap (λ from. holdings_from from all) (sym c.in-Some.is)) c.holdings_of-in-Some.ensures
