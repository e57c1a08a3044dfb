use Rattle.std.proofs.Common.{ap, ◌∙◌, map, arith}
use Rattle.std.proofs.lemmas.List.{take_all}
use Rattle.pana_client.proofs.OwnPaths.{own_paths}
use Rattle.pana_client.proofs.own_paths.have_own_paths.Goals as goal

pub returns : goal.returns
returns c = λ is.
    own_paths c.loop-holding.paths.keys c.args.holdings.now
    (c.loop-holding.invariant.paths ∙ ap (map (λ holding. holding.path)) (take_all c.loop-holding.holding-index c.args.holdings.now (omega (arith, c.loop-holding-test.false))))
    c.loop-holding.invariant.distinct
