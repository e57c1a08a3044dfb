use Rattle.std.proofs.Common.{List, ◌++◌, subst, sym, ap, ◌∙◌}
use Rattle.pana_calls.specs.declared.standing.PlacedCopy.{PlacedCopy}
use Rattle.pana_track.proofs.Reported.{was_ok}
use Rattle.pana_commands.specs.Newest.{newest_in}
use Rattle.pana_commands.proofs.Boarded.{BoardsSoFar, all_boards, next_board, no_boards}
use Rattle.pana_commands.proofs.newest.newest_of_each.Goals as goal

pub loop-family-init : goal.loop-family-init
loop-family-init g c =
    subst (λ (newest : List PlacedCopy). BoardsSoFar g.S.Session.step c.args.by.now newest_in c.args.families.now 0 c.args.session.now c.args.session.now newest) (sym c.new-newest.ensures)
    (no_boards g.S.Session.step c.args.by.now newest_in c.args.families.now c.args.session.now)

pub loop-family-preserved : goal.loop-family-preserved
loop-family-preserved g c =
    next_board g.S.Session.step c.args.by.now newest_in c.args.families.now c.loop-family.family-index c.args.session.now c.loop-family.session c.loop-family.newest c.loop-family.invariant
    0 c.loop-family-test.true c.view_of.new.session c.in_ok-view.view c.append.new.self c.in_ok-view.ensures.ok
    (was_ok c.append.result _ c.append.ensures.ok (sym c.is_err.ensures.value ∙ c.if-is_err.false) ∙ ap (λ (own : List PlacedCopy). c.loop-family.newest ++ own) c.in_ok-own.ensures)

pub returns-clause-ok : goal.returns-clause-ok
returns-clause-ok g c = (
  c.loop-family.invariant.views,
  all_boards g.S.Session.step c.args.by.now newest_in c.args.families.now c.loop-family.family-index c.args.session.now c.loop-family.session c.loop-family.newest c.loop-family.invariant c.loop-family-test.false,
  c.loop-family.invariant.items_are,
)
