use Rattle.std.proofs.Common.{◌≡◌, sym, ◌∙◌, subst, arith, rules}
use Rattle.std.proofs.lemmas.List.{take_all}
use Rattle.std.specs.Cmp.Lexicographic.{nat_list_cmp_total}
use Rattle.std.proofs.lemmas.List.Sorted.{answers_always, ranks_by}
use Rattle.pana_calls.specs.Holdings.{HaveOwnPaths}
use Rattle.pana_scan.specs.inner.Left.{HoldTheSame}
use Rattle.pana_scan.proofs.Merged.{lent}
use Rattle.pana_scan.proofs.Sorted.{precedes, sorted_rise, sorted_same}
use Rattle.pana_scan.proofs.planning.by_path.Goals as goal

-- the references are sorted by the paths of what they point to, and all holdings are among them
pub returns-clause-rise : goal.returns-clause-rise
returns-clause-rise c =
    let all : lent c.loop-holding.living.items ≡ c.args.holdings.now = c.loop-holding.invariant ∙ take_all c.loop-holding.holding-index c.args.holdings.now (omega (arith, c.loop-holding-test.false)) in
    sorted_rise c.loop-holding.living.items c.sort_by.new.self.items (subst HaveOwnPaths (sym all) c.requires) c.in_ok-sort_by.ensures.permutation
    (c.in_ok-sort_by.ensures.sorted precedes (ranks_by nat_list_cmp_total (λ holding. holding.now.path)) (answers_always _ _ _ (λ f a r g called. search rules)))

pub returns-clause-same : goal.returns-clause-same
returns-clause-same c =
    let all : lent c.loop-holding.living.items ≡ c.args.holdings.now = c.loop-holding.invariant ∙ take_all c.loop-holding.holding-index c.args.holdings.now (omega (arith, c.loop-holding-test.false)) in
    subst (λ holdings. HoldTheSame holdings (lent c.sort_by.new.self.items)) all
    (sorted_same c.loop-holding.living.items c.sort_by.new.self.items c.in_ok-sort_by.ensures.permutation
    (c.in_ok-sort_by.ensures.stable precedes (ranks_by nat_list_cmp_total (λ holding. holding.now.path)) (answers_always _ _ _ (λ f a r g called. search rules))))
