use Rattle.pana_family.proofs.Words.{arith, nat_tests, Bool, ap, cond, take, ◌+◌, ◌∙◌, ◌≡◌, ℕ, List, Id, sum_of, StampRow, ends, with_ids}
use Rattle.pana_family.proofs.{Places.in_read, Sums.gather_apart, Sums.seen_more, Sums.with_more}
use Rattle.pana_family.proofs.settling.gathered.Goals as goal
use Rattle.pana_family.proofs.settling.gathered.Goals.{else-ends, then-ends+in_ok-id-2}

pub sum-requires : goal.sum-requires
sum-requires c = grind (arith, nat_tests, gather_apart, in_read, seen_more)

pub loop-other-preserved : goal.loop-other-preserved
loop-other-preserved c =
    let rows : List StampRow = c.args.rows.now in
    let test : StampRow → Bool = ends c.args.from c.args.copy c.args.stamp.now.event in
    let mine : Id = c.args.stamp.now.id in
    let q : StampRow = c.other-item.result in
    let n : ℕ = c.loop-other.other-index in
    let old : Id = with_ids test mine (take n rows) in
    let more : with_ids test mine (take (n + 1) rows) ≡ cond (test q) (sum_of old q.stamp.id) old = ap (with_ids test mine) (seen_more rows n q c.loop-other-test.true c.other-item.is) ∙ with_more test mine (take n rows) q in
    grind (arith, nat_tests, then-ends+in_ok-id-2, else-ends)
