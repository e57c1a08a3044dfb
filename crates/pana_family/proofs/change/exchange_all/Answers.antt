use Rattle.pana_family.proofs.Words.{nat_tests, ◌∙◌, ap, ◌≡◌, ◌∷◌, [], ℕ, Option, get_or, set, arith, StampRow, Exchange, Take, puts, row_at, set-set}
use Rattle.pana_family.proofs.Inverses.{Halfway, halfway}
use Rattle.pana_family.proofs.change.exchange_all.Goals as goal

pub exchange_one-requires-clause-room : goal.exchange_one-requires-clause-room
exchange_one-requires-clause-room c =
    let d : Exchange = c.index-news-at.result in
    let half : Halfway c.args.news.now c.loop-at.at (row_at c.args.items.now.items) c.loop-at.news d = halfway _ _ _ _ d c.loop-at-test.true c.loop-at.invariant.news in
    omega (
      arith,
      half.count (Take 0),
      ap (λ (x : Exchange). puts (x ∷ [])) (c.replace-new.ensures.value ∙ half.here),
      c.loop-at.invariant.size,
      c.loop-at.invariant.capacity,
      c.requires.room,
    )

pub loop-at-preserved : goal.loop-at-preserved
loop-at-preserved c =
    let i : ℕ = c.loop-at.at in
    let was = c.loop-at.invariant in
    let now : ℕ → Option StampRow = row_at c.loop-at.items.items in
    let half : Halfway c.args.news.now i (row_at c.args.items.now.items) c.loop-at.news c.index-news-at.result = halfway _ _ _ _ c.index-news-at.result c.loop-at-test.true was.news in
    let x : Exchange = get_or c.args.news.now i c.index-news-at.result in
    let new : c.replace-new.result ≡ x = c.replace-new.ensures.value ∙ half.here in
    let twice : set (set c.loop-at.news i c.replace-new.new.dest) i c.exchange_one.result ≡ set c.loop-at.news i c.exchange_one.result = set-set c.loop-at.news i c.replace-new.new.dest c.exchange_one.result in
    grind (arith, nat_tests)
