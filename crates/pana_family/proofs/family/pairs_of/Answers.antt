use Rattle.pana_family.proofs.Words.{nat_tests, ◌≡◌, ◌∷◌, ◌++◌, ◌+◌, [], List, arith, get_or, subst, sym, take, take_more, StampRow, IsRising, IsFollowed, filter-append, length-append}
use Rattle.pana_family.proofs.{Compared.fewer_taken, Sums.rising_take, Following.as_many, Following.pushed_followed, Following.reserved_paired}
use Rattle.pana_family.proofs.family.pairs_of.Goals as goal

pub follow-requires-clause-few : goal.follow-requires-clause-few
follow-requires-clause-few c = grind (arith, nat_tests, fewer_taken, c.requires.few)

pub follow-requires-clause-rising : goal.follow-requires-clause-rising
follow-requires-clause-rising c = rising_take 0 (c.loop-at.at + 1) c.args.items.now c.requires.rising

pub follow-requires-clause-room : goal.follow-requires-clause-room
follow-requires-clause-room c =
    let rows : List StampRow = take c.loop-at.at c.args.items.now in
    let r : StampRow = get_or c.args.items.now c.loop-at.at c.index-items-at.result in
    let more : take (c.loop-at.at + 1) c.args.items.now ≡ rows ++ r ∷ [] = take_more c.args.items.now c.loop-at.at c.index-items-at.result c.loop-at-test.true in
    let p = reserved_paired rows c.loop-at.pairs c.reserve.new.self c.loop-at.invariant c.reserve.ensures.copies c.reserve.ensures.pairs in
    grind (arith, nat_tests, filter-append, length-append, as_many, rising_take, c.requires.rising, c.copies.ensures.rising, c.in_ok-reserve.ensures.room)

pub follow-requires-clause-followed : goal.follow-requires-clause-followed
follow-requires-clause-followed c =
    let rows : List StampRow = take c.loop-at.at c.args.items.now in
    let r : StampRow = get_or c.args.items.now c.loop-at.at c.index-items-at.result in
    let more : take (c.loop-at.at + 1) c.args.items.now ≡ rows ++ r ∷ [] = take_more c.args.items.now c.loop-at.at c.index-items-at.result c.loop-at-test.true in
    subst (λ (l : List StampRow). IsFollowed (r.copy ∷ []) (r.copy ∷ []) (r.copy ∷ []) l c.reserve.new.self) (sym more)
    (pushed_followed rows r c.reserve.new.self (rising_take 0 c.loop-at.at c.args.items.now c.requires.rising) (subst (IsRising 0) more (rising_take 0 (c.loop-at.at + 1) c.args.items.now c.requires.rising))
    (reserved_paired rows c.loop-at.pairs c.reserve.new.self c.loop-at.invariant c.reserve.ensures.copies c.reserve.ensures.pairs))
