use Rattle.pana_family.proofs.Words.{nat_tests, ◌∙◌, ◌∷◌, ◌+◌, [], List, ℕ, ap, drop, subst, sym, map, arith, refl, number_of, IsFollowed}
use Rattle.pana_family.proofs.Following.{none_left, numbers_left}
use Rattle.pana_family.proofs.comparing.put_coming.Goals as goal

pub put_in-requires-clause-room : goal.put_in-requires-clause-room
put_in-requires-clause-room c = omega (arith, c.loop-new.invariant.room, c.requires.room)

pub put_in-requires-clause-inside : goal.put_in-requires-clause-inside
put_in-requires-clause-inside c = λ copy here. c.loop-new.invariant.followed.inside copy refl here

pub loop-new-preserved : goal.loop-new-preserved
loop-new-preserved c = record {
  followed = c.put_in.ensures.followed _ (map number_of c.args.news.now)
      (subst (λ (l : List ℕ). IsFollowed [] l (map number_of c.args.news.now) c.args.rows.now c.loop-new.pairs)
      (numbers_left c.args.news.now c.loop-new.new-index c.new-item.result c.loop-new-test.true c.new-item.is ∙ ap (λ (k : ℕ). k ∷ drop (c.loop-new.new-index + 1) (map number_of c.args.news.now)) (sym c.number_of.ensures))
      c.loop-new.invariant.followed);
  room = c.put_in.ensures.room ∙ c.loop-new.invariant.room;
}

pub returns-clause-followed : goal.returns-clause-followed
returns-clause-followed c = grind (arith, nat_tests, none_left)
