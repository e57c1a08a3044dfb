use Rattle.pana_family.proofs.Words.{◌∙◌, ◌∷◌, ◌+◌, List, ℕ, ap, drop, subst, sym, map, arith, number_of, IsFollowed}
use Rattle.pana_family.proofs.Following.{none_left, numbers_left}
use Rattle.pana_family.proofs.comparing.drop_gone.Goals as goal

pub loop-new-preserved : goal.loop-new-preserved
loop-new-preserved c = record {
  followed = λ coming but f. c.take_out.ensures.followed _ coming but
      (subst (λ (l : List ℕ). IsFollowed l coming but c.args.rows.now c.loop-new.pairs)
      (numbers_left c.args.news.now c.loop-new.new-index c.new-item.result c.loop-new-test.true c.new-item.is ∙ ap (λ (k : ℕ). k ∷ drop (c.loop-new.new-index + 1) (map number_of c.args.news.now)) (sym c.number_of.ensures))
      (c.loop-new.invariant.followed coming but f));
  room = c.take_out.ensures.room ∙ c.loop-new.invariant.room;
}

pub returns-clause-followed : goal.returns-clause-followed
returns-clause-followed c coming but f =
    subst (λ (l : List ℕ). IsFollowed l coming but c.args.rows.now c.loop-new.pairs) (none_left c.args.news.now c.loop-new.new-index (omega arith)) (c.loop-new.invariant.followed coming but f)
