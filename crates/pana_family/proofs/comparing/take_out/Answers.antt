use Rattle.std.proofs.Common.{◌∙◌, sym, arith}
use Rattle.pana_family.proofs.Following.{taken_out}
use Rattle.pana_family.proofs.comparing.take_out.Goals as goal

pub returns-then-not-lives-clause-followed : goal.returns-then-not-lives-clause-followed
returns-then-not-lives-clause-followed c = taken_out c.args.copy c.args.rows.now c.args.pairs.now c.drop_copy.new.self (sym c.lives.ensures ∙ c.if-not-lives.true) c.drop_copy.ensures.copies c.drop_copy.ensures.pairs

pub returns-then-not-lives-clause-room : goal.returns-then-not-lives-clause-room
returns-then-not-lives-clause-room c = omega (arith, c.drop_copy.ensures.room, c.drop_copy.ensures.count)
