use Rattle.pana_family.proofs.Words.{nat_tests, ◌∙◌, sym, arith}
use Rattle.pana_family.proofs.Following.{not_had, room_for, was_put}
use Rattle.pana_family.proofs.comparing.put_in.Goals as goal

pub put_row-requires-clause-new : goal.put_row-requires-clause-new
put_row-requires-clause-new c = not_had c.args.pairs.now c.args.copy c.copies.ensures.copies c.contains.ensures.value c.if-contains.false

pub put_row-requires-clause-room : goal.put_row-requires-clause-room
put_row-requires-clause-room c = grind (arith, nat_tests, room_for, not_had)

pub put_row-requires-clause-long : goal.put_row-requires-clause-long
put_row-requires-clause-long c = grind (arith, nat_tests, room_for, not_had)

pub returns-clause-followed : goal.returns-clause-followed
returns-clause-followed c =
    was_put c.args.copy c.args.rows.now _ c.args.pairs.now c.put_row.new.pairs (sym c.lives.ensures ∙ c.if-not-lives.false)
    (not_had c.args.pairs.now c.args.copy c.copies.ensures.copies c.contains.ensures.value c.if-contains.false) c.put_row.ensures.copies c.put_row.ensures.pairs
