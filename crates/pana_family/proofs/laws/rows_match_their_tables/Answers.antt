use Rattle.pana_family.proofs.BySets.{all_held, copy_numbers, same_held, same_living}
use Rattle.pana_family.proofs.laws.rows_match_their_tables.Goals as goal

pub returns : goal.returns
returns c = λ rows table kept stands. record {
  living = λ copy. same_living rows table copy stands.same;
  numbers = copy_numbers rows table stands.same;
  parcels = λ copy. same_held copy rows table stands.same;
  held = all_held rows table kept stands;
}
