use Rattle.pana_family.proofs.Words.{arith, nat_tests, List, sym, subst, RowList, Known, StandsFor}
use Rattle.pana_family.proofs.Boards.{SameBoard, same_board}
use Rattle.pana_family.proofs.family.Family.board.Goals as goal

same : (c : goal.After-board_of) (table : List Known) → StandsFor c.args.self.now.rows table → SameBoard c.self.inside.pairs table
same c table st =
    same_board c.self.inside.items.items table c.self.inside.pairs c.self.invariant.0.rising (subst (λ (v : RowList). StandsFor v.rows table) (sym c.self.view_is) st) c.self.invariant.1 c.copies.ensures.rising c.copies.ensures.itself

pub returns-clause-rows : goal.returns-clause-rows
returns-clause-rows c = grind (arith, nat_tests, same, c.board_of.ensures.rows)

pub returns-clause-newest : goal.returns-clause-newest
returns-clause-newest c = grind (arith, nat_tests, same)

pub returns-clause-split : goal.returns-clause-split
returns-clause-split c = grind (arith, nat_tests, same)
