use Rattle.std.proofs.Common.{◌≡◌, ℕ, List, [], ◌∷◌, refl, ap, sym, ◌∙◌, map, arith, zero}
use Rattle.std.specs.Prelude.{Contains}
use Rattle.std.specs.List.{AllByRecursion}
use Rattle.pana_event.specs.declared.rel.Rel.{Rel}
use Rattle.pana_rel.specs.Board.{counts_of, is_split, newest_of}
use Rattle.pana_rel.specs.Pairs.{Table, Holds, own_number, rel_of}
use Rattle.pana_rel.proofs.Alike.{AreAlike, counts_alike, newest_alike, split_alike}
use Rattle.pana_rel.proofs.Boards.{contains_more}
use Rattle.pana_rel.proofs.laws.same_relations_same_board.Goals as goal

map_own : (xs : List ℕ) → map own_number xs ≡ xs
map_own [] = refl
map_own (x ∷ xs) = ap (λ l. x ∷ l) (map_own xs)

each_there : (xs all : List ℕ) → ((a : ℕ) → Contains xs a → Contains all a) → AllByRecursion (Contains all) xs
each_there [] all inside = tt
each_there (x ∷ xs) all inside = (inside x (zero, omega arith, refl), each_there xs all (λ a here. inside a (contains_more x xs a here)))

alike : (t : Table) (rel : ℕ → ℕ → Rel) → Holds t rel → AreAlike (Contains t.copies) own_number rel own_number (rel_of t) own_number
alike t rel holds = record { numbers = λ a here. refl; rels = holds }

all : (t : Table) → AllByRecursion (Contains t.copies) t.copies
all t = each_there t.copies t.copies (λ a here. here)

pub returns-clause-counts : goal.returns-clause-counts
returns-clause-counts c = λ t rel copy holds here. ap (λ cs. counts_of own_number (rel_of t) cs copy) (sym (map_own t.copies)) ∙ counts_alike (alike t rel holds) t.copies copy (all t) here

pub returns-clause-newest : goal.returns-clause-newest
returns-clause-newest c = λ t rel holds. ap (newest_of own_number (rel_of t)) (sym (map_own t.copies)) ∙ newest_alike (alike t rel holds) t.copies (all t) ∙ map_own (newest_of own_number rel t.copies)

pub returns-clause-split : goal.returns-clause-split
returns-clause-split c = λ t rel holds. ap (is_split own_number (rel_of t)) (sym (map_own t.copies)) ∙ split_alike (alike t rel holds) t.copies (all t)
