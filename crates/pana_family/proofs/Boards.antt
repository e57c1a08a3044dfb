-- Boards of a table of relations and of the table of sets that its rows stand for.
use Rattle.pana_family.proofs.Words.{◌≡◌, ◌≢◌, ℕ, Bool, true, List, [], ◌∷◌, map, filter, Contains, AllZip, refl, sym, ap, subst, ◌∙◌, inl, inr, arith, zero, nat_tests, Rel, Equal, counts_of, Table}
use Rattle.pana_family.proofs.Words.{own_number, rel_of, contains_more, StampRow, relation, IsRising, lives, Known, In, copies_of, set_in, AreSame, StandsFor, ArePaired, row_of, is_copy}
use Rattle.pana_family.proofs.Words.{AllByRecursion, ap₂, is_split, newest_of, known_relation}
use Rattle.pana_rel.specs.Pairs.{Holds as HoldsAll}
use Rattle.pana_rel.proofs.Alike.{AreAlike, counts_alike, newest_alike, split_alike}
use Rattle.pana_family.specs.declared.board.CopyCounts.{CopyCounts}
use Rattle.pana_family.specs.Board.{board_rows, board_newest, board_split, number_of}
use Rattle.pana_family.proofs.Members.{One, one_known, set_of, in_filter}
use Rattle.pana_family.proofs.{Changes.relation_is, BySets.copy_numbers, Copies.ByPlaces, Copies.copies_are, Copies.living_at}
use Rattle.pana_family.proofs.Relations.{relates as relates_sets}

-- Lists side by side.

pub map_same : {A B C : Type 0} (R : A → B → Type 0) (f : A → C) (g : B → C) → ((x : A) (y : B) → R x y → f x ≡ g y) → (xs : List A) (ys : List B) → AllZip R xs ys → map f xs ≡ map g ys
map_same R f g same (x ∷ xs) (y ∷ ys) z = grind (arith, nat_tests, map_same R f g same xs ys z.1)
map_same R f g same xs ys z = grind (arith, nat_tests)

pub filter_same : {A B : Type 0} (R : A → B → Type 0) (p : A → Bool) (q : B → Bool) → ((x : A) (y : B) → R x y → p x ≡ q y) → (xs : List A) (ys : List B) → AllZip R xs ys → AllZip R (filter p xs) (filter q ys)
filter_same R p q same (x ∷ xs) (y ∷ ys) z = grind (arith, nat_tests, filter_same R p q same xs ys z.1)
filter_same R p q same xs ys z = grind (arith, nat_tests)

-- a row and what the table knows of its copy
abbrev pub OfOne : List StampRow → List Known → StampRow → Known → Type 0
OfOne rows table r t = In r rows × In t table × (r.copy ≡ t.copy) × (r.holder ≡ t.holder)

pub all_of_one : (rows : List StampRow) (table : List Known) (some : List StampRow) (few : List Known) → ((r : StampRow) → In r some → In r rows) → ((t : Known) → In t few → In t table)
    → AreSame some few → AllZip (OfOne rows table) some few
all_of_one rows table (r ∷ some) (t ∷ few) f g same = grind (arith, nat_tests, all_of_one rows table some few (λ q i. f q (inr i)) (λ s i. g s (inr i)) same.3)
all_of_one rows table some few f g same = grind (arith, nat_tests)

-- The two boards.

pub same_equal : (xs : List ℕ) → relation xs xs ≡ Equal
same_equal xs = (relates_sets xs xs).equal.1 ((λ u m. m), λ u m. m)

-- the relation of the sets of two copies
abbrev pub by_sets : List Known → ℕ → ℕ → Rel
by_sets table a b = relation (set_in table a) (set_in table b)

-- the relation that the table of relations beside rows holds of two copies
pub paired_relation : (rows : List StampRow) (table : List Known) (pairs : Table) (a b : ℕ) → StandsFor rows table → ArePaired rows pairs → lives rows a ≡ true → lives rows b ≡ true → a ≢ b
    → rel_of pairs a b ≡ by_sets table a b
paired_relation rows table pairs a b st p here there ne = grind (arith, nat_tests, living_at, relation_is)

-- it holds the relations of the sets
holds_sets : (rows : List StampRow) (table : List Known) (pairs : Table) → StandsFor rows table → ArePaired rows pairs → ((c : ℕ) → Contains pairs.copies c → rel_of pairs c c ≡ Equal)
    → HoldsAll pairs (by_sets table)
holds_sets rows table pairs st p itself a b here there = grind (arith, nat_tests, same_equal, paired_relation)

-- each of a table's copies, and it is in the table
each_copy : (table ts : List Known) → ((t : Known) → In t ts → In t table) → AllByRecursion (λ t. In t table) ts
each_copy table [] inside = tt
each_copy table (t ∷ ts) inside = (inside t (inl refl), each_copy table ts (λ s i. inside s (inr i)))

pub record SameBoard (pairs : Table) (table : List Known) : Type 0 where
  pub each : map (λ copy. row_of copy (counts_of own_number (rel_of pairs) pairs.copies copy)) pairs.copies ≡ board_rows table
  pub newest : newest_of own_number (rel_of pairs) pairs.copies ≡ board_newest table
  pub split : is_split own_number (rel_of pairs) pairs.copies ≡ board_split table

pub same_board : (rows : List StampRow) (table : List Known) (pairs : Table) → IsRising 0 rows → StandsFor rows table → ArePaired rows pairs
    → ByPlaces pairs.copies → ((c : ℕ) → Contains pairs.copies c → rel_of pairs c c ≡ Equal) → SameBoard pairs table
unfolding board_rows board_newest board_split
same_board rows table pairs up st p places itself =
    let copies : List Known = copies_of table in
    let there : Known → Type 0 = λ t. In t copies in
    let one : One table = one_known 0 rows table st.same up in
    let own : (t : Known) → In t copies → In t table = λ t i. (in_filter (λ t. is_copy t.holder) table t i).0 in
    let are : pairs.copies ≡ map number_of copies = copies_are rows pairs.copies up places p.copies ∙ copy_numbers rows table st.same in
    let holds : HoldsAll pairs (by_sets table) = holds_sets rows table pairs st p itself in
    let has_it : (t : Known) → In t copies → Contains pairs.copies t.copy = λ t i. subst (λ (cs : List ℕ). Contains cs t.copy) (sym are) (in_numbers copies t i) in
    let alike : AreAlike there number_of known_relation own_number (rel_of pairs) number_of = record {
      numbers = λ t i. refl;
      rels = λ t s i j. holds t.copy s.copy (has_it t i) (has_it s j) ∙ ap₂ relation (set_of table t one (own t i)) (set_of table s one (own s j));
    } in
    let all : AllByRecursion there copies = each_copy copies copies (λ t i. i) in
    record {
      each = ap (λ cs. map (λ copy. row_of copy (counts_of own_number (rel_of pairs) cs copy)) cs) are
          ∙ map_each (λ copy. row_of copy (counts_of own_number (rel_of pairs) (map number_of copies) copy)) (λ t. row_of t.copy (counts_of number_of known_relation copies t)) copies
          (λ t i. ap (row_of t.copy) (counts_alike alike copies t all i));
      newest = ap (newest_of own_number (rel_of pairs)) are ∙ newest_alike alike copies all;
      split = ap (is_split own_number (rel_of pairs)) are ∙ split_alike alike copies all;
    }
  where
    map_each : (f : ℕ → CopyCounts) (g : Known → CopyCounts) (ts : List Known) → ((t : Known) → In t ts → f t.copy ≡ g t) → map f (map number_of ts) ≡ map g ts
    map_each f g [] same = refl
    map_each f g (t ∷ ts) same = ap₂ (λ (a : CopyCounts) (l : List CopyCounts). a ∷ l) (same t (inl refl)) (map_each f g ts (λ s i. same s (inr i)))

    in_numbers : (ts : List Known) (t : Known) → In t ts → Contains (map (λ s. s.copy) ts) t.copy
    in_numbers [] t i = absurd i
    in_numbers (s ∷ ts) t i = elim i [
      | inl e ↦ (zero, omega arith, ap (λ (w : Known). w.copy) (sym e))
      | inr j ↦ contains_more s.copy (map (λ w. w.copy) ts) t.copy (in_numbers ts t j)
    ]
