-- What the counts of rows say.
use Rattle.std.proofs.Common.{◌≡◌, ℕ, zero, suc, Bool, true, false, ◌+◌, ◌<◌, List, [], ◌∷◌, length, get_or, map, not, refl, ap, sym, subst, ◌∙◌, inl, inr, count_by, arith, ◌↔◌}
use Rattle.std.specs.Prelude.{nat_lt, ◌==◌}
use Rattle.std.specs.List.{list_any}
use Rattle.std.proofs.lemmas.Bool.{cases_Bool, lt-ltb, ltb-false}
use Rattle.std.proofs.lemmas.Bool.Decides.{nat_tests}
use Rattle.std.proofs.lemmas.List.{get_or-map, get_or_read}
use Rattle.std.proofs.lemmas.List.Sums.{count_by-le-length}
use Rattle.pana_event.specs.declared.rel.Rel.{Rel}
use Rattle.pana_event.specs.declared.rel.Rel.TheVariants.{Equal, Older, Newer, Conflict}
use Rattle.pana_rel.specs.declared.counts.Counts.{Counts}
use Rattle.pana_rel.specs.Board.{counts_of, is_rel, relates}
use Rattle.pana_rel.specs.Pairs.{own_number}
use Rattle.pana_rel.specs.inner.Square.{Relations, counts_in, row_in, AreAllCounted, AreSelfEqual, IsTop, IsWide, Meets}
use Rattle.pana_rel.proofs.Boards.{count_cons, none_newer, one_of}

-- how many are of one kind
abbrev pub count_of : Rel → List Rel → ℕ
count_of wanted rels = count_by (λ rel. is_rel rel wanted) rels

one_kind : (rel : Rel) → (one_of (is_rel rel Older)) + (one_of (is_rel rel Newer)) + (one_of (is_rel rel Equal)) + (one_of (is_rel rel Conflict)) ≡ 1
one_kind Equal = refl
one_kind Older = refl
one_kind Newer = refl
one_kind Conflict = refl

all_kinds : (rels : List Rel) → count_of Older rels + count_of Newer rels + count_of Equal rels + count_of Conflict rels ≡ length rels
all_kinds [] = refl
all_kinds (rel ∷ rels) =
    let older = count_cons (λ r. is_rel r Older) rel rels in
    let newer = count_cons (λ r. is_rel r Newer) rel rels in
    let equal = count_cons (λ r. is_rel r Equal) rel rels in
    let conflict = count_cons (λ r. is_rel r Conflict) rel rels in
    omega (arith, older, newer, equal, conflict, one_kind rel, all_kinds rels)

-- what is counted once no relation is left
pub record AreOut (items : List Rel) (older newer equal : ℕ) : Type 0 where
  pub older_is : older ≡ count_of Older items
  pub newer_is : newer ≡ count_of Newer items
  pub equal_is : equal ≡ count_of Equal items
  pub rest_is : older + newer + equal + count_of Conflict items ≡ length items

pub counted_out : (items rest : List Rel) (older newer equal : ℕ) → older + count_of Older rest ≡ count_of Older items → newer + count_of Newer rest ≡ count_of Newer items
    → equal + count_of Equal rest ≡ count_of Equal items → length rest ≡ 0 → AreOut items older newer equal
counted_out items rest older newer equal a b c none =
    let x = count_by-le-length (λ rel. is_rel rel Older) rest in
    let y = count_by-le-length (λ rel. is_rel rel Newer) rest in
    let z = count_by-le-length (λ rel. is_rel rel Equal) rest in
    record {
      older_is = omega (arith, a, x, none);
      newer_is = omega (arith, b, y, none);
      equal_is = omega (arith, c, z, none);
      rest_is = omega (arith, a, b, c, x, y, z, none, all_kinds items);
    }

has_one : {X : Type 0} (p : X → Bool) (xs : List X) (i : ℕ) (d : X) → i < length xs → p (get_or xs i d) ≡ true → 0 < count_by p xs
has_one p [] i d h passes = absurd (omega (arith, h))
has_one p (x ∷ xs) zero d h passes = let one : (one_of (p x)) ≡ 1 = ap (λ b. one_of b) passes in omega (arith, count_cons p x xs, one)
has_one p (x ∷ xs) (suc i) d h passes = omega (arith, count_cons p x xs, has_one p xs i d (omega (arith, h)) passes)

-- an element passes the test just where some are counted
any_counted : {X : Type 0} (p : X → Bool) (xs : List X) → nat_lt 0 (count_by p xs) ≡ list_any p xs
any_counted p [] = refl
any_counted p (x ∷ xs) = elim (cases_Bool (p x)) [
  | inl hit ↦
      let one : (one_of (p x)) ≡ 1 = ap (λ b. one_of b) hit in
      rw (lt-ltb 0 (count_by p (x ∷ xs)) (omega (arith, count_cons p x xs, one)), hit) refl
  | inr miss ↦
      let none : (one_of (p x)) ≡ 0 = ap (λ b. one_of b) miss in
      let same : count_by p (x ∷ xs) ≡ count_by p xs = omega (arith, count_cons p x xs, none) in
      rw (same, miss) (any_counted p xs)
]

none_is : (n : ℕ) → (n == 0) ≡ not (nat_lt 0 n)
none_is n = grind (arith, nat_tests)

-- none passes the test just where none is counted
none_counted : {X : Type 0} (p : X → Bool) (xs : List X) → (count_by p xs == 0) ≡ not (list_any p xs)
none_counted p xs = none_is (count_by p xs) ∙ ap not (any_counted p xs)

not_is : (b : Bool) → (not b ≡ true) ↔ (b ≡ false)
not_is true = (λ h. sym h, λ h. sym h)
not_is false = (λ h. refl, λ h. refl)

pub newest_at : (rows : List Relations) (counts : List Counts) (at : ℕ) → AreAllCounted rows counts → at < length rows → ((counts_in counts at).above == 0) ≡ true ↔ IsTop (row_in rows at).items
newest_at rows counts at all within =
    let items = (row_in rows at).items in
    let says : (counts_in counts at).above ≡ count_of Older items = omega (arith, all.each at within Older) in
    subst (λ b. (b ≡ true) ↔ IsTop items) (sym (ap (λ n. n == 0) says ∙ none_counted (λ rel. is_rel rel Older) items)) (not_is (list_any (λ rel. is_rel rel Older) items))

pub no_conflict : (rows : List Relations) (counts : List Counts) (at : ℕ) → AreAllCounted rows counts → IsWide rows → at < length rows → nat_lt 0 (counts_in counts at).conflict ≡ false → ¬ Meets rows at
no_conflict rows counts at all wide within none meets =
    let items = (row_in rows at).items in
    let says : (counts_in counts at).conflict ≡ count_of Conflict items = omega (arith, all.each at within Conflict) in
    let there : meets.other < length items = omega (arith, meets.within, wide at within) in
    let some = has_one (λ rel. is_rel rel Conflict) items meets.other Equal there (ap (λ rel. is_rel rel Conflict) meets.conflict) in
    absurd (omega (arith, some, says, ltb-false 0 (counts_in counts at).conflict none))

-- the relation to itself is counted
pub itself_counted : (rows : List Relations) (at : ℕ) (row : Relations) → IsWide rows → AreSelfEqual rows → at < length rows → row ≡ get_or rows at row → 0 < count_of Equal row.items
itself_counted rows at row wide equal within read =
    let is : row ≡ row_in rows at = get_or_read rows at row within read _ in
    subst (λ r. 0 < count_of Equal r.items) (sym is)
    (has_one (λ rel. is_rel rel Equal) (row_in rows at).items at Equal (omega (arith, within, wide at within)) (ap (λ rel. is_rel rel Equal) (equal at within)))

-- a copy is one of the newest just where none is counted as newer
pub newest_counted : (rel : ℕ → ℕ → Rel) (copies : List ℕ) (counts : List Counts) (at : ℕ) → counts ≡ map (counts_of own_number rel copies) copies → at < length copies
    → ((counts_in counts at).above == 0) ≡ none_newer rel copies (get_or copies at 0)
newest_counted rel copies counts at all within =
    let count = counts_of own_number rel copies in
    let copy = get_or copies at 0 in
    let is : counts_in counts at ≡ count copy = ap (λ l. counts_in l at) all ∙ get_or-map count copies at 0 _ within in
    ap (λ c. c.above == 0) is ∙ none_counted (relates own_number rel Newer copy) copies
