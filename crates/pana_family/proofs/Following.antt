-- A table of relations follows the rows: copies are taken out of it and put into it.
use Rattle.pana_family.proofs.Words.{◌≡◌, ◌↔◌, ℕ, ◌+◌, ◌<◌, ◌≤◌, Bool, true, false, cond, ◌==◌, ◌||◌, not, List, [], ◌∷◌, ◌++◌, map, drop, Some, None, Option, Contains, IfSome, slice_index_or, length}
use Rattle.pana_family.proofs.Words.{option_map, refl, sym, ap, subst, ◌∙◌, inl, inr, arith, zero, suc, cases_Bool, eqb-true, or_parts, length-map, nat_tests, Event, Rel}
use Rattle.pana_family.proofs.Words.{Table, Holds, rel_of, with_copy, with_row, without, StampRow, Exchange, Put, Take, Change, Rows, FamilyReport, IsMade, has, In, after, changed, inverse, number_of}
use Rattle.pana_family.proofs.Words.{placed, placed_all, IsRising, copy_rows, lives, row_at, IsKept, ArePaired, AreCompared, HasCopies, IsFollowed, numbers_in}
use Rattle.pana_family.proofs.{Copies.living_at, Places.row_in_at}
use Rattle.pana_family.proofs.Copies.{ByPlaces, Rises, contains_has, copies_are, has_contains, has_rows, in_with_copy, in_without_copy, lives_from, rises_above, rises_places, with_copy_new, with_copy_old, without_other}
use Rattle.pana_family.proofs.Inverses.{after_is, in_from_at, named_at, rising_after, row_after, takes_back}

-- the copies that are compared nowhere are in the table
there_still : (gone coming but : List ℕ) (rows : List StampRow) (pairs : Table) (r : StampRow) → IsFollowed gone coming but rows pairs → In r rows → r.holder ≡ None → has but r.copy ≡ false → Contains pairs.copies r.copy
there_still gone coming but rows pairs r f i free out = f.there r.copy (f.later r.copy out) (lives_from rows r i free)

-- A copy that doesn't live is taken out.

pub taken_out : (n : ℕ) (rows : List StampRow) (old new : Table) → lives rows n ≡ false → new.copies ≡ without n old.copies → Holds new (rel_of old) → (gone coming but : List ℕ) → IsFollowed (n ∷ gone) coming but rows old
    → IsFollowed gone coming but rows new
taken_out n rows old new dead are holds gone coming but f =
    let still : (c : ℕ) → Contains old.copies c → lives rows c ≡ true → Contains new.copies c = λ c here alive.
    subst (λ (cs : List ℕ). Contains cs c) (sym are) (grind (arith, nat_tests, without_other)) in
    record {
      inside = λ c out here.
          let k = in_without_copy n c old.copies (subst (λ (cs : List ℕ). Contains cs c) are here) in
          f.inside c (grind (arith, nat_tests)) k.0;
      there = λ c out alive. still c (f.there c out alive) alive;
      later = f.later;
      rels = grind (arith, nat_tests, there_still, lives_from);
    }

-- A living copy is put in.

pub was_put : (n : ℕ) (rows : List StampRow) (row : ℕ → Rel) (old new : Table) → lives rows n ≡ true → ¬ Contains old.copies n → new.copies ≡ with_copy n old.copies → Holds new (with_row n row (rel_of old))
    → (coming but : List ℕ) → IsFollowed [] (n ∷ coming) but rows old → IsFollowed [] coming but rows new
was_put n rows row old new alive gone are holds coming but f =
    let still : (c : ℕ) → Contains old.copies c → Contains new.copies c = λ c here. subst (λ (cs : List ℕ). Contains cs c) (sym are) (with_copy_old n c old.copies here) in
    let known : (r : StampRow) → In r rows → r.holder ≡ None → has but r.copy ≡ false → Contains old.copies r.copy = λ r i free out. there_still [] (n ∷ coming) but rows old r f i free out in
    record {
      inside = λ c out here. elim (in_with_copy n c old.copies (subst (λ (cs : List ℕ). Contains cs c) are here)) [
        | inl e ↦ subst (λ (k : ℕ). lives rows k ≡ true) (sym e) alive
        | inr was ↦ f.inside c out was
      ];
      there = λ c out here. elim (cases_Bool (n == c)) [
        | inl e ↦ subst (Contains new.copies) (eqb-true n c e) (subst (λ (cs : List ℕ). Contains cs n) (sym are) (with_copy_new n old.copies))
        | inr ne ↦ grind (arith, nat_tests)
      ];
      later = λ c out. (or_parts (n == c) (has coming c) (f.later c out)).1;
      rels = grind (arith, nat_tests);
    }

pub not_had : (pairs : Table) (n : ℕ) {cs : List ℕ} {b : Bool} → cs ≡ pairs.copies → b ≡ has cs n → b ≡ false → ¬ Contains pairs.copies n
not_had pairs n {b = b} same is out here = grind (arith, nat_tests, contains_has)

-- How many they are.

one_out : (n : ℕ) (ys : List ℕ) → has ys n ≡ true → length (without n ys) + 1 ≤ length ys
one_out n [] here = absurd (cc here)
one_out n (y ∷ ys) here =
    elim (y == n) as (λ b. (b || has ys n) ≡ true → length (cond (not b) (y ∷ without n ys) (without n ys)) + 1 ≤ length (y ∷ ys)) [
      | true ↦ λ h. omega (arith, no_longer n ys)
      | false ↦ λ h. omega (arith, one_out n ys h)
    ] here
  where
    no_longer : (n : ℕ) (ys : List ℕ) → length (without n ys) ≤ length ys
    no_longer n [] = omega arith
    no_longer n (y ∷ ys) = let rest = no_longer n ys in elim (not (y == n)) as (λ b. length (cond b (y ∷ without n ys) (without n ys)) ≤ length (y ∷ ys)) [ true ↦ omega (arith, rest) | false ↦ omega (arith, rest) ]

no_more : (low : ℕ) (xs ys : List ℕ) → Rises low xs → ((c : ℕ) → Contains xs c → Contains ys c) → length xs ≤ length ys
no_more low [] ys up all = omega arith
no_more low (x ∷ xs) ys up all =
    let here : has ys x ≡ true = contains_has ys x (all x (zero, omega arith, refl)) in
    let rest = no_more (x + 1) xs (without x ys) up.1 (λ c h. without_other x c ys (all c (later x xs c h)) (λ e. omega (arith, rises_above (x + 1) xs c up.1 h, e))) in
    omega (arith, rest, one_out x ys here)
  where
    later : (x : ℕ) (xs : List ℕ) (c : ℕ) → Contains xs c → Contains (x ∷ xs) c
    later x xs c (k, h, e) = (suc k, omega (arith, h), e)

pub room_for : (rows : List StampRow) (cs : List ℕ) (n : ℕ) → ByPlaces cs → ((c : ℕ) → Contains cs c → lives rows c ≡ true) → ¬ Contains cs n → lives rows n ≡ true → length cs + 1 ≤ length (copy_rows rows)
room_for rows cs n places inside gone alive =
    let ys : List ℕ = map (λ r. r.copy) (copy_rows rows) in
    let member : (c : ℕ) → lives rows c ≡ true → Contains ys c = λ c h. has_contains ys c (has_rows rows c ∙ h) in
    let rest = no_more 0 cs (without n ys) (rises_places 0 cs places (λ c h. omega arith)) (λ c h. without_other n c ys (member c (inside c h)) (λ e. gone (subst (Contains cs) e h))) in
    grind (arith, nat_tests, one_out, contains_has, length-map)

-- a table with the living copies has as many as there are
pub as_many : (rows : List StampRow) (cs : List ℕ) → IsRising 0 rows → ByPlaces cs → ((c : ℕ) → Contains cs c ↔ (lives rows c ≡ true)) → length cs ≡ length (copy_rows rows)
as_many rows cs up places same = ap length (copies_are rows cs up places same) ∙ length-map (copy_rows rows) (λ r. r.copy)

-- Begin and end.

pub has_copies : (but : List ℕ) (rows : List StampRow) (pairs : Table) → IsFollowed [] [] but rows pairs → HasCopies rows pairs
has_copies but rows pairs f c = ((λ here. f.inside c refl here), λ alive. f.there c refl alive)

pub all_followed : (rows : List StampRow) (pairs : Table) → HasCopies rows pairs → AreCompared [] rows pairs → ArePaired rows pairs
all_followed rows pairs has_all compared = grind (arith, nat_tests)

pub reserved_paired : (rows : List StampRow) (old new : Table) → ArePaired rows old → new.copies ≡ old.copies → ((a b : ℕ) → rel_of new a b ≡ rel_of old a b) → ArePaired rows new
reserved_paired rows old new p same rels = grind (arith, nat_tests)

-- what the table is made of, of a row
abbrev pub look : Option StampRow → Option (Option ℕ × Event)
look o = option_map (λ r. (r.holder, r.stamp.event)) o

-- a row that looks the same stands in the other list
pub seen_row : (rows new : List StampRow) (n : ℕ) (r : StampRow) → look (row_at new n) ≡ look (row_at rows n) → row_at rows n ≡ Some r → (q : StampRow) × In q new × (q.copy ≡ n) × (q.holder ≡ r.holder) × (q.stamp.event ≡ r.stamp.event)
seen_row rows new n r same is = find (row_at new n) refl (same ∙ ap look is)
  where
    find : (o : Option StampRow) → row_at new n ≡ o → look o ≡ Some (r.holder, r.stamp.event) → (q : StampRow) × In q new × (q.copy ≡ n) × (q.holder ≡ r.holder) × (q.stamp.event ≡ r.stamp.event)
    find None there e = absurd (cc e)
    find (Some q) there e =
        let both : ◌≡◌ {A = Option ℕ × Event} (q.holder, q.stamp.event) (r.holder, r.stamp.event) = cc e in
        (q, in_from_at new n q there, named_at new n q there, ap (λ (p : Option ℕ × Event). p.0) both, ap (λ (p : Option ℕ × Event). p.1) both)

pub seen_lives : (rows new : List StampRow) (n : ℕ) → IsRising 0 rows → look (row_at new n) ≡ look (row_at rows n) → lives rows n ≡ true → lives new n ≡ true
seen_lives rows new n up same alive = grind (arith, nat_tests, living_at, seen_row, row_in_at, lives_from)

-- rows that look as those of the table do, but at some numbers
pub followed_from : (rows new : List StampRow) (ns : List ℕ) (pairs : Table) → IsRising 0 rows → IsRising 0 new → ((n : ℕ) → has ns n ≡ false → look (row_at rows n) ≡ look (row_at new n)) → ArePaired rows pairs
    → IsFollowed ns ns ns new pairs
followed_from rows new ns pairs up down same p = grind (arith, nat_tests, seen_row, row_in_at, seen_lives)

-- a change alters nothing that is seen but at its numbers
pub looks_same : (c : Change) (rows : ℕ → Option StampRow) (n : ℕ) → has (numbers_in c) n ≡ false → look (changed c rows n) ≡ look (rows n)
looks_same (Rows news) rows n out = ap look (placed_else news.value.items rows n out)
  where
    placed_else : (xs : List Exchange) (rows : ℕ → Option StampRow) (n : ℕ) → has (map number_of xs) n ≡ false → placed_all xs rows n ≡ rows n
    placed_else [] rows n out = refl
    placed_else (Put r ∷ xs) rows n out = let p = or_parts (r.copy == n) (has (map number_of xs) n) out in placed_else xs (placed (Put r) rows) n p.1 ∙ ap (λ (b : Bool). cond b (Some r) (rows n)) p.0
    placed_else (Take m ∷ xs) rows n out = let p = or_parts (m == n) (has (map number_of xs) n) out in placed_else xs (placed (Take m) rows) n p.1 ∙ ap (λ (b : Bool). cond b None (rows n)) p.0
looks_same c rows n out = grind (arith, nat_tests)

-- the table of the rows that a change takes back
pub followed_back : (c : Change) (rows : List StampRow) (pairs : Table) → IsRising 0 rows → ArePaired (after c rows) pairs → IsFollowed (numbers_in c) (numbers_in c) (numbers_in c) rows pairs
followed_back c rows pairs up p =
    followed_from (after c rows) rows (numbers_in c) pairs (rising_after c rows up) up
    (λ n out. ap (λ (f : ℕ → Option StampRow). look (f n)) (row_after c rows) ∙ looks_same c (row_at rows) n out) p

-- one row more, at the end
pub row_pushed : (rows : List StampRow) (r : StampRow) (n : ℕ) → (r.copy == n) ≡ false → row_at (rows ++ r ∷ []) n ≡ row_at rows n
row_pushed [] r n other = ap (λ (b : Bool). cond b (Some r) None) other
row_pushed (q ∷ rows) r n other = grind (arith, nat_tests, row_pushed rows r n other)

pub pushed_followed : (rows : List StampRow) (r : StampRow) (pairs : Table) → IsRising 0 rows → IsRising 0 (rows ++ r ∷ []) → ArePaired rows pairs → IsFollowed (r.copy ∷ []) (r.copy ∷ []) (r.copy ∷ []) (rows ++ r ∷ []) pairs
pushed_followed rows r pairs up down p =
    followed_from rows (rows ++ r ∷ []) (r.copy ∷ []) pairs up down (λ n out. grind (arith, nat_tests, row_pushed)) p

-- Numbers one after another.

pub numbers_left : (news : List Exchange) (i : ℕ) (x : Exchange) → i < length news → x ≡ slice_index_or news i x → drop i (map number_of news) ≡ number_of x ∷ drop (i + 1) (map number_of news)
numbers_left (y ∷ news) (suc i) x h e = grind (arith, nat_tests, numbers_left news i x (omega (arith, h)) e)
numbers_left news i x h e = grind (arith, nat_tests)

pub none_left : (news : List Exchange) (i : ℕ) → length news ≤ i → drop i (map number_of news) ≡ []
none_left [] zero h = refl
none_left [] (suc i) h = refl
none_left (y ∷ news) zero h = absurd (omega (arith, h))
none_left (y ∷ news) (suc i) h = none_left news i (omega (arith, h))

-- what a report made, where it is known which
pub made_of : (o : Option (ℕ × FamilyReport)) (n : ℕ) (report : FamilyReport) (rows new : List StampRow) → IfSome o (λ m. IsMade m.0 m.1 rows new) → o ≡ Some (n, report) → IsMade n report rows new
made_of o n report rows new made is = grind (arith, nat_tests)

-- rows that were changed
pub record Applied (c back : Change) (rows new : List StampRow) : Type 0 where
  pub kept : IsKept new
  pub rows_are : new ≡ after c rows
  pub back_is : after back new ≡ rows

pub applied : (c back : Change) (rows new value : List StampRow) → IsKept rows → rows ≡ value → IsKept (after c value) → IsRising 0 new → row_at new ≡ changed c (row_at rows) → back ≡ inverse c (row_at rows) → Applied c back rows new
applied c back rows new value k same kept up is taken = grind (arith, nat_tests, after_is, rising_after, takes_back, named_at, row_after)

-- they were made by a report
pub made_again : (o : Option (ℕ × FamilyReport)) (rows new rows' new' : List StampRow) → IfSome o (λ m. IsMade m.0 m.1 rows new) → rows ≡ rows' → new ≡ new' → IfSome o (λ m. IsMade m.0 m.1 rows' new')
made_again o rows new rows' new' made one two = grind (arith, nat_tests)
