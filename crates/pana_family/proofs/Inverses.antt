-- Each change of rows has an inverse.
use Rattle.pana_family.proofs.Words.{◌≡◌, ◌≢◌, ◌==◌, ◌+◌, ◌<◌, ℕ, true, false, cond, Option, Some, None, List, [], ◌∷◌, ◌++◌, length, take, drop, reverse, suc, zero, ◌||◌, position, IfSome}
use Rattle.pana_family.proofs.Words.{slice_index_or, option_map, list_any, refl, sym, ap, subst, ◌∙◌, inl, inr, arith, get_or, set, append_assoc, take_more, at_drop_more, nat_tests, StampRow}
use Rattle.pana_family.proofs.Words.{Exchange, Put, Take, Change, Rows, In, IsRising, dropped, put_back, renewed, row_at, number_of, placed, placed_all, formers, puts, mapped, with_event, with_touch}
use Rattle.pana_family.proofs.Words.{changed, inverse, exchanged_all, after, IfNone, reverse-append, length-take-le, set_at, get_or_at, at_number, is_put}
use Rattle.std.proofs.{Math.Path.fun_ext, lemmas.List.Sums.sum_by-append}
use Rattle.pana_family.specs.declared.change.Change.TheVariants.{Event as Renew, Touch}
use Rattle.pana_family.proofs.{Members.above_low, Backs.same_rows, Backs.rising_put}
use Rattle.pana_family.proofs.Places.{in_at, is_found, rising_dropped, row_in_at, first_found}
use Rattle.pana_family.specs.Change.{row_of}

-- rows by number, each under its own
abbrev pub AreNamed : (ℕ → Option StampRow) → Type 0
AreNamed rows = (n : ℕ) (r : StampRow) → rows n ≡ Some r → r.copy ≡ n

pub named_at : (rows : List StampRow) → AreNamed (row_at rows)
named_at [] n r is = absurd (cc is)
named_at (q ∷ rows) n r is =
    elim (q.copy == n) as (λ b. (q.copy == n) ≡ b → cond b (Some q) (row_at rows n) ≡ Some r → r.copy ≡ n) [
      | true ↦ λ w e. grind (arith, nat_tests)
      | false ↦ λ w e. named_at rows n r e
    ] refl is

placed_named : (x : Exchange) (rows : ℕ → Option StampRow) → AreNamed rows → AreNamed (placed x rows)
placed_named x rows named n r is = grind (arith, nat_tests)

-- the number and the row of an exchange that leaves what there was
there_before : (n : ℕ) (o : Option StampRow) → ((r : StampRow) → o ≡ Some r → r.copy ≡ n) → (number_of (at_number n o) ≡ n) × (row_of (at_number n o) ≡ o)
there_before n o named = grind (arith, nat_tests)

placed_back : (x : Exchange) (rows : ℕ → Option StampRow) → AreNamed rows → placed (at_number (number_of x) (rows (number_of x))) (placed x rows) ≡ rows
placed_back x rows named =
    let m : ℕ = number_of x in
    let was = there_before m (rows m) (named m) in
    grind (arith, nat_tests)

placed_more : (xs ys : List Exchange) (rows : ℕ → Option StampRow) → placed_all (xs ++ ys) rows ≡ placed_all ys (placed_all xs rows)
placed_more [] ys rows = refl
placed_more (x ∷ xs) ys rows = placed_more xs ys (placed x rows)

all_back : (news : List Exchange) (rows : ℕ → Option StampRow) → AreNamed rows → placed_all (reverse (formers news rows)) (placed_all news rows) ≡ rows
all_back [] rows named = refl
all_back (x ∷ news) rows named =
    let back : Exchange = at_number (number_of x) (rows (number_of x)) in
    let rest : List Exchange = formers news (placed x rows) in
    ap (λ (l : List Exchange). placed_all l (placed_all news (placed x rows))) (reverse-append (back ∷ []) rest)
    ∙ placed_more (reverse rest) (back ∷ []) (placed_all news (placed x rows))
    ∙ ap (placed back) (all_back news (placed x rows) (placed_named x rows named)) ∙ placed_back x rows named

-- a change, and then its inverse, leave the rows as they were
pub takes_back : (c : Change) (rows : ℕ → Option StampRow) → AreNamed rows → changed (inverse c rows) (changed c rows) ≡ rows
takes_back c rows named = grind (arith, nat_tests, all_back)

-- Rows in a list.

pub row_dropped : (c : ℕ) (rows : List StampRow) → row_at (dropped c rows) ≡ placed (Take c) (row_at rows)
row_dropped c rows = fun_ext (each rows)
  where
    each : (l : List StampRow) (n : ℕ) → row_at (dropped c l) n ≡ cond (c == n) None (row_at l n)
    each [] n = grind (arith, nat_tests)
    each (r ∷ l) n = grind (arith, nat_tests, each l n)

pub row_put : (x : StampRow) (rows : List StampRow) → row_at (put_back x rows) ≡ placed (Put x) (row_at rows)
row_put x rows = fun_ext (each rows)
  where
    each : (l : List StampRow) (n : ℕ) → row_at (put_back x l) n ≡ cond (x.copy == n) (Some x) (row_at l n)
    each [] n = refl
    each (r ∷ l) n = grind (arith, nat_tests, each l n)

pub none_at : (n : ℕ) (rows : List StampRow) → list_any (λ r. r.copy == n) rows ≡ false → row_at rows n ≡ None
none_at n [] gone = refl
none_at n (r ∷ rows) gone =
    elim (r.copy == n) as (λ b. (b || list_any (λ r. r.copy == n) rows) ≡ false → cond b (Some r) (row_at rows n) ≡ None) [ true ↦ λ h. absurd (cc h) | false ↦ λ h. none_at n rows h ] gone

pub search_found : (n : ℕ) (o : Option ℕ) (rows : List StampRow) → IsRising 0 rows → o ≡ position (λ row. row.copy == n) rows
    → IfSome o (λ at. (at < length rows) × ((d : StampRow) → row_at rows n ≡ Some (slice_index_or rows at d))) × IfNone o (row_at rows n ≡ None)
search_found n o rows up is = grind (arith, nat_tests, none_at, first_found, is_found, row_in_at, in_at)

-- no row at a position has the number of a row that isn't there
pub absent_at : (n at : ℕ) (d : StampRow) (rows : List StampRow) → IsRising 0 rows → row_at rows n ≡ None → at < length rows → (get_or rows at d).copy ≢ n
absent_at n at d rows up none within e = grind (arith, nat_tests, row_in_at, in_at)

-- One exchange after another.

formers_more : (xs : List Exchange) (x : Exchange) (rows : ℕ → Option StampRow) → formers (xs ++ x ∷ []) rows ≡ formers xs rows ++ at_number (number_of x) (placed_all xs rows (number_of x)) ∷ []
formers_more [] x rows = refl
formers_more (y ∷ xs) x rows = grind (arith, nat_tests, formers_more xs x (placed y rows))

formers_long : (xs : List Exchange) (rows : ℕ → Option StampRow) → length (formers xs rows) ≡ length xs
formers_long [] rows = refl
formers_long (x ∷ xs) rows = ap suc (formers_long xs (placed x rows))

pub puts_more : (xs ys : List Exchange) → puts (xs ++ ys) ≡ puts xs + puts ys
puts_more xs ys = sum_by-append (λ x. cond (is_put x) 1 0) xs ys

pub puts_reversed : (xs : List Exchange) → puts (reverse xs) ≡ puts xs
puts_reversed [] = refl
puts_reversed (x ∷ xs) = ap puts (reverse-append (x ∷ []) xs) ∙ omega (arith, puts_more (reverse xs) (x ∷ []), puts_more (x ∷ []) xs, puts_reversed xs)

-- the list of exchanges while the first i are made
pub record Halfway (news : List Exchange) (i : ℕ) (rows : ℕ → Option StampRow) (list : List Exchange) (x : Exchange) : Type 0 where
  pub here : get_or list i x ≡ get_or news i x
  pub next : (y : Exchange) → y ≡ at_number (number_of (get_or news i x)) (placed_all (take i news) rows (number_of (get_or news i x))) → set list i y ≡ formers (take (i + 1) news) rows ++ drop (i + 1) news
  pub rows_after : placed_all (take (i + 1) news) rows ≡ placed (get_or news i x) (placed_all (take i news) rows)
  pub count : (y : Exchange) → puts (set list i y) + puts (get_or news i x ∷ []) ≡ puts list + puts (y ∷ [])

pub halfway : (news : List Exchange) (i : ℕ) (rows : ℕ → Option StampRow) (list : List Exchange) (d : Exchange) → i < length news → list ≡ formers (take i news) rows ++ drop i news → Halfway news i rows list d
halfway news i rows list d within is =
    let x : Exchange = get_or news i d in
    let front : List Exchange = formers (take i news) rows in
    let long : length front ≡ i = grind (arith, nat_tests, formers_long, length-take-le) in
    let more : take (i + 1) news ≡ take i news ++ x ∷ [] = take_more news i d within in
    let split : list ≡ front ++ x ∷ drop (i + 1) news = is ∙ ap (λ (l : List Exchange). front ++ l) (at_drop_more (λ l. l) news i d within) in
    let written : (y : Exchange) → set list i y ≡ front ++ y ∷ drop (i + 1) news = λ y. grind (arith, nat_tests, set_at) in
    record {
      here = grind (arith, nat_tests, get_or_at);
      next = grind (arith, nat_tests, formers_more, append_assoc);
      rows_after = ap (λ (l : List Exchange). placed_all l rows) more ∙ placed_more (take i news) (x ∷ []) rows;
      count = λ y. omega (
        arith,
        ap puts (written y),
        ap puts split,
        puts_more front (y ∷ drop (i + 1) news),
        puts_more front (x ∷ drop (i + 1) news),
        puts_more (y ∷ []) (drop (i + 1) news),
        puts_more (x ∷ []) (drop (i + 1) news),
      );
    }

-- a row that is changed at its position
pub set_mapped : (low c at : ℕ) (f : StampRow → StampRow) (d : StampRow) (rows : List StampRow) → IsRising low rows → at < length rows → (get_or rows at d).copy ≡ c → ((r : StampRow) → (f r).copy ≡ r.copy)
    → row_at (set rows at (f (get_or rows at d))) ≡ mapped c f (row_at rows)
set_mapped low c at f d rows up within named keeps = fun_ext (each low at rows up within named)
  where
    each : (low at : ℕ) (rows : List StampRow) → IsRising low rows → at < length rows → (get_or rows at d).copy ≡ c → (n : ℕ)
        → row_at (set rows at (f (get_or rows at d))) n ≡ cond (c == n) (option_map f (row_at rows n)) (row_at rows n)
    each low at [] up within named n = absurd (omega arith)
    each low zero (r ∷ rows) up within named n = grind (arith, nat_tests)
    each low (suc at) (r ∷ rows) up within named n =
        let later : r.copy < c = omega (arith, named, above_low (r.copy + 1) rows (get_or rows at d) up.1 (in_at rows at d (omega arith))) in
        grind (arith, nat_tests, each (r.copy + 1) at rows up.1 (omega arith) named n)

rising_set : (low at : ℕ) (x d : StampRow) (rows : List StampRow) → IsRising low rows → at < length rows → x.copy ≡ (get_or rows at d).copy → IsRising low (set rows at x)
rising_set low at x d [] up within same = absurd (omega arith)
rising_set low zero x d (r ∷ rows) up within same = (omega (arith, up.0, same), subst (λ (k : ℕ). IsRising (k + 1) rows) (sym same) up.1)
rising_set low (suc at) x d (r ∷ rows) up within same = (up.0, rising_set (r.copy + 1) at x d rows up.1 (omega arith) same)

-- the same, where the row was found by its number
pub mapped_at : (c at : ℕ) (f : StampRow → StampRow) (r x : StampRow) (rows seen : List StampRow) → IsRising 0 rows → seen ≡ rows → at < length seen → row_at seen c ≡ Some (get_or seen at r) → r ≡ get_or rows at r → x ≡ f r
    → ((q : StampRow) → (f q).copy ≡ q.copy) → IsRising 0 (set rows at x) × (row_at (set rows at x) ≡ mapped c f (row_at rows))
mapped_at c at f r x rows seen up same within found read is keeps =
    let here : (at < length rows) × (row_at rows c ≡ Some (get_or rows at r)) = grind (arith, nat_tests) in
    let named : (get_or rows at r).copy ≡ c = named_at rows c (get_or rows at r) here.1 in
    let made : x ≡ f (get_or rows at r) = is ∙ ap f read in (
      rising_set 0 at x r rows up here.0 (grind (arith, nat_tests)),
      ap (λ (q : StampRow). row_at (set rows at q)) made ∙ set_mapped 0 c at f r rows up here.0 named keeps,
    )

-- a row that takes the place of the one with its number
pub replaced_at : (at : ℕ) (r x : StampRow) (rows seen : List StampRow) → IsRising 0 rows → seen ≡ rows → at < length seen → row_at seen x.copy ≡ Some (get_or seen at r) → r ≡ get_or rows at r
    → IsRising 0 (set rows at x) × (row_at (set rows at x) ≡ placed (Put x) (row_at rows)) × (row_at rows x.copy ≡ Some r)
replaced_at at r x rows seen up same within found read =
    let f : StampRow → StampRow = λ q. record { copy = q.copy; holder = x.holder; stamp = x.stamp; touch = x.touch } in
    let here : row_at rows x.copy ≡ Some r = grind (arith, nat_tests) in
    let named : r.copy ≡ x.copy = named_at rows x.copy r here in
    let made : x ≡ f r = ap (λ (n : ℕ). record { copy = n; holder = x.holder; stamp = x.stamp; touch = x.touch }) (sym named) in
    let both = mapped_at x.copy at f r x rows seen up same within found read made (λ q. refl) in
    (both.0, both.1 ∙ fun_ext (λ n. grind (arith, nat_tests)), here)

-- Lists of rows.

pub in_from_at : (rows : List StampRow) (n : ℕ) (r : StampRow) → row_at rows n ≡ Some r → In r rows
in_from_at [] n r is = absurd (cc is)
in_from_at (q ∷ rows) n r is =
    elim (q.copy == n) as (λ b. cond b (Some q) (row_at rows n) ≡ Some r → In r (q ∷ rows)) [ true ↦ λ e. let same : q ≡ r = cc e in inl (sym same) | false ↦ λ e. inr (in_from_at rows n r e) ] is

-- rising rows are one list where they are the same at each number
pub same_list : (xs ys : List StampRow) → IsRising 0 xs → IsRising 0 ys → row_at xs ≡ row_at ys → xs ≡ ys
same_list xs ys up down same =
    let at : (l m : List StampRow) → IsRising 0 l → row_at l ≡ row_at m → (r : StampRow) → In r l → In r m =
    λ l m rising e r i. in_from_at m r.copy r (sym (ap (λ (f : ℕ → Option StampRow). f r.copy) e) ∙ row_in_at 0 r l rising i) in
    grind (arith, nat_tests, same_rows)

pub row_renewed : (c : ℕ) (f : StampRow → StampRow) (rows : List StampRow) → ((r : StampRow) → (f r).copy ≡ r.copy) → row_at (renewed c f rows) ≡ mapped c f (row_at rows)
row_renewed c f rows keeps = fun_ext (each rows)
  where
    each : (l : List StampRow) (n : ℕ) → row_at (renewed c f l) n ≡ cond (c == n) (option_map f (row_at l n)) (row_at l n)
    each [] n = grind (arith, nat_tests)
    each (r ∷ l) n = grind (arith, nat_tests, each l n)

rising_renewed : (low c : ℕ) (f : StampRow → StampRow) (rows : List StampRow) → ((r : StampRow) → (f r).copy ≡ r.copy) → IsRising low rows → IsRising low (renewed c f rows)
rising_renewed low c f [] keeps up = tt
rising_renewed low c f (r ∷ rows) keeps up = grind (arith, nat_tests, rising_renewed (r.copy + 1) c f rows keeps up.1)

row_exchanged_all : (news : List Exchange) (rows : List StampRow) → row_at (exchanged_all news rows) ≡ placed_all news (row_at rows)
row_exchanged_all [] rows = refl
row_exchanged_all (Put x ∷ news) rows = row_exchanged_all news (put_back x rows) ∙ ap (placed_all news) (row_put x rows)
row_exchanged_all (Take n ∷ news) rows = row_exchanged_all news (dropped n rows) ∙ ap (placed_all news) (row_dropped n rows)

rising_exchanged_all : (news : List Exchange) (rows : List StampRow) → IsRising 0 rows → IsRising 0 (exchanged_all news rows)
rising_exchanged_all [] rows up = up
rising_exchanged_all (Put x ∷ news) rows up = rising_exchanged_all news (put_back x rows) (rising_put 0 x rows up (omega arith))
rising_exchanged_all (Take n ∷ news) rows up = rising_exchanged_all news (dropped n rows) (rising_dropped 0 n rows up)

pub row_after : (c : Change) (rows : List StampRow) → row_at (after c rows) ≡ changed c (row_at rows)
row_after (Renew copy event touch) rows = row_renewed copy (with_event event touch) rows (λ r. refl)
row_after (Touch copy touch) rows = row_renewed copy (with_touch touch) rows (λ r. refl)
row_after (Rows news) rows = row_exchanged_all news.value.items rows

pub rising_after : (c : Change) (rows : List StampRow) → IsRising 0 rows → IsRising 0 (after c rows)
rising_after c rows up = grind (arith, nat_tests, rising_renewed, rising_exchanged_all)

pub after_is : (c : Change) (rows new : List StampRow) → IsRising 0 rows → IsRising 0 new → row_at new ≡ changed c (row_at rows) → new ≡ after c rows
after_is c rows new up down is = grind (arith, nat_tests, same_list, rising_after, row_after)
