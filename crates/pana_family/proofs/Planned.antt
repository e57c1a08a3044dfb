-- The changes that reports make leave what is made of each row.
use Rattle.pana_family.proofs.Words.{◌≡◌, ◌≢◌, ℕ, ◌<◌, ◌+◌, Bool, true, false, cond, ◌==◌, List, [], ◌∷◌, ◌++◌, filter_map, length, take, drop, nat_lt, IfSome, Option, Some, None, refl, sym, ap, subst, ◌∙◌}
use Rattle.pana_family.proofs.Words.{inl, inr, arith, get_or, zero, suc, ne_eqb, append-nil, append_assoc, at_drop_more, take_more, nat_tests, Event, StampRow, Duplicate, Edit, Touch, Plan, Exchange}
use Rattle.pana_family.proofs.Words.{In, IsRising, AreBefore, dropped, put_back, renewed, row, exchanged_all, with_event, with_touch, first_part, made, reported_rows, restamped, second_part, updated}
use Rattle.pana_family.proofs.Words.{updated_stamp, IsRowOf, planned, cons_option, option_to_list, le-ltb, filter_map-append, exchanged}
use Rattle.pana_family.specs.declared.settling.Fate.{Fate}
use Rattle.pana_family.specs.declared.settling.Fate.TheVariants.{Stays, Goes, Becomes}
use Rattle.pana_family.specs.inner.Exchanging.{AddsPlanned, came_behind, fated}
use Rattle.pana_family.specs.inner.Making.{left_of}
use Rattle.pana_family.proofs.{Members.above_low, Members.one_row, Places.dropped_none, Places.put_back_later, Sums.last_above, Sums.rising_take, Images.in_made}

-- One row changes.

-- the rows of other numbers stay
others_stay : (c : ℕ) (g : StampRow → StampRow) (rows : List StampRow) → ((q : StampRow) → In q rows → q.copy ≢ c) → filter_map (λ r. Some (cond (r.copy == c) (g r) r)) rows ≡ rows
others_stay c g [] other = refl
others_stay c g (q ∷ rows) other =
    ap (λ (b : Bool). cond b (g q) q ∷ filter_map (λ r. Some (cond (r.copy == c) (g r) r)) rows) (ne_eqb q.copy c (other q (inl refl))) ∙ ap (λ (l : List StampRow). q ∷ l) (others_stay c g rows (λ p i. other p (inr i)))

pub renewed_made : (c : ℕ) (f g : StampRow → StampRow) (rows : List StampRow) → ((r : StampRow) → In r rows → r.copy ≡ c → f r ≡ g r) → renewed c f rows ≡ filter_map (λ r. Some (cond (r.copy == c) (g r) r)) rows ++ []
renewed_made c f g [] same = refl
renewed_made c f g (q ∷ rows) same = grind (arith, nat_tests, renewed_made c f g rows (λ p i. same p (inr i)))

pub edit_exact : (rows : List StampRow) (c n : ℕ) (r : StampRow) (e : Event) → IsRising 0 rows → IsRowOf rows c r → e ≡ updated r.stamp.id r.stamp.event → renewed c (with_event e n) rows ≡ reported_rows n (Edit c) rows
edit_exact rows c n r e up at is =
    renewed_made c (with_event e n) (λ q. restamped (updated_stamp q.stamp) n q) rows
    (λ q i named. grind (arith, nat_tests, one_row))

pub touch_exact : (rows : List StampRow) (c n : ℕ) → renewed c (with_touch n) rows ≡ reported_rows n (Touch c) rows
touch_exact rows c n = renewed_made c (with_touch n) (λ q. restamped q.stamp n q) rows (λ q i named. refl)

-- a row takes that of its number
pub put_there : (low : ℕ) (x r : StampRow) (g : StampRow → StampRow) (rows : List StampRow) → IsRising low rows → In r rows → r.copy ≡ x.copy → g r ≡ x → put_back x rows ≡ filter_map (λ q. Some (cond (q.copy == x.copy) (g q) q)) rows
put_there low x r g [] up i named is = absurd i
put_there low x r g (q ∷ rows) up i named is =
    let new : List StampRow = filter_map (λ p. Some (cond (p.copy == x.copy) (g p) p)) rows in
    elim (q.copy == x.copy) as (λ b. (q.copy == x.copy) ≡ b → cond b (x ∷ rows) (cond (nat_lt x.copy q.copy) (x ∷ (q ∷ rows)) (q ∷ put_back x rows)) ≡ cond b (g q) q ∷ new) [
      | true ↦ grind (arith, nat_tests, one_row, others_stay, above_low)
      | false ↦ λ w. elim i [
        | inl e ↦ absurd (grind (arith, nat_tests))
        | inr j ↦ ap (λ (b : Bool). cond b (x ∷ (q ∷ rows)) (q ∷ put_back x rows)) (le-ltb x.copy q.copy (omega (arith, named, above_low (q.copy + 1) rows r up.1 j)))
            ∙ ap (λ (l : List StampRow). q ∷ l) (put_there (q.copy + 1) x r g rows up.1 j named is)
      ]
    ] refl

-- a row above all others
pub put_above : (y : StampRow) (rows : List StampRow) → ((q : StampRow) → In q rows → q.copy < y.copy) → put_back y rows ≡ rows ++ y ∷ []
put_above y [] less = refl
put_above y (q ∷ rows) less = put_back_later y q rows (less q (inl refl)) ∙ ap (λ (l : List StampRow). q ∷ l) (put_above y rows (λ p i. less p (inr i)))

pub duplicate_exact : (rows : List StampRow) (c n : ℕ) (r : StampRow) → IsRising 0 rows → AreBefore n rows → IsRowOf rows c r
    → put_back (row n (second_part r.stamp) n) (put_back (restamped (first_part r.stamp) r.touch r) rows) ≡ reported_rows n (Duplicate c) rows
duplicate_exact rows c n r up before at =
    let x : StampRow = restamped (first_part r.stamp) r.touch r in
    let g : StampRow → StampRow = λ q. restamped (first_part q.stamp) q.touch q in
    ap (put_back (row n (second_part r.stamp) n)) (put_there 0 x r g rows up at.there refl refl ∙ ap (λ (k : ℕ). filter_map (λ q. Some (cond (q.copy == k) (g q) q)) rows) at.named)
    ∙ put_above (row n (second_part r.stamp) n) (filter_map (made n (Duplicate c) rows) rows)
    (λ y i. let m = in_made (made n (Duplicate c) rows) rows y i in
    omega (arith, (before m.0 m.1).0, numbered m.0 y m.2))
    ∙ ap (λ (q : StampRow). filter_map (made n (Duplicate c) rows) rows ++ row n (second_part q.stamp) n ∷ []) at.is
  where
    numbered : (q y : StampRow) → Some (cond (q.copy == c) (restamped (first_part q.stamp) q.touch q) q) ≡ Some y → y.copy ≡ q.copy
    numbered q y is = let same : cond (q.copy == c) (restamped (first_part q.stamp) q.touch q) q ≡ y = cc is in
        ap (λ (w : StampRow). w.copy) (sym same) ∙ elim (q.copy == c) as (λ b. (cond b (restamped (first_part q.stamp) q.touch q) q).copy ≡ q.copy) [ true ↦ refl | false ↦ refl ]

-- Row by row.

pub exchanged_more : (xs : List Exchange) (x : Exchange) (rows : List StampRow) → exchanged_all (xs ++ x ∷ []) rows ≡ exchanged x (exchanged_all xs rows)
exchanged_more [] x rows = refl
exchanged_more (y ∷ xs) x rows = exchanged_more xs x (exchanged y rows)

pub planned_named : (n : ℕ) (plan : Plan) (rows : List StampRow) (r x : StampRow) → planned n plan rows r ≡ Some x → x.copy ≡ r.copy
planned_named n plan rows r x is = grind (arith, nat_tests)

put_at : (x r : StampRow) (front rest : List StampRow) → x.copy ≡ r.copy → ((q : StampRow) → In q front → q.copy < x.copy) → put_back x (front ++ r ∷ rest) ≡ front ++ x ∷ rest
put_at x r [] rest same less = grind (arith, nat_tests)
put_at x r (q ∷ front) rest same less = put_back_later x q (front ++ r ∷ rest) (less q (inl refl)) ∙ ap (λ (l : List StampRow). q ∷ l) (put_at x r front rest same (λ p i. less p (inr i)))

drop_at : (r : StampRow) (front rest : List StampRow) → ((q : StampRow) → In q front → q.copy ≢ r.copy) → ((q : StampRow) → In q rest → q.copy ≢ r.copy) → dropped r.copy (front ++ r ∷ rest) ≡ front ++ rest
drop_at r [] rest less more = grind (arith, nat_tests, dropped_none)
drop_at r (q ∷ front) rest less more =
    ap (λ (b : Bool). cond b (dropped r.copy (front ++ r ∷ rest)) (q ∷ dropped r.copy (front ++ r ∷ rest))) (ne_eqb q.copy r.copy (less q (inl refl))) ∙ ap (λ (l : List StampRow). q ∷ l) (drop_at r front rest (λ p i. less p (inr i)) more)

-- what is made of the first i rows, and the others
abbrev pub halfway : (StampRow → Option StampRow) → List StampRow → ℕ → List StampRow
halfway g rows i = filter_map g (take i rows) ++ drop i rows

rising_drop : (low : ℕ) (front rest : List StampRow) (r : StampRow) → IsRising low (front ++ r ∷ rest) → IsRising (r.copy + 1) rest
rising_drop low [] rest r up = up.1
rising_drop low (q ∷ front) rest r up = rising_drop (q.copy + 1) front rest r up.1

-- the row at i, what is made of those before, and those after
record Next (g : StampRow → Option StampRow) (rows : List StampRow) (i : ℕ) (r : StampRow) : Type 0 where
  before : halfway g rows i ≡ filter_map g (take i rows) ++ r ∷ drop (i + 1) rows
  after : halfway g rows (i + 1) ≡ (filter_map g (take i rows) ++ cons_option (g r) []) ++ drop (i + 1) rows
  less : (q : StampRow) → In q (filter_map g (take i rows)) → q.copy < r.copy
  more : (q : StampRow) → In q (drop (i + 1) rows) → q.copy ≢ r.copy

next_is : (g : StampRow → Option StampRow) (rows : List StampRow) (i : ℕ) (r : StampRow) → ((q x : StampRow) → g q ≡ Some x → x.copy ≡ q.copy) → IsRising 0 rows → i < length rows → r ≡ get_or rows i r → Next g rows i r
next_is g rows i r named up within read =
    let more : take (i + 1) rows ≡ take i rows ++ r ∷ [] = take_more rows i r within ∙ ap (λ (w : StampRow). take i rows ++ w ∷ []) (sym read) in
    let split : rows ≡ take i rows ++ r ∷ drop (i + 1) rows = at_split rows i r within ∙ ap (λ (w : StampRow). take i rows ++ w ∷ drop (i + 1) rows) (sym read) in
    let rest : drop i rows ≡ r ∷ drop (i + 1) rows = at_drop_more (λ l. l) rows i r within ∙ ap (λ (w : StampRow). w ∷ drop (i + 1) rows) (sym read) in
    record {
      before = ap (λ (l : List StampRow). filter_map g (take i rows) ++ l) rest;
      after = ap (λ (l : List StampRow). filter_map g l ++ drop (i + 1) rows) more ∙ ap (λ (l : List StampRow). l ++ drop (i + 1) rows) (filter_map-append g (take i rows) (r ∷ []));
      less = λ q j. let m = in_made g (take i rows) q j in omega (arith, named m.0 q m.2, last_above 0 (take i rows) r m.0 (subst (IsRising 0) more (rising_take 0 (i + 1) rows up)) m.1);
      more = λ q j e. omega (arith, above_low (r.copy + 1) (drop (i + 1) rows) q (rising_drop 0 (take i rows) (drop (i + 1) rows) r (subst (IsRising 0) split up)) j, e);
    }
  where
    at_split : (rows : List StampRow) (i : ℕ) (d : StampRow) → i < length rows → rows ≡ take i rows ++ get_or rows i d ∷ drop (i + 1) rows
    at_split [] i d within = absurd (omega arith)
    at_split (q ∷ rows) zero d within = refl
    at_split (q ∷ rows) (suc i) d within =
        let next : suc i + 1 ≡ suc (i + 1) = omega arith in
        ap (λ (l : List StampRow). q ∷ l) (at_split rows i d (omega arith)) ∙ ap (λ (k : ℕ). q ∷ (take i rows ++ get_or rows i d ∷ drop k (q ∷ rows))) (sym next)

-- the row at i stays, goes, or another takes its place
pub one_stays : (g : StampRow → Option StampRow) (rows : List StampRow) (i : ℕ) (r : StampRow) → ((q x : StampRow) → g q ≡ Some x → x.copy ≡ q.copy) → IsRising 0 rows → i < length rows → r ≡ get_or rows i r → g r ≡ Some r
    → halfway g rows i ≡ halfway g rows (i + 1)
one_stays g rows i r named up within read is =
    let m = next_is g rows i r named up within read in
    m.before ∙ sym (m.after ∙ ap (λ (o : Option StampRow). (filter_map g (take i rows) ++ cons_option o []) ++ drop (i + 1) rows) is ∙ append_assoc (filter_map g (take i rows)) (r ∷ []) (drop (i + 1) rows))

pub one_goes : (g : StampRow → Option StampRow) (rows : List StampRow) (i : ℕ) (r : StampRow) → ((q x : StampRow) → g q ≡ Some x → x.copy ≡ q.copy) → IsRising 0 rows → i < length rows → r ≡ get_or rows i r → g r ≡ None
    → dropped r.copy (halfway g rows i) ≡ halfway g rows (i + 1)
one_goes g rows i r named up within read is =
    let m = next_is g rows i r named up within read in
    ap (dropped r.copy) m.before ∙ drop_at r (filter_map g (take i rows)) (drop (i + 1) rows) (λ q j e. omega (arith, m.less q j, e)) m.more
    ∙ sym (m.after ∙ ap (λ (o : Option StampRow). (filter_map g (take i rows) ++ cons_option o []) ++ drop (i + 1) rows) is ∙ ap (λ (l : List StampRow). l ++ drop (i + 1) rows) (append-nil (filter_map g (take i rows))))

pub one_becomes : (g : StampRow → Option StampRow) (rows : List StampRow) (i : ℕ) (r x : StampRow) → ((q x : StampRow) → g q ≡ Some x → x.copy ≡ q.copy) → IsRising 0 rows → i < length rows → r ≡ get_or rows i r → g r ≡ Some x
    → put_back x (halfway g rows i) ≡ halfway g rows (i + 1)
one_becomes g rows i r x named up within read is =
    let m = next_is g rows i r named up within read in
    ap (put_back x) m.before ∙ put_at x r (filter_map g (take i rows)) (drop (i + 1) rows) (named r x is) (λ q j. omega (arith, m.less q j, named r x is))
    ∙ sym (m.after ∙ ap (λ (o : Option StampRow). (filter_map g (take i rows) ++ cons_option o []) ++ drop (i + 1) rows) is ∙ append_assoc (filter_map g (take i rows)) (x ∷ []) (drop (i + 1) rows))

-- what becomes of the row at i is added
pub one_added : (g : StampRow → Option StampRow) (rows : List StampRow) (i : ℕ) (r : StampRow) (old new : List Exchange) → ((q x : StampRow) → g q ≡ Some x → x.copy ≡ q.copy) → IsRising 0 rows → i < length rows → r ≡ get_or rows i r
    → AddsPlanned r (g r) old new → exchanged_all old rows ≡ halfway g rows i → exchanged_all new rows ≡ halfway g rows (i + 1)
one_added g rows i r old new named up within read added was = added.made rows ∙ ap (fated r.copy added.fate) was ∙ next added.fate added.is
  where
    next : (fate : Fate) → left_of r fate ≡ g r → fated r.copy fate (halfway g rows i) ≡ halfway g rows (i + 1)
    next Stays is = one_stays g rows i r named up within read (sym is)
    next Goes is = one_goes g rows i r named up within read (sym is)
    next (Becomes x) is = one_becomes g rows i r x named up within read (sym is)

-- a row with a number above all comes at the end
pub comes_last : (n : ℕ) (plan : Plan) (rows : List StampRow) (came : Option StampRow) → AreBefore n rows → IfSome came (λ row. row.copy ≡ n)
    → came_behind came (filter_map (planned n plan rows) rows) ≡ filter_map (planned n plan rows) rows ++ option_to_list came
comes_last n plan rows None before named = sym (append-nil (filter_map (planned n plan rows) rows))
comes_last n plan rows (Some x) before named =
    put_above x (filter_map (planned n plan rows) rows)
    (λ q i. let m = in_made (planned n plan rows) rows q i in omega (arith, (before m.0 m.1).0, planned_named n plan rows m.0 q m.2, named))
