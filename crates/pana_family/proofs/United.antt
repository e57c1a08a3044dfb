-- The table of relations after a Reconcile and a Merge.
use Rattle.pana_family.proofs.Words.{◌≡◌, ◌≢◌, ◌↔◌, ℕ, ◌≤◌, Bool, true, false, cond, ◌||◌, ◌==◌, List, [], ◌∷◌, ◌++◌, ◌⊎◌, Some, None, Contains, filter_map, refl, sym, ap, subst, ◌∙◌, inl, inr, arith}
use Rattle.pana_family.proofs.Words.{cases_Bool, eqb-true, eqb-false, ne_eqb, or_cases, or_parts, nat_tests, Id, AtPoints, IsSum, Event, IsSound, IsJoin, level, IsBelow, is_leq, IsRelation}
use Rattle.pana_family.proofs.Words.{leq-is-below, below-is-leq, and_parts, tested_relation, Rel, Equal, Older, Newer, Conflict, Table, Holds, rel_of, with_row, IsRaised, Stamp, StampRow, Merge, Reconcile, has, In}
use Rattle.pana_family.proofs.Words.{IsRising, lives, row_in, is_copy, ArePaired, AreCompared, HasCopies, IsReady, is_other, first_part, joined_stamp, reported_rows, second_part, settled, shared, updated_stamp}
use Rattle.std.proofs.lemmas.Bool.{and_from}
use Rattle.pana_family.proofs.Words.{◌+◌, ◌<◌, zero, suc, length, map, filter, take, nat_lt, get_or, copy_rows}
use Rattle.pana_event.proofs.Sound.{IsJoin-joined}
use Rattle.pana_family.specs.inner.Uniting.{IsUniting, IsDecided, are_below, is_at_least, is_at_most, is_one_above}
use Rattle.pana_id.specs.Id.{has as owns}
use Rattle.pana_rel.specs.Pairs.{liked_row, place_of}
use Rattle.pana_rel.proofs.Places.{place_within}
use Rattle.pana_family.proofs.{Places.in_read, Members.above_low, Members.in_append, Members.in_left, Members.not_held, Members.one_row, Places.free_from, Images.in_made, Images.to_made, Compared.row_compared, Following.all_followed}
use Rattle.pana_family.proofs.Copies.{ByPlaces, copies_are, lives_from, living_at}
use Rattle.pana_family.proofs.{Keeps.merge_raised, Keeps.two_rows, Shares.AreTwo, Shares.whole_is}

-- Two events.

-- the test says what is known
pub tested_below : (e f : Event) (below : Bool) → IsSound e → IsSound f → (below ≡ true) ↔ IsBelow e f → is_leq e f ≡ below
tested_below e f true s t is = below-is-leq e f s.shallow t.shallow t.normal (is.0 refl)
tested_below e f false s t is = elim (cases_Bool (is_leq e f)) [
  | inl yes' ↦ absurd (cc (is.1 (leq-is-below e f s.shallow t.shallow yes')))
  | inr no' ↦ no'
]

pub tested_above : (e f : Event) → IsSound e → IsSound f → IsBelow e f → is_leq e f ≡ true
tested_above e f s t below = below-is-leq e f s.shallow t.shallow t.normal below

pub tested_same : (e f : Event) → IsSound e → e ≡ f → tested_relation e f ≡ Equal
tested_same e f s same =
    let leq : is_leq e e ≡ true = below-is-leq e e s.shallow s.shallow s.normal record { levels = λ p long. omega arith } in
    subst (λ (g : Event). tested_relation e g ≡ Equal) same (rw (leq) refl)

-- how they relate, from what is known of one way and tested the other
pub decided : (e f : Event) (known below above : Bool) → IsSound e → IsSound f → (known ≡ true) ↔ IsBelow e f → known ≡ below → above ≡ is_leq f e → cond below (cond above Equal Older) (cond above Newer Conflict) ≡ tested_relation e f
decided e f known below above s t is same tested =
    ap (λ (v : Bool). cond below (cond v Equal Older) (cond v Newer Conflict)) tested
    ∙ ap (λ (v : Bool). cond v (cond (is_leq f e) Equal Older) (cond (is_leq f e) Newer Conflict)) (sym (tested_below e f known s t is ∙ same))

-- another copy's row
pub other_is : (copy : ℕ) (r : StampRow) → is_other copy r ≡ true → (r.holder ≡ None) × (r.copy ≢ copy)
other_is copy r is = grind (arith, nat_tests, free_from)

-- Places among the copies.

-- the copy of a row at i, where that of c comes before all
place_before : (c low i : ℕ) (r : StampRow) (rows : List StampRow) → IsRising low rows → c < low → i < length rows → r ≡ get_or rows i r → is_copy r.holder ≡ true
    → place_of r.copy (map (λ q. q.copy) (copy_rows rows)) ≡ length (filter (is_other c) (take i rows))
place_before c low i r [] up below within is free = absurd (omega arith)
place_before c low zero r (q ∷ rows) up below within is free = grind (arith, nat_tests)
place_before c low (suc i) r (q ∷ rows) up below within is free =
    let more = place_before c (q.copy + 1) i r rows up.1 (omega (arith, up.0)) (omega arith) is free in
    let later : q.copy < r.copy = omega (arith, above_low (q.copy + 1) rows r up.1 (in_read rows i r (omega arith) is)) in
    grind (arith, nat_tests)

-- the copy of another row at i, by the others before it
place_among : (low i : ℕ) (row r : StampRow) (rows : List StampRow) → IsRising low rows → In row rows → row.holder ≡ None → i < length rows → r ≡ get_or rows i r → is_other row.copy r ≡ true
    → place_of r.copy (map (λ q. q.copy) (copy_rows rows)) ≡ length (filter (is_other row.copy) (take i rows)) + cond (nat_lt row.copy r.copy) 1 0
place_among low i row r [] up here free within is other = absurd here
place_among low zero row r (q ∷ rows) up here free within is other = grind (arith, nat_tests, above_low)
place_among low (suc i) row r (q ∷ rows) up here free within is other =
    let later : q.copy < r.copy = omega (arith, above_low (q.copy + 1) rows r up.1 (in_read rows i r (omega arith) is)) in
    elim here [
      | inl e ↦
          let rest = place_before row.copy (q.copy + 1) i r rows up.1 (grind (arith, nat_tests)) (omega arith) is (grind (arith, nat_tests)) in
          grind (arith, nat_tests)
      | inr j ↦
          let rest = place_among (q.copy + 1) i row r rows up.1 j free (omega arith) is other in
          let after : q.copy < row.copy = omega (arith, above_low (q.copy + 1) rows row up.1 j) in
          grind (arith, nat_tests)
    ]

-- where the table has the copy of another row at i
pub placed : (rows : List StampRow) (copies : List ℕ) (row r : StampRow) (i at : ℕ) → IsRising 0 rows → ByPlaces copies → ((c : ℕ) → Contains copies c ↔ (lives rows c ≡ true)) → In row rows → row.holder ≡ None
    → i < length rows → r ≡ get_or rows i r → is_other row.copy r ≡ true → at ≡ length (filter (is_other row.copy) (take i rows)) + cond (nat_lt row.copy r.copy) 1 0 → (place_of r.copy copies ≡ at) × (at < length copies)
placed rows copies row r i at up places has_copies here free within is other at_is =
    let place : place_of r.copy copies ≡ at = ap (place_of r.copy) (copies_are rows copies up places has_copies) ∙ place_among 0 i row r rows up here free within is other ∙ sym at_is in
    let there : Contains copies r.copy = (has_copies r.copy).1 (lives_from rows r (in_read rows i r within is) (other_is row.copy r other).0) in
    (place, omega (arith, place, place_within copies r.copy there))

-- Unions.

at_most : (e f : Event) (rel : Rel) → IsRelation e f rel → (is_at_most rel ≡ true) ↔ IsBelow e f
at_most e f Equal is = ((λ _. is.0), λ _. refl)
at_most e f Older is = ((λ _. is.0), λ _. refl)
at_most e f Newer is = ((λ h. absurd (cc h)), λ h. absurd (is.1 h))
at_most e f Conflict is = ((λ h. absurd (cc h)), λ h. absurd (is.0 h))

at_least : (e f : Event) (rel : Rel) → IsRelation e f rel → is_at_least rel ≡ true → IsBelow f e
at_least e f Equal is h = is.1
at_least e f Older is h = absurd (cc h)
at_least e f Newer is h = is.0
at_least e f Conflict is h = absurd (cc h)

below_join : (e f j g : Event) → IsJoin e f j → IsBelow e g → IsBelow f g → IsBelow j g
below_join e f j g is one two = record { levels = λ p long. omega (arith, is.levels p long, one.levels p long, two.levels p long) }

join_below : (e f j g : Event) → IsJoin e f j → IsBelow j g → IsBelow e g × IsBelow f g
join_below e f j g is all = (record { levels = λ p long. omega (arith, is.levels p long, all.levels p long) }, record { levels = λ p long. omega (arith, is.levels p long, all.levels p long) })

above_one : (e f j g : Event) → IsJoin e f j → IsBelow g e ⊎ IsBelow g f → IsBelow g j
above_one e f j g is (inl one) = record { levels = λ p long. omega (arith, is.levels p long, one.levels p long) }
above_one e f j g is (inr two) = record { levels = λ p long. omega (arith, is.levels p long, two.levels p long) }

one_above : (e f g : Event) (first second : Rel) → IsRelation e g first → IsRelation f g second → is_one_above first second ≡ true → IsBelow g e ⊎ IsBelow g f
one_above e f g first second one two h = elim (or_cases (is_at_least first) (is_at_least second) h) [
  | inl a ↦ inl (at_least e g first one a)
  | inr b ↦ inr (at_least f g second two b)
]

-- what two know is decided by how they relate
joined_decided : (e f j g : Event) (first second : Rel) → IsJoin e f j → IsRelation e g first → IsRelation f g second → IsDecided j g (are_below false first second) (is_one_above first second)
joined_decided e f j g first second is one two = record {
  below_is = (
    (λ h. let both = and_parts (is_at_most first) (is_at_most second) h in below_join e f j g is ((at_most e g first one).0 both.0) ((at_most f g second two).0 both.1)),
    λ h. let both = join_below e f j g is h in and_from (is_at_most first) (is_at_most second) ((at_most e g first one).1 both.0) ((at_most f g second two).1 both.1),
  );
  above_is = λ h. above_one e f j g is (one_above e f g first second one two h);
}

-- and so it is where an update is new to all
raised_decided : (i : Id) (e f j new g : Event) (first second : Rel) → IsJoin e f j → IsRaised i j new → AtPoints (λ p. owns i p ≡ true → level g p ≤ level j p) → IsRelation e g first → IsRelation f g second
    → IsDecided new g (are_below true first second) (is_one_above first second)
raised_decided i e f j new g first second is up owner one two = record {
  below_is = ((λ h. absurd (cc h)), λ h. absurd (omega (arith, h.levels up.point up.long, up.higher, owner up.point up.long up.owned)));
  above_is = λ h. let all = above_one e f j g is (one_above e f g first second one two h) in record { levels = λ p long. omega (arith, all.levels p long, up.kept p long) };
}

-- The rows.

-- what two copies share, and where the rest are
record AreShared (n a b : ℕ) (whole : Stamp) (rows new : List StampRow) : Type 0 where
  is : new ≡ filter_map (shared n a b (first_part whole) (second_part whole) rows) rows ++ []
  differ : a ≢ b

shared_is : (n a b : ℕ) (first second : Stamp) (rows : List StampRow) (r x : StampRow) → first.event ≡ second.event → shared n a b first second rows r ≡ Some x
    → (x.copy ≡ r.copy) × (is_copy x.holder ≡ is_copy r.holder) × (r.copy ≡ a → x.stamp.event ≡ first.event) × (r.copy ≡ b → x.stamp.event ≡ first.event) × (r.copy ≢ a → r.copy ≢ b → x ≡ r)
shared_is n a b first second rows r x same is = grind (arith, nat_tests)

-- a row after it was one before
was_one : (n a b : ℕ) (whole : Stamp) (rows new : List StampRow) → AreShared n a b whole rows new → (x : StampRow) → In x new
    → (r : StampRow) × In r rows × (x.copy ≡ r.copy) × (is_copy x.holder ≡ is_copy r.holder) × (r.copy ≡ a → x.stamp.event ≡ whole.event) × (r.copy ≡ b → x.stamp.event ≡ whole.event) × (r.copy ≢ a → r.copy ≢ b → x ≡ r)
was_one n a b whole rows new h x i =
    elim (in_append x (filter_map (shared n a b (first_part whole) (second_part whole) rows) rows) [] (subst (In x) h.is i)) [
      | inl j ↦
          let m = in_made (shared n a b (first_part whole) (second_part whole) rows) rows x j in
          let s = shared_is n a b (first_part whole) (second_part whole) rows m.0 x refl m.2 in
          (m.0, m.1, s.0, s.1, s.2, s.3, s.4)
      | inr never ↦ absurd never
    ]

-- another copy's row stood there before
was_there : (n a b : ℕ) (whole : Stamp) (rows new : List StampRow) → AreShared n a b whole rows new → (x : StampRow) → In x new → x.copy ≢ a → x.copy ≢ b → In x rows
was_there n a b whole rows new h x i na nb =
    let m = was_one n a b whole rows new h x i in
    subst (λ (r : StampRow). In r rows) (sym (m.6 (λ e. na (m.2 ∙ e)) (λ e. nb (m.2 ∙ e)))) m.1

-- the same copies live
lives_still : (n a b : ℕ) (whole : Stamp) (rows new : List StampRow) → AreShared n a b whole rows new → (c : ℕ) → (lives rows c ≡ true) ↔ (lives new c ≡ true)
lives_still n a b whole rows new h c = (
  (λ alive. let r = living_at rows c alive in
      let k : (x : StampRow) × (shared n a b (first_part whole) (second_part whole) rows r.0 ≡ Some x) × (x.copy ≡ r.0.copy) × (x.holder ≡ None) = stays r.0 r.3 in
      subst (λ (m : ℕ). lives new m ≡ true) (k.2 ∙ r.2)
      (lives_from new k.0 (subst (In k.0) (sym h.is) (in_left k.0 (filter_map (shared n a b (first_part whole) (second_part whole) rows) rows) [] (to_made (shared n a b (first_part whole) (second_part whole) rows) rows r.0 k.0 r.1 k.1))) k.3)),
  λ alive. let x = living_at new c alive in
      let m = was_one n a b whole rows new h x.0 x.1 in
      subst (λ (m : ℕ). lives rows m ≡ true) (sym m.2 ∙ x.2) (lives_from rows m.0 m.1 (free_from m.0.holder (sym m.3 ∙ ap is_copy x.3))),
)
  where
    stays : (r : StampRow) → r.holder ≡ None → (x : StampRow) × (shared n a b (first_part whole) (second_part whole) rows r ≡ Some x) × (x.copy ≡ r.copy) × (x.holder ≡ None)
    stays r free = elim (cases_Bool (r.copy == a)) [
      | inl e ↦ (settled None rows (first_part whole) n r, grind (arith, nat_tests), refl, free)
      | inr ne ↦ elim (cases_Bool (r.copy == b)) [
        | inl e ↦ (settled None rows (second_part whole) n r, grind (arith, nat_tests), refl, free)
        | inr other ↦ (r, grind (arith, nat_tests, not_held), refl, free)
      ]
    ]

neither : (a b c : ℕ) → has (a ∷ b ∷ []) c ≡ false → (c ≢ a) × (c ≢ b)
neither a b c out =
    let p = or_parts (a == c) ((b == c) || false) out in
    ((λ e. eqb-false a c p.0 (sym e)), λ e. eqb-false b c (or_parts (b == c) false p.1).0 (sym e))

uniting : (updated : Bool) (n a b : ℕ) (whole : Stamp) (rows new : List StampRow) (pairs : Table) → AreShared n a b whole rows new → AreTwo rows a b (row_in rows a) (row_in rows b) → ArePaired rows pairs
    → ((g : StampRow) → In g rows → (first second : Rel) → IsRelation (row_in rows a).stamp.event g.stamp.event first → IsRelation (row_in rows b).stamp.event g.stamp.event second
    → g.copy ≢ a → g.copy ≢ b → IsDecided whole.event g.stamp.event (are_below updated first second) (is_one_above first second))
    → IsUniting updated a b new pairs
uniting updated n a b whole rows new pairs h two p decided =
    let r : StampRow = row_in rows a in
    let q : StampRow = row_in rows b in
    let still = lives_still n a b whole rows new h in
    let event_a : (x : StampRow) → In x new → x.copy ≡ a → x.stamp.event ≡ whole.event = λ x i e. let m = was_one n a b whole rows new h x i in m.4 (sym m.2 ∙ e) in
    let event_b : (x : StampRow) → In x new → x.copy ≡ b → x.stamp.event ≡ whole.event = λ x i e. let m = was_one n a b whole rows new h x i in m.5 (sym m.2 ∙ e) in
    record {
      first = (still a).0 (subst (λ (k : ℕ). lives rows k ≡ true) two.first.named (lives_from rows r two.first.there two.first.free));
      second = (still b).0 (subst (λ (k : ℕ). lives rows k ≡ true) two.second.named (lives_from rows q two.second.there two.second.free));
      differ = h.differ;
      copies = λ c. ((λ here. (still c).0 ((p.copies c).0 here)), λ alive. (p.copies c).1 ((still c).1 alive));
      united = record {
        same = λ x y i j e f. event_a x i e ∙ sym (event_b y j f);
        decided = λ x y i j free e na nb.
            let g : In y rows = was_there n a b whole rows new h y j na nb in
            let one : IsRelation r.stamp.event y.stamp.event (rel_of pairs a y.copy) =
            subst (λ (k : ℕ). IsRelation r.stamp.event y.stamp.event (rel_of pairs k y.copy)) two.first.named (p.rels r y two.first.there g two.first.free free (λ s. na (sym s ∙ two.first.named))) in
            let other : IsRelation q.stamp.event y.stamp.event (rel_of pairs b y.copy) =
            subst (λ (k : ℕ). IsRelation q.stamp.event y.stamp.event (rel_of pairs k y.copy)) two.second.named (p.rels q y two.second.there g two.second.free free (λ s. nb (sym s ∙ two.second.named))) in
            subst (λ (v : Event). IsDecided v y.stamp.event (are_below updated (rel_of pairs a y.copy) (rel_of pairs b y.copy)) (is_one_above (rel_of pairs a y.copy) (rel_of pairs b y.copy)))
            (sym (event_a x i e)) (decided y g (rel_of pairs a y.copy) (rel_of pairs b y.copy) one other na nb);
      };
      rels = λ x y i j free also ne out out'.
          let s = neither a b x.copy out in
          let t = neither a b y.copy out' in
          p.rels x y (was_there n a b whole rows new h x i s.0 s.1) (was_there n a b whole rows new h y j t.0 t.1) free also ne;
    }

pub reconcile_uniting : (n a b : ℕ) (rows new : List StampRow) (pairs : Table) → IsReady n (Reconcile a b) rows → new ≡ reported_rows n (Reconcile a b) rows → ArePaired rows pairs → IsUniting false a b new pairs
reconcile_uniting n a b rows new pairs w is p =
    let r : StampRow = row_in rows a in
    let q : StampRow = row_in rows b in
    let two : AreTwo rows a b r q = two_rows rows a b w.kept.rising w.able.0 w.able.1 w.able.2 in
    let whole : Stamp = joined_stamp r.stamp q.stamp in
    let join : IsJoin r.stamp.event q.stamp.event whole.event = IsJoin-joined r.stamp.event q.stamp.event (w.sound r two.first.there).1.shallow (w.sound q two.second.there).1.shallow in
    uniting false n a b whole rows new pairs record { is = is; differ = two.differ } two p
    (λ g i first second one other na nb. joined_decided r.stamp.event q.stamp.event whole.event g.stamp.event first second join one other)

pub merge_uniting : (n a b : ℕ) (rows new : List StampRow) (pairs : Table) → IsReady n (Merge a b) rows → new ≡ reported_rows n (Merge a b) rows → ArePaired rows pairs → IsUniting true a b new pairs
merge_uniting n a b rows new pairs w is p =
    let r : StampRow = row_in rows a in
    let q : StampRow = row_in rows b in
    let two : AreTwo rows a b r q = two_rows rows a b w.kept.rising w.able.0 w.able.1 w.able.2 in
    let both : Stamp = joined_stamp r.stamp q.stamp in
    let join : IsJoin r.stamp.event q.stamp.event both.event = IsJoin-joined r.stamp.event q.stamp.event (w.sound r two.first.there).1.shallow (w.sound q two.second.there).1.shallow in
    let sum : IsSum both.id r.stamp.id q.stamp.id = (whole_is rows a b r q w.kept w.sound two).summed in
    uniting true n a b (updated_stamp both) rows new pairs record { is = is; differ = two.differ } two p
    (λ g i first second one other na nb. raised_decided both.id r.stamp.event q.stamp.event both.event (updated_stamp both).event g.stamp.event first second join (merge_raised n a b rows w).0
    (λ point long o. elim (or_cases (owns r.stamp.id point) (owns q.stamp.id point) (sym (sum.owned point long) ∙ o)) [
      | inl mine ↦ omega (arith, join.levels point long, w.kept.stands.owner r g two.first.there i point long mine)
      | inr its ↦ omega (arith, join.levels point long, w.kept.stands.owner q g two.second.there i point long its)
    ])
    one other)

-- The second copy.

-- it was set like the first
pub made_like : (rows : List StampRow) (a b : ℕ) (old new : Table) → IsRising 0 rows → lives rows a ≡ true → lives rows b ≡ true → a ≢ b → HasCopies rows old → AreCompared (b ∷ []) rows old
    → ((x y : StampRow) → In x rows → In y rows → x.copy ≡ a → y.copy ≡ b → x.stamp.event ≡ y.stamp.event)
    → ((c : ℕ) → Contains old.copies c → rel_of old c c ≡ Equal) → new.copies ≡ old.copies → Holds new (with_row b (liked_row b (rel_of old a)) (rel_of old)) → ArePaired rows new
made_like rows a b old new up first second differ copies was same itself kept holds =
    let x = living_at rows a first in
    let y = living_at rows b second in
    let has_all : HasCopies rows new = subst (λ (cs : List ℕ). (c : ℕ) → Contains cs c ↔ (lives rows c ≡ true)) (sym kept) copies in
    let other : (c : ℕ) → c ≢ b → has (b ∷ []) c ≡ false = λ c ne. ap (λ (v : Bool). v || false) (ne_eqb b c (λ e. ne (sym e))) in
    all_followed rows new has_all
    (row_compared b y.0 (liked_row b (rel_of old a)) rows old new [] up y.1 y.2 has_all holds
    (λ z i free ne. subst (λ (e : Event). IsRelation e z.stamp.event (liked_row b (rel_of old a) z.copy)) (same x.0 y.0 x.1 y.1 x.2 y.2)
    (rw (ne_eqb z.copy b ne) (elim (cases_Bool (z.copy == a)) [
      | inl e ↦
          let is : z.copy ≡ a = eqb-true z.copy a e in
          let one : z ≡ x.0 = one_row 0 rows z x.0 up i x.1 (is ∙ sym x.2) in
          subst (IsRelation x.0.stamp.event z.stamp.event) (sym (ap (rel_of old a) is ∙ itself a ((copies a).1 first)))
          (subst (λ (q : StampRow). IsRelation x.0.stamp.event q.stamp.event Equal) (sym one) (record { levels = λ p long. omega arith }, record { levels = λ p long. omega arith }))
      | inr na ↦
          let ne_a : x.0.copy ≢ z.copy = λ e. eqb-false z.copy a na (sym e ∙ x.2) in
          subst (λ (k : ℕ). IsRelation x.0.stamp.event z.stamp.event (rel_of old k z.copy)) x.2
          (was x.0 z x.1 i x.3 free ne_a (other x.0.copy (λ e. differ (sym x.2 ∙ e))) (other z.copy ne))
    ])))
    was)
