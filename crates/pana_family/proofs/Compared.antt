-- A copy's relations, set by comparing stamps.
use Rattle.pana_family.proofs.Words.{◌≡◌, ◌≢◌, ℕ, ◌+◌, ◌<◌, ◌≤◌, Bool, true, false, cond, ◌==◌, ◌&&◌, List, [], ◌∷◌, ◌++◌, length, map, filter, take, None, slice_index_or, refl, sym, ap, subst, ◌∙◌}
use Rattle.pana_family.proofs.Words.{inl, inr, arith, suc, zero, cases_Bool, both_ways, eqb-true, or_from, append-nil, length-append, nat_tests, Event, IsSound, IsRelation, Rel, leq-is-below}
use Rattle.pana_family.proofs.Words.{below-is-leq, Table, Holds, rel_at, rel_of, with_row, without, StampRow, is_copy, In, IsRising, lives, copy_rows, AreSound, AreCompared, HasCopies, is_other}
use Rattle.pana_family.proofs.Words.{row_relation, filter_more, reverse_of, tested_relation, relations}
use Rattle.pana_family.proofs.{Members.in_filter, Members.one_row, Members.to_filter, Copies.copies_are, Copies.lives_from, Copies.ByPlaces}

-- what the test of two sound events says
pub tested : (e f : Event) → IsSound e → IsSound f → IsRelation e f (tested_relation e f)
tested e f m n = grind (arith, nat_tests, leq-is-below, below-is-leq)

pub turned : (e f : Event) (rel : Rel) → IsRelation e f rel → IsRelation f e (reverse_of rel)
turned e f rel is = grind (arith, nat_tests)

-- The other copies' rows.

all_others : (c low : ℕ) (rows : List StampRow) → IsRising low rows → c < low → filter (is_other c) rows ≡ copy_rows rows
all_others c low [] up below = refl
all_others c low (r ∷ rows) up below = grind (arith, nat_tests, all_others c (r.copy + 1) rows up.1 (omega (arith, up.0)))

pub others_length : (c low : ℕ) (rows : List StampRow) → IsRising low rows → lives rows c ≡ true → length (filter (is_other c) rows) + 1 ≡ length (copy_rows rows)
others_length c low [] up living = absurd (cc)
others_length c low (r ∷ rows) up living =
    elim (cases_Bool (r.copy == c)) [
      | inl e ↦
          let same : r.copy ≡ c = eqb-true r.copy c e in
          let rest : filter (is_other c) rows ≡ copy_rows rows = all_others c (r.copy + 1) rows up.1 (omega (arith, same)) in
          elim (cases_Bool (is_copy r.holder)) [
            | inl copy ↦ rw (copy, e) (omega (arith, ap length rest))
            | inr parcel ↦ absurd (gone rest parcel e)
          ]
      | inr ne ↦
          let there : lives rows c ≡ true = grind (arith, nat_tests) in
          let more = others_length c (r.copy + 1) rows up.1 there in
          elim (cases_Bool (is_copy r.holder)) [
            | inl copy ↦ rw (copy, ne) (omega (arith, more))
            | inr parcel ↦ rw parcel more
          ]
    ]
  where
    none : (low : ℕ) (rows : List StampRow) → IsRising low rows → c < low → lives rows c ≡ false
    none low [] up below = refl
    none low (q ∷ rows) up below = or_from (q.copy == c && is_copy q.holder) (lives rows c) (grind (arith, nat_tests)) (none (q.copy + 1) rows up.1 (omega (arith, up.0)))

    gone : filter (is_other c) rows ≡ copy_rows rows → is_copy r.holder ≡ false → (r.copy == c) ≡ true → ⊥
    gone rest parcel e =
        both_ways (lives (r ∷ rows) c)
        (grind (arith, nat_tests, none (r.copy + 1) rows up.1 (omega (arith, eqb-true r.copy c e)))) living

without_rows : (c : ℕ) (rows : List StampRow) → without c (map (λ r. r.copy) (copy_rows rows)) ≡ map (λ r. r.copy) (filter (is_other c) rows)
without_rows c [] = refl
without_rows c (r ∷ rows) = grind (arith, nat_tests, without_rows c rows)

-- what is read of a list beside that of its numbers
read_beside : (f : StampRow → Rel) (others : List StampRow) (q : StampRow) → In q others → ((r : StampRow) → In r others → r.copy ≡ q.copy → r ≡ q) → rel_at (map (λ r. r.copy) others) (map f others) q.copy ≡ f q
read_beside f [] q i one = absurd i
read_beside f (r ∷ others) q i one = elim (cases_Bool (r.copy == q.copy)) [
  | inl e ↦ rw e (ap f (one r (inl refl) (eqb-true r.copy q.copy e)))
  | inr ne ↦ elim i [
    | inl is ↦ grind (arith, nat_tests)
    | inr later ↦ rw ne (read_beside f others q later (λ s j. one s (inr j)))
  ]
]

pub read_relation : (rows : List StampRow) (cs : List ℕ) (row q : StampRow) → IsRising 0 rows → cs ≡ map (λ r. r.copy) (copy_rows rows) → In q rows → q.holder ≡ None → q.copy ≢ row.copy
    → rel_at (without row.copy cs) (relations row rows) q.copy ≡ row_relation row q
read_relation rows cs row q up are i free ne = grind (arith, nat_tests, without_rows, read_beside, to_filter, one_row, in_filter)

-- The row of a copy is set.

-- x is the copy's row; those of others relate as they did
pub row_compared : (c : ℕ) (x : StampRow) (relate : ℕ → Rel) (rows : List StampRow) (old new : Table) (but : List ℕ) → IsRising 0 rows → In x rows → x.copy ≡ c → HasCopies rows new → Holds new (with_row c relate (rel_of old))
    → ((y : StampRow) → In y rows → y.holder ≡ None → y.copy ≢ c → IsRelation x.stamp.event y.stamp.event (relate y.copy)) → AreCompared (c ∷ but) rows old → AreCompared but rows new
row_compared c x relate rows old new but up there named copies holds own rest y z i j free free' ne out out' =
    let value : (b d : Bool) → (y.copy == c) ≡ b → (z.copy == c) ≡ d → cond b (relate z.copy) (cond d (reverse_of (relate y.copy)) (rel_of old y.copy z.copy)) ≡ rel_of new y.copy z.copy = λ b d e f.
    sym (holds y.copy z.copy ((copies y.copy).1 (lives_from rows y i free)) ((copies z.copy).1 (lives_from rows z j free')) ∙ rw (e, f) refl) in
    grind (arith, nat_tests, one_row)

pub copy_compared : (rows : List StampRow) (old new : Table) (row : StampRow) → IsRising 0 rows → AreSound rows
    → ByPlaces old.copies → HasCopies rows old → In row rows → row.holder ≡ None → new.copies ≡ old.copies
    → Holds new (with_row row.copy (rel_at (without row.copy old.copies) (relations row rows)) (rel_of old)) → (but : List ℕ) → AreCompared (row.copy ∷ but) rows old → AreCompared but rows new
copy_compared rows old new row up sound places has_copies there free kept holds but was =
    row_compared row.copy row (rel_at (without row.copy old.copies) (relations row rows)) rows old new but up there refl (λ d. grind (arith, nat_tests)) holds
    (λ y i f ne. subst (IsRelation row.stamp.event y.stamp.event) (sym (read_relation rows old.copies row y up (copies_are rows old.copies up places has_copies) i f ne)) (grind (arith, nat_tests, tested)))
    was

-- Over the rows.

pub fewer_taken : (test : StampRow → Bool) (rows : List StampRow) (i : ℕ) → length (filter test (take i rows)) ≤ length (filter test rows)
fewer_taken test rows zero = omega arith
fewer_taken test [] (suc i) = omega arith
fewer_taken test (r ∷ rows) (suc i) = grind (arith, nat_tests, fewer_taken test rows i)

-- one row more that passes, or not
pub one_more : (test : StampRow → Bool) (rows : List StampRow) (i : ℕ) (r : StampRow) → i < length rows → r ≡ slice_index_or rows i r → test r ≡ true → filter test (take (i + 1) rows) ≡ filter test (take i rows) ++ r ∷ []
one_more test rows i r within is passes = cc (filter_more test rows i r within)

pub none_more : (test : StampRow → Bool) (rows : List StampRow) (i : ℕ) (r : StampRow) → i < length rows → r ≡ slice_index_or rows i r → test r ≡ false → filter test (take (i + 1) rows) ≡ filter test (take i rows)
none_more test rows i r within is fails = cc (filter_more test rows i r within, append-nil (filter test (take i rows)))

pub room_for_one : (test : StampRow → Bool) (rows : List StampRow) (i : ℕ) (r : StampRow) → i < length rows → r ≡ slice_index_or rows i r → test r ≡ true → length (filter test (take i rows)) < length (filter test rows)
room_for_one test rows i r within is passes =
    omega (arith, fewer_taken test rows (i + 1), ap length (one_more test rows i r within is passes), length-append (filter test (take i rows)) (r ∷ []))
