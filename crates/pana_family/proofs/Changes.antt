-- What rows that stand for a table say of it, the first rows, and reports that change one row or take rows out.
use Rattle.pana_family.proofs.Words.{◌≡◌, ◌≢◌, ◌↔◌, ℕ, ◌+◌, ◌<◌, Bool, true, false, ◌||◌, ◌==◌, cond, List, [], ◌∷◌, Some, None, refl, sym, ap, subst, ◌∙◌, inl, inr, arith, cases_Bool, eqb-true}
use Rattle.pana_family.proofs.Words.{ne_eqb, nat_tests, is_zero, IsParted, parts, leaf, level, IsBelow, IsRelation, Rel, Equal, Older, Newer, Conflict, IsRaised, Stamp, StampRow, Duplicate, Edit}
use Rattle.pana_family.proofs.Words.{Remove, Touch, has, IsSubset, relation, RelatesSets, is_held, Known, known, knowing, In, set_in, registered, touch_in, AreBelow, top, AreSame, StandsFor, IsRising}
use Rattle.pana_family.proofs.Words.{seed_row, first_part, made, restamped, second_part, updated_stamp, IsRowOf, lost}
use Rattle.pana_family.proofs.Sound.{Sound, Put, Updated, edit_keeps, below_subset, subset_below}
use Rattle.pana_family.proofs.Members.{holds_at, holds_found, Holds, held, one_row, to_sound, unknown_yet, above_low}
use Rattle.pana_family.proofs.{Relations.relates, Tables.made_known}
use Rattle.pana_family.proofs.Images.{Alike, Outcome, some, one_outcome, stay_outcome}

-- Comparing.

pub below_is_subset : (rows : List StampRow) (table : List Known) (r q : StampRow) → StandsFor rows table → In r rows → In q rows
    → IsBelow r.stamp.event q.stamp.event ↔ IsSubset (set_in table r.copy) (set_in table q.copy)
below_is_subset rows table r q st i j =
    let first = holds_found rows table st.same r i in
    let second = holds_found rows table st.same q j in (
      below_subset (Holds rows table) r.copy q.copy r.stamp q.stamp (set_in table r.copy) (set_in table q.copy) (to_sound rows table st) first second,
      subset_below (Holds rows table) r.copy q.copy r.stamp q.stamp (set_in table r.copy) (set_in table q.copy) (to_sound rows table st) first second,
    )

pub relation_is : (rows : List StampRow) (table : List Known) (r q : StampRow) (rel : Rel) → StandsFor rows table → In r rows → In q rows
    → IsRelation r.stamp.event q.stamp.event rel → rel ≡ relation (set_in table r.copy) (set_in table q.copy)
relation_is rows table r q rel st i j is = sym (by_case rel is)
  where
    sets : RelatesSets (set_in table r.copy) (set_in table q.copy)
    sets = relates (set_in table r.copy) (set_in table q.copy)

    up : IsBelow r.stamp.event q.stamp.event ↔ IsSubset (set_in table r.copy) (set_in table q.copy)
    up = below_is_subset rows table r q st i j

    down : IsBelow q.stamp.event r.stamp.event ↔ IsSubset (set_in table q.copy) (set_in table r.copy)
    down = below_is_subset rows table q r st j i

    by_case : (rel : Rel) → IsRelation r.stamp.event q.stamp.event rel → relation (set_in table r.copy) (set_in table q.copy) ≡ rel
    by_case Equal is = sets.equal.1 (up.0 is.0, down.0 is.1)
    by_case Older is = sets.older.1 (up.0 is.0, λ h. is.1 (down.1 h))
    by_case Newer is = sets.newer.1 (down.0 is.0, λ h. is.1 (up.1 h))
    by_case Conflict is = sets.conflict.1 ((λ h. is.0 (up.1 h)), λ h. is.1 (down.1 h))

-- The first copy.

only_row : (n : ℕ) (r : StampRow) → In r (seed_row n ∷ []) → r ≡ seed_row n
only_row n r i = elim i [ inl e ↦ e | inr never ↦ absurd never ]

only_known : (n : ℕ) (t : Known) → In t (registered n) → t ≡ known n [] n
only_known n t i = elim i [ inl e ↦ e | inr never ↦ absurd never ]

pub no_update : (n : ℕ) (t : Known) (u : ℕ) → In t (registered n) → has t.set u ≡ true → ⊥
no_update n t u i m = grind (arith, nat_tests)

pub empty_stands : StandsFor [] []
empty_stands = record {
  same = tt;
  owning = λ r i. absurd i;
  apart = λ r q i. absurd i;
  owner = λ r q i. absurd i;
  marked = λ t u i. absurd i;
  made = record { event_of = λ u. leaf 0; levels = λ r t i. absurd i };
}

pub seed_stands : (n : ℕ) → StandsFor (seed_row n ∷ []) (registered n)
seed_stands n = record {
  same = (refl, refl, refl, tt);
  owning = λ r i. subst (λ (q : StampRow). is_zero q.stamp.id ≡ false) (sym (only_row n r i)) refl;
  apart = grind (arith, nat_tests);
  owner = grind (arith, nat_tests);
  marked = λ t u i m. absurd (no_update n t u i m);
  made = record {
    event_of = λ u. leaf 0;
    levels = λ r t i j e p long. ap (λ (w : StampRow). level w.stamp.event p) (only_row n r i) ∙ ap (λ (w : Known). top (λ u. leaf 0) w.set p) (sym (only_known n t j));
  };
}

pub touch_found : (low : ℕ) (rows : List StampRow) (table : List Known) (r : StampRow) → IsRising low rows → AreSame rows table → In r rows → touch_in table r.copy ≡ r.touch
touch_found low (q ∷ rows) (t ∷ table) r up same i = elim i [
  | inl e ↦ grind (arith, nat_tests)
  | inr j ↦ ap (λ (b : Bool). cond b t.touch (touch_in table r.copy)) (ne_eqb t.copy r.copy (λ e. omega (arith, above_low (q.copy + 1) rows r up.1 j, same.0, e)))
      ∙ touch_found (q.copy + 1) rows table r up.1 same.3 j
]
touch_found low rows table r up same i = grind (arith, nat_tests)

-- Reports that change one row.

abbrev pub Edited : List StampRow → List Known → ℕ → ℕ → StampRow → ℕ → Stamp → List ℕ → Type 0
Edited rows table n c r = Put (Holds rows table) c (updated_stamp r.stamp) (Updated (Holds rows table c r.stamp) n)

pub edited_sound : (rows : List StampRow) (table : List Known) (n c : ℕ) (r : StampRow) → IsRowOf rows c r → IsRaised r.stamp.id r.stamp.event (updated_stamp r.stamp).event → AreBelow n table → StandsFor rows table
    → Sound (Edited rows table n c r)
edited_sound rows table n c r at raised below st =
    edit_keeps (Holds rows table) c n r.stamp (updated_stamp r.stamp) (set_in table c) (to_sound rows table st) (holds_at rows table c r st at) refl raised (unknown_yet rows table n below)

pub edited_outcome : (rows : List StampRow) (table : List Known) (n c : ℕ) (r z : StampRow) (t : Known) → IsRising 0 rows → IsRowOf rows c r → In z rows → In t table → Alike z t
    → Outcome (Edited rows table n c r) (made n (Edit c) rows z) (made_known n (Edit c) table t)
edited_outcome rows table n c r z t up at i j like =
    one_outcome (Edited rows table n c r) c (restamped (updated_stamp z.stamp) n z) z (knowing (n ∷ t.set) n t) t like
    (λ same. grind (arith, nat_tests, one_row))
    (λ ne. inr (held rows table z t i j like.copy, ne))

pub touched_outcome : (rows : List StampRow) (table : List Known) (n c : ℕ) (z : StampRow) (t : Known) → In z rows → In t table → Alike z t → Outcome (Holds rows table) (made n (Touch c) rows z) (made_known n (Touch c) table t)
touched_outcome rows table n c z t i j like =
    one_outcome (Holds rows table) c (restamped z.stamp n z) z (knowing t.set n t) t like (λ same. grind (arith, nat_tests)) (λ ne. held rows table z t i j like.copy)

abbrev pub Duplicated : List StampRow → List Known → ℕ → ℕ → StampRow → ℕ → Stamp → List ℕ → Type 0
Duplicated rows table n c r = Put (Put (Holds rows table) c (first_part r.stamp) (Holds rows table c r.stamp)) n (second_part r.stamp) (Holds rows table c r.stamp)

pub duplicated_sound : (rows : List StampRow) (table : List Known) (n c : ℕ) (r : StampRow) → IsRowOf rows c r → IsParted r.stamp.id (parts r.stamp.id).0 (parts r.stamp.id).1 → StandsFor rows table → Sound (Duplicated rows table n c r)
duplicated_sound rows table n c r at parted st = grind (arith, nat_tests)

pub duplicated_outcome : (rows : List StampRow) (table : List Known) (n c : ℕ) (r z : StampRow) (t : Known) → IsRising 0 rows → IsRowOf rows c r → z.copy < n → In z rows → In t table → Alike z t
    → Outcome (Duplicated rows table n c r) (made n (Duplicate c) rows z) (made_known n (Duplicate c) table t)
duplicated_outcome rows table n c r z t up at less i j like =
    let new : z.copy ≢ n = λ e. omega (arith, less, e) in
    let x : StampRow = restamped (first_part z.stamp) z.touch z in
    elim (cases_Bool (z.copy == c)) [
      | inl e ↦ let same : z.copy ≡ c = eqb-true z.copy c e in
          some x t (ap (λ (b : Bool). Some (cond b x z)) e) refl record { copy = like.copy; touch = like.touch; holder = like.holder }
          (grind (arith, nat_tests, one_row))
      | inr ne ↦ some z t (ap (λ (b : Bool). Some (cond b x z)) ne) refl like (grind (arith, nat_tests))
    ]

pub duplicate_holds : (rows : List StampRow) (table : List Known) (n c : ℕ) (r : StampRow) → IsRowOf rows c r → StandsFor rows table → Duplicated rows table n c r n (second_part r.stamp) (set_in table c)
duplicate_holds rows table n c r at st = inl (refl, refl, holds_at rows table c r st at)

-- Reports that take rows out.

pub lost_outcome : (rows : List StampRow) (table : List Known) (n c : ℕ) (z : StampRow) (t : Known) → In z rows → In t table → Alike z t → Outcome (Holds rows table) (lost c z) (made_known n (Remove c None) table t)
lost_outcome rows table n c z t i j like =
    stay_outcome (Holds rows table) (z.copy == c || is_held c z.holder) (t.copy == c || is_held c t.holder) z t
    (grind (arith, nat_tests)) like (λ stays. held rows table z t i j like.copy)
