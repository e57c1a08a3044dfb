-- The copies that are kept on one device.
use Rattle.std.proofs.Common.{◌≡◌, ◌≢◌, ℕ, zero, suc, ◌+◌, ◌≤◌, ◌<◌, Bool, true, false, cond, ◌&&◌, nat_eq, nat_le, ◌==◌, List, [], ◌∷◌, ◌++◌, length, length-drop, take, ◌-◌, IfSome, slice_get, Option, Some, None, option_and_then, option_map, filter_map, refl, sym, ap, ◌∙◌, subst, arith, ◌↔◌, eqb-true, map, drop, not}
use Rattle.std.specs.Cmp.{nat_eq_equiv}
use Rattle.std.specs.List.{AllByRecursion, IsDistinct, list_any, position_or_len}
use Rattle.std.proofs.lemmas.List.{drop-drop, drop-map, drop_all, length-map, take_all}
use Rattle.std.proofs.lemmas.List.Sums.{position_or_len_is}
use Rattle.memchr.specs.Find.{IsFirstByte, is_byte}
use Rattle.std.specs.Map.{keys_of, lookup}
use Rattle.std.specs.Option.{option_to_list}
use Rattle.std.specs.Str.{bytes_eq}
use Rattle.std.proofs.lemmas.Bool.{and_parts, and_from, eqb-false, false_from_ne_true, le-leb, leb-true}
use Rattle.std.proofs.lemmas.Map.Keys.{IsDistinct-head, IsDistinct-tail}
use Rattle.std.proofs.lemmas.Slice.Eq.{bytes_eq-Decides}
use Rattle.pana_copies.specs.declared.place.Place.{Place}
use Rattle.pana_copies.specs.Spots.{Spot}
use Rattle.pana_copies.specs.inner.Marks.{AreMarks, mark_of}
use Rattle.pana_copies.specs.inner.Sides.{spots_of, IsEven, IsNextOn, number_on, numbers_behind}
use Rattle.pana_copies.proofs.Kept.{entry_at, spot_from}
use Rattle.pana_copies.proofs.Sides.{spotted, slice_get-spots}

-- behind the last place stands no copy
pub none_behind : (es : List (ℕ × ℕ)) (ps : List Place) (i : ℕ) → slice_get ps i ≡ None → slice_get (spots_of es ps) i ≡ None
none_behind [] ps i none = refl
none_behind (e ∷ es) [] i none = refl
none_behind (e ∷ es) (p ∷ ps) zero none = absurd (cc)
none_behind (e ∷ es) (p ∷ ps) (suc i) none = none_behind es ps i none

-- the copy beside a place
pub beside : (es : List (ℕ × ℕ)) (ps : List Place) → IsEven es ps → (i : ℕ) (p : Place) → slice_get ps i ≡ Some p
    → (e : ℕ × ℕ) × (slice_get es i ≡ Some e) × (slice_get (spots_of es ps) i ≡ Some (spotted e p))
beside es ps even i p at = let e = entry_at es ps even.long i p at in (e.0, e.1, slice_get-spots es ps i e.0 p e.1 at)

-- the marks are those of the spots
marks_of_spots : (es : List (ℕ × ℕ)) (ps : List Place) → length ps ≡ length es → map (λ x. mark_of x.1.place.device) (spots_of es ps) ≡ map (λ place. mark_of place.device) ps
marks_of_spots [] [] even = refl
marks_of_spots [] (p ∷ ps) even = absurd (omega arith)
marks_of_spots (e ∷ es) [] even = refl
marks_of_spots (e ∷ es) (p ∷ ps) even = ap (λ l. mark_of p.device ∷ l) (marks_of_spots es ps (omega arith))

-- the marks that a table shows are those of its spots
pub marks_are : (es : List (ℕ × ℕ)) (ps : List Place) (marks shown : List ℕ) (spots : List (ℕ × Spot)) → IsEven es ps → AreMarks marks ps → spots ≡ spots_of es ps → shown ≡ marks
    → map (λ x. mark_of x.1.place.device) spots ≡ shown
marks_are es ps marks shown spots even are is shows = ap (map (λ x. mark_of x.1.place.device)) is ∙ marks_of_spots es ps even.long ∙ sym are ∙ sym shows

-- a copy with another mark isn't on the device
pub other_device : (device : List ℕ) (from : ℕ) (e : ℕ × ℕ) (p : Place) → mark_of p.device ≢ mark_of device → number_on device from (spotted e p) ≡ None
other_device device from e p other =
    let apart : bytes_eq p.device device ≡ false = false_from_ne_true (bytes_eq p.device device) (λ same. other (ap mark_of ((bytes_eq-Decides p.device device).0 same))) in
    rw (apart) refl

-- what a search for a byte finds
byte_found : (byte : ℕ) (bytes : List ℕ) (at : ℕ) → IsFirstByte (is_byte byte) bytes (Some at) → (at ≡ position_or_len (λ other. other == byte) bytes) × (at < length bytes)
byte_found byte bytes at first =
    (sym (position_or_len_is (λ (other : ℕ). other == byte) bytes at 0 (omega (arith, first.0.high)) (λ k below. false_from_ne_true _ (first.0.before k (omega arith) below)) (λ below. first.1)), first.0.high)

pub byte_missing : (byte : ℕ) (bytes : List ℕ) → IsFirstByte (is_byte byte) bytes None → position_or_len (λ other. other == byte) bytes ≡ length bytes
byte_missing byte bytes nowhere =
    position_or_len_is (λ (other : ℕ). other == byte) bytes (length bytes) 0 (omega arith) (λ k below. false_from_ne_true _ (nowhere k (omega arith) below)) (λ below. absurd (omega arith))

pub byte_places : (byte : ℕ) (bytes : List ℕ) (found : Option ℕ) → IsFirstByte (is_byte byte) bytes found → IfSome found (λ at. (at ≡ position_or_len (λ other. other == byte) bytes) × (at < length bytes))
byte_places byte bytes None nowhere = tt
byte_places byte bytes (Some at) first = byte_found byte bytes at first

module _ (device : List ℕ) (from : ℕ) where
  -- the index of the first spot with the device's mark, or how many there are
  abbrev first_mark : List (ℕ × Spot) → ℕ
  first_mark spots = position_or_len (λ mark. mark == mark_of device) (map (λ x. mark_of x.1.place.device) spots)

  unmarked : (x : ℕ × Spot) → (mark_of x.1.place.device == mark_of device) ≡ false → number_on device from x ≡ None
  unmarked x e = other_device device from (x.0, x.1.family) x.1.place (eqb-false (mark_of x.1.place.device) (mark_of device) e)

  -- before the first mark stands no copy on the device
  skipped : (spots : List (ℕ × Spot)) → filter_map (number_on device from) spots ≡ filter_map (number_on device from) (drop (first_mark spots) spots)
  skipped [] = refl
  skipped (x ∷ spots) =
      elim (mark_of x.1.place.device == mark_of device) as (λ b. (mark_of x.1.place.device == mark_of device) ≡ b → filter_map (number_on device from) (x ∷ spots) ≡ filter_map (number_on device from) (drop (cond (not b) (1 + first_mark spots) 0) (x ∷ spots))) [
        | true ↦ λ e. refl
        | false ↦ λ e.
            let more : suc (first_mark spots) ≡ 1 + first_mark spots = omega arith in
            let here : filter_map (number_on device from) (x ∷ spots) ≡ filter_map (number_on device from) (drop (first_mark spots) spots) = grind (arith, unmarked x e, skipped spots) in
            here ∙ ap (λ n. filter_map (number_on device from) (drop n (x ∷ spots))) more
      ] refl

  behind_first : (spots : List (ℕ × Spot)) (n : ℕ) → filter_map (number_on device from) (drop n spots) ≡ option_to_list (option_and_then (number_on device from) (slice_get spots n)) ++ filter_map (number_on device from) (drop (suc n) spots)
  behind_first [] zero = refl
  behind_first [] (suc n) = refl
  behind_first (x ∷ spots) zero = grind (arith)
  behind_first (x ∷ spots) (suc n) = behind_first spots n

  pub next_on : (spots : List (ℕ × Spot)) (at : ℕ) → IsNextOn device from spots at (at + first_mark (drop at spots))
  next_on spots at =
      let k = first_mark (drop at spots) in
      let more : suc (at + k) ≡ at + k + 1 = omega arith in
      skipped (drop at spots) ∙ ap (filter_map (number_on device from)) (drop-drop k at spots) ∙ behind_first spots (at + k)
      ∙ ap (λ n. option_to_list (option_and_then (number_on device from) (slice_get spots (at + k))) ++ filter_map (number_on device from) (drop n spots)) more

  pub none_on : (spots : List (ℕ × Spot)) (at : ℕ) → length (drop at spots) ≤ first_mark (drop at spots) → numbers_behind device from spots at ≡ []
  none_on spots at past = skipped (drop at spots) ∙ ap (filter_map (number_on device from)) (drop_all (first_mark (drop at spots)) (drop at spots) past)

  -- whether the copy at a spot, if there is one, is on the device with a number from this one on
  abbrev pub is_on : ℕ → Option Spot → Bool
  is_on copy None = false
  is_on copy (Some spot) = bytes_eq spot.place.device device && nat_le from copy

  none_of : (copy : ℕ) (spots : List (ℕ × Spot)) → AllByRecursion (λ n. nat_eq copy n ≡ false) (keys_of spots) → list_any (λ n. n == copy) (filter_map (number_on device from) spots) ≡ false
  none_of copy [] all = refl
  none_of copy (x ∷ spots) all = grind (arith, none_of copy spots all.1, nat_eq_equiv.symm copy x.0)

  -- one of the numbers that are chosen is that of a copy which is on the device
  chosen : (copy : ℕ) (spots : List (ℕ × Spot)) → IsDistinct nat_eq (keys_of spots) → list_any (λ n. n == copy) (filter_map (number_on device from) spots) ≡ is_on copy (lookup (nat_eq copy) spots)
  chosen copy [] apart = refl
  chosen copy (x ∷ spots) apart =
      let rest = chosen copy spots (IsDistinct-tail nat_eq x.0 (keys_of spots) apart) in
      let others = IsDistinct-head nat_eq x.0 (keys_of spots) apart in
      let turned : (x.0 == copy) ≡ nat_eq copy x.0 = nat_eq_equiv.symm x.0 copy in
      elim (nat_eq copy x.0) as (λ b. nat_eq copy x.0 ≡ b → list_any (λ n. n == copy) (filter_map (number_on device from) (x ∷ spots)) ≡ is_on copy (lookup (nat_eq copy) (x ∷ spots))) [
        | true ↦ λ e.
            let same : copy ≡ x.0 = eqb-true copy x.0 e in
            let none = none_of copy spots (subst (λ m. AllByRecursion (λ n. nat_eq m n ≡ false) (keys_of spots)) (sym same) others) in
            grind (arith, none, e, turned, same)
        | false ↦ λ e. grind (arith, rest, e, turned)
      ] refl

  among : (P : ℕ → Type 0) (spots : List (ℕ × Spot)) → AllByRecursion P (keys_of spots) → AllByRecursion P (filter_map (number_on device from) spots)
  among P [] all = tt
  among P (x ∷ spots) all =
      elim (bytes_eq x.1.place.device device && nat_le from x.0) as (λ b. AllByRecursion P (filter_map (number_on device from) (x ∷ spots))) [
        | true ↦ grind (arith, all, among P spots all.1)
        | false ↦ grind (arith, all, among P spots all.1)
      ]

  -- no number is chosen twice
  pub once : (spots : List (ℕ × Spot)) → IsDistinct nat_eq (keys_of spots) → IsDistinct nat_eq (filter_map (number_on device from) spots)
  unfolding IsDistinct
  once [] apart = tt
  once (x ∷ spots) apart = grind (arith, apart, among (λ n. nat_eq x.0 n ≡ false) spots apart.0, once spots apart.1)

-- the spots from an index on, by their marks
module _ (spots : List (ℕ × Spot)) (marks : List ℕ) (are : map (λ x. mark_of x.1.place.device) spots ≡ marks) (at mark : ℕ) where
  abbrev left : List ℕ
  left = take (length marks - at) (drop at marks)

  left_marks : left ≡ map (λ x. mark_of x.1.place.device) (drop at spots)
  left_marks = take_all (length marks - at) (drop at marks) (omega (arith, length-drop at marks)) ∙ ap (drop at) (sym are) ∙ drop-map (λ (x : ℕ × Spot). mark_of x.1.place.device) at spots

  first_left : (device : List ℕ) → mark ≡ mark_of device
      → position_or_len (λ other. other == mark) left ≡ position_or_len (λ other. other == mark_of device) (map (λ x. mark_of x.1.place.device) (drop at spots))
  first_left device is = ap (position_or_len (λ other. other == mark)) left_marks ∙ ap (λ m. position_or_len (λ other. other == m) (map (λ x. mark_of x.1.place.device) (drop at spots))) is

  many : length spots ≡ length marks
  many = sym (length-map spots (λ x. mark_of x.1.place.device)) ∙ ap length are

  pub none_marked : position_or_len (λ other. other == mark) left ≡ length left → (device : List ℕ) (from : ℕ) → mark ≡ mark_of device → numbers_behind device from spots at ≡ []
  none_marked none device from is =
      none_on device from spots at (omega (arith, none, first_left device is, ap length left_marks, length-map (drop at spots) (λ x. mark_of x.1.place.device)))

  pub some_marked : (k : ℕ) → k ≡ position_or_len (λ other. other == mark) left → (device : List ℕ) (from : ℕ) → mark ≡ mark_of device → IsNextOn device from spots at (at + k)
  some_marked k first device from is = subst (λ n. IsNextOn device from spots at (at + n)) (sym (first ∙ first_left device is)) (next_on device from spots at)

  pub past_marked : length marks < at → (device : List ℕ) (from : ℕ) → numbers_behind device from spots at ≡ []
  past_marked past device from = ap (filter_map (number_on device from)) (drop_all at spots (omega (arith, past, many)))

  pub within_marked : (k : ℕ) → k < length left → (at ≤ at + k) × (at + k < length spots)
  within_marked k within =
      let less : length left ≤ length marks - at = omega (arith, length-drop at marks, ap length (take_all (length marks - at) (drop at marks) (omega (arith, length-drop at marks)))) in
      (omega arith, omega (arith, less, within, many))

-- the place of the copy, where it is kept on the device with a number from this one on
spot_on : (device : List ℕ) (from copy : ℕ) (found : Option Spot) → is_on device from copy found ≡ true
    → (place : Place) × (option_map (λ s. s.place) found ≡ Some place) × (place.device ≡ device) × (from ≤ copy)
spot_on device from copy None on = absurd (cc)
spot_on device from copy (Some spot) on =
    let both = and_parts (bytes_eq spot.place.device device) (nat_le from copy) on in
    (spot.place, refl, (bytes_eq-Decides spot.place.device device).0 both.0, leb-true from copy both.1)

on_spot : (device : List ℕ) (from copy : ℕ) (found : Option Spot) (place : Place) → option_map (λ s. s.place) found ≡ Some place → place.device ≡ device → from ≤ copy
    → is_on device from copy found ≡ true
on_spot device from copy found place at on least =
    let spot = spot_from found place at in
    let here : spot.0.place.device ≡ device = ap (λ p. p.device) spot.2 ∙ on in
    ap (is_on device from copy) spot.1 ∙ and_from _ _ ((bytes_eq-Decides spot.0.place.device device).1 here) (le-leb from copy least)

-- the numbers that are chosen are those of the copies that are kept on the device
pub found_on : (spots : List (ℕ × Spot)) → IsDistinct nat_eq (keys_of spots) → (device : List ℕ) (from : ℕ) (copy : ℕ)
    → (list_any (λ n. n == copy) (filter_map (number_on device from) spots) ≡ true)
    ↔ ((place : Place) × (option_map (λ s. s.place) (lookup (nat_eq copy) spots) ≡ Some place) × (place.device ≡ device) × (from ≤ copy))
found_on spots apart device from copy =
    let is = chosen device from copy spots apart in (
      λ any. spot_on device from copy (lookup (nat_eq copy) spots) (sym is ∙ any),
      λ on. is ∙ on_spot device from copy (lookup (nat_eq copy) spots) on.0 on.1 on.2 on.3,
    )
