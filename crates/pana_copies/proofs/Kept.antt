-- What the two sides of a table say of the copies that are kept.
use Rattle.std.proofs.Common.{◌≡◌, ℕ, zero, suc, ◌<◌, ◌-◌, Bool, true, false, cond, ◌||◌, nat_eq, ◌==◌, List, [], ◌∷◌, ◌++◌, length, get_or, set, slice_get, position, Option, Some, None, option_map, is_some, IfSome, refl, sym, ap, ap₂, ◌∙◌, subst, arith, eqb-true}
use Rattle.std.specs.Bool.{Decides}
use Rattle.std.specs.Cmp.{nat_eq_equiv}
use Rattle.std.specs.List.{AllByRecursion, IsDistinct, list_any, find, swap_remove}
use Rattle.std.specs.Map.{keys_of, lookup, lookup_key}
use Rattle.std.specs.Str.{bytes_eq}
use Rattle.std.proofs.lemmas.Bool.{and_parts, and_from, both_ways, false_from_ne_true}
use Rattle.std.proofs.lemmas.List.{length_push, length-take, length-set}
use Rattle.std.proofs.lemmas.List.Edits.{insert_end}
use Rattle.std.proofs.lemmas.Map.{lookup-insert, none_passes_from_lookup}
use Rattle.std.proofs.lemmas.Map.Entries.{place_from_lookup, lookup_from_place}
use Rattle.std.proofs.lemmas.Map.Keys.{IsDistinct-head, IsDistinct-tail, any_passes_from_place}
use Rattle.std.proofs.lemmas.Map.Made.{is_some-lookup, lookup_key_passes, IfSome-find_same}
use Rattle.std.proofs.lemmas.Option.{slice_get-map}
use Rattle.std.proofs.lemmas.Slice.Eq.{bytes_eq-Decides}
use Rattle.indexmap.specs.IndexMap.{insert_entry}
use Rattle.indexmap.specs.IndexSet.{insert_key}
use Rattle.indexmap.proofs.MapLemmas.{insert_entry-absent, absent_from_lookup, Found-position}
use Rattle.indexmap.proofs.RemoveLemmas.{swap_out}
use Rattle.pana_copies.specs.declared.place.Place.{Place}
use Rattle.pana_copies.specs.Places.{same_place}
use Rattle.pana_copies.specs.Spots.{Spot}
use Rattle.pana_copies.specs.inner.Sides.{spots_of, IsEven}
use Rattle.pana_copies.proofs.Sides.{spotted, keys_of-spots, spots_of-push, slice_get-spots, sides-slice_get, spots_of-swap_remove}

-- a place is itself, and no other
same_as_itself : (p : Place) → same_place p p ≡ true
same_as_itself p = and_from _ _ ((bytes_eq-Decides p.device p.device).1 refl) ((bytes_eq-Decides p.path p.path).1 refl)

pub one_place : (p q : Place) → same_place p q ≡ true → p ≡ q
one_place p q test =
    let both = and_parts (bytes_eq p.device q.device) (bytes_eq p.path q.path) test in
    let device : p.device ≡ q.device = (bytes_eq-Decides p.device q.device).0 both.0 in
    let path : p.path ≡ q.path = (bytes_eq-Decides p.path q.path).0 both.1 in
    λ j. record { device = device j; path = path j }

pub same_place-Decides : (p q : Place) → Decides (same_place p q) (p ≡ q)
same_place-Decides p q = (one_place p q, λ same. subst (λ x. same_place p x ≡ true) same (same_as_itself p))

-- the place that a search for a place finds is that one
pub found_place : (ps : List Place) (place found : Place) → Some found ≡ find (same_place place) ps → found ≡ place
found_place ps place found h = subst (λ o. IfSome o (λ p. p ≡ place)) (sym h) (IfSome-find_same same_place-Decides place ps)

each_at : {X : Type 0} (P : X → Type 0) (xs : List X) (i : ℕ) (x : X) → AllByRecursion P xs → slice_get xs i ≡ Some x → P x
each_at P [] i x all at = absurd (cc)
each_at P (y ∷ xs) zero x all at = let same : y ≡ x = cc in subst P same all.0
each_at P (y ∷ xs) (suc i) x all at = each_at P xs i x all.1 at

not_later : (q : Place) (ps : List Place) (j : ℕ) (p : Place) → IsDistinct same_place (q ∷ ps) → slice_get (q ∷ ps) 0 ≡ Some p → slice_get ps j ≡ Some p → ⊥
not_later q ps j p apart first later =
    let same : q ≡ p = cc in
    let other : same_place q p ≡ false = each_at (λ y. same_place q y ≡ false) ps j p (IsDistinct-head same_place q ps apart) later in
    both_ways (same_place q p) other (subst (λ x. same_place q x ≡ true) same (same_as_itself q))

-- no place stands twice, so it stands at one index
one_index : (ps : List Place) (i j : ℕ) (p : Place) → IsDistinct same_place ps → slice_get ps i ≡ Some p → slice_get ps j ≡ Some p → i ≡ j
one_index [] i j p apart first second = absurd (cc)
one_index (q ∷ ps) zero zero p apart first second = refl
one_index (q ∷ ps) zero (suc j) p apart first second = absurd (not_later q ps j p apart first second)
one_index (q ∷ ps) (suc i) zero p apart first second = absurd (not_later q ps i p apart second first)
one_index (q ∷ ps) (suc i) (suc j) p apart first second = ap suc (one_index ps i j p (IsDistinct-tail same_place q ps apart) first second)

-- where a test passes, it passes at an index
pub place_from_any : {X : Type 0} (test : X → Bool) (xs : List X) → list_any test xs ≡ true → (i : ℕ) × (x : X) × (slice_get xs i ≡ Some x) × (test x ≡ true)
place_from_any test [] any = absurd (cc)
place_from_any test (x ∷ xs) any =
    elim (test x) as (λ b. test x ≡ b → (b || list_any test xs) ≡ true → (i : ℕ) × (y : _) × (slice_get (x ∷ xs) i ≡ Some y) × (test y ≡ true)) [
      | true ↦ λ e h. (0, x, refl, e)
      | false ↦ λ e h. let later = place_from_any test xs h in (suc later.0, later.1, later.2, later.3)
    ] refl any

-- beside each place stands a copy
pub entry_at : (es : List (ℕ × ℕ)) (ps : List Place) → length ps ≡ length es → (i : ℕ) (p : Place) → slice_get ps i ≡ Some p → (e : ℕ × ℕ) × (slice_get es i ≡ Some e)
entry_at [] [] even i p at = absurd (cc)
entry_at [] (q ∷ ps) even i p at = absurd (omega arith)
entry_at (e ∷ es) [] even i p at = absurd (omega arith)
entry_at (e ∷ es) (q ∷ ps) even zero p at = (e, refl)
entry_at (e ∷ es) (q ∷ ps) even (suc i) p at = entry_at es ps (omega arith) i p at

-- what is kept at a place
pub spot_from : (found : Option Spot) (place : Place) → option_map (λ s. s.place) found ≡ Some place → (spot : Spot) × (found ≡ Some spot) × (spot.place ≡ place)
spot_from None place h = absurd (cc)
spot_from (Some spot) place h = (spot, refl, cc)

is_none : {X : Type 0} (found : Option X) → is_some found ≡ false → found ≡ None
is_none None h = refl
is_none (Some x) h = absurd (cc)

module _ (es : List (ℕ × ℕ)) (ps : List Place) (even : IsEven es ps) where
  -- no copy stands twice among the spots
  pub apart_numbers : IsDistinct nat_eq (keys_of (spots_of es ps))
  apart_numbers = subst (IsDistinct nat_eq) (sym (keys_of-spots es ps even.long)) even.copies_apart

  -- the same copies are found on the one side and among the spots
  pub some-spots : (test : ℕ → Bool) → is_some (lookup test (spots_of es ps)) ≡ is_some (lookup test es)
  some-spots test = is_some-lookup test (spots_of es ps) ∙ ap (list_any test) (keys_of-spots es ps even.long) ∙ sym (is_some-lookup test es)

  -- so is none
  pub none-spots : (test : ℕ → Bool) → lookup test es ≡ None → lookup test (spots_of es ps) ≡ None
  none-spots test none = is_none (lookup test (spots_of es ps)) (some-spots test ∙ ap is_some none)

  -- the copy at an index is kept, with its family and its place
  pub kept_at : (i : ℕ) (e : ℕ × ℕ) (p : Place) → slice_get es i ≡ Some e → slice_get ps i ≡ Some p
      → lookup (nat_eq e.0) (spots_of es ps) ≡ Some (record { family = e.1; place = p })
  kept_at i e p first second = lookup_from_place nat_eq_equiv (spots_of es ps) i e.0 _ apart_numbers (slice_get-spots es ps i e p first second)

  -- the same of a copy that a search found there
  pub kept_found : (copy i : ℕ) (e : ℕ × ℕ) (p : Place) → lookup_key (nat_eq copy) es ≡ Some e.0 → slice_get es i ≡ Some e → slice_get ps i ≡ Some p
      → lookup (nat_eq copy) (spots_of es ps) ≡ Some (record { family = e.1; place = p })
  kept_found copy i e p key first second =
      let is : copy ≡ e.0 = eqb-true copy e.0 (lookup_key_passes (nat_eq copy) es e.0 key) in
      subst (λ n. lookup (nat_eq n) (spots_of es ps) ≡ Some (record { family = e.1; place = p })) (sym is) (kept_at i e p first second)

  -- a copy that is kept stands at an index
  pub record Stands (copy : ℕ) (spot : Spot) : Type 0 where
    pub index : ℕ
    pub first : slice_get es index ≡ Some (copy, spot.family)
    pub second : slice_get ps index ≡ Some spot.place

  pub stands : (copy : ℕ) (spot : Spot) → lookup (nat_eq copy) (spots_of es ps) ≡ Some spot → Stands copy spot
  stands copy spot found =
      let at = place_from_lookup (nat_eq copy) (spots_of es ps) spot found in
      let is : copy ≡ at.1 = eqb-true copy at.1 at.3 in
      let sides = sides-slice_get es ps at.0 (at.1, spot) at.2 in
      record { index = at.0; first = sides.0 ∙ ap (λ n. Some (n, spot.family)) (sym is); second = sides.1 }

  -- no copy is kept at a place that isn't there
  pub free_place : (place : Place) → list_any (same_place place) ps ≡ false → (copy : ℕ) → option_map (λ s. s.place) (lookup (nat_eq copy) (spots_of es ps)) ≡ Some place → ⊥
  free_place place none copy h =
      let x = spot_from (lookup (nat_eq copy) (spots_of es ps)) place h in
      let s = stands copy x.0 x.1 in
      both_ways (list_any (same_place place) ps) none
      (any_passes_from_place (same_place place) ps s.index place (s.second ∙ ap Some x.2) (same_as_itself place))

  -- and a place that no copy is kept at isn't there
  pub absent_place : (place : Place) → ((copy : ℕ) → ¬ (option_map (λ s. s.place) (lookup (nat_eq copy) (spots_of es ps)) ≡ Some place)) → list_any (same_place place) ps ≡ false
  absent_place place free =
      false_from_ne_true (list_any (same_place place) ps) (λ any.
      let x = place_from_any (same_place place) ps any in
      let same : place ≡ x.1 = one_place place x.1 x.3 in
      let e = entry_at es ps even.long x.0 x.1 x.2 in
      free e.0.0 (ap (option_map (λ s. s.place)) (kept_at x.0 e.0 x.1 e.1 x.2) ∙ ap Some (sym same)))

  -- the copy beside a place is the one that is kept there
  pub copy_at : (i : ℕ) (e : ℕ × ℕ) (place : Place) → slice_get es i ≡ Some e → slice_get ps i ≡ Some place → (copy : ℕ)
      → (Some e.0 ≡ Some copy → option_map (λ s. s.place) (lookup (nat_eq copy) (spots_of es ps)) ≡ Some place)
      × (option_map (λ s. s.place) (lookup (nat_eq copy) (spots_of es ps)) ≡ Some place → Some e.0 ≡ Some copy)
  copy_at i e place first second copy = (is_kept, is_this)
    where
      is_kept : Some e.0 ≡ Some copy → option_map (λ s. s.place) (lookup (nat_eq copy) (spots_of es ps)) ≡ Some place
      is_kept h =
          let same : e.0 ≡ copy = cc in
          subst (λ n. option_map (λ s. s.place) (lookup (nat_eq n) (spots_of es ps)) ≡ Some place) same (ap (option_map (λ s. s.place)) (kept_at i e place first second))

      is_this : option_map (λ s. s.place) (lookup (nat_eq copy) (spots_of es ps)) ≡ Some place → Some e.0 ≡ Some copy
      is_this h =
          let x = spot_from (lookup (nat_eq copy) (spots_of es ps)) place h in
          let s = stands copy x.0 x.1 in
          let index : s.index ≡ i = one_index ps s.index i place even.places_apart (s.second ∙ ap Some x.2) second in
          ap (option_map (λ d. d.0)) (sym first ∙ ap (slice_get es) (sym index) ∙ s.first)

  -- one more copy at the end
  pub kept-push : (copy family : ℕ) (place : Place) → lookup (nat_eq copy) (spots_of es ps) ≡ None → (number : ℕ)
      → lookup (nat_eq number) (spots_of (es ++ (copy, family) ∷ []) (ps ++ place ∷ []))
      ≡ cond (number == copy) (Some (record { family = family; place = place })) (lookup (nat_eq number) (spots_of es ps))
  kept-push copy family place none number =
      let more = spotted (copy, family) place in
      ap (lookup (nat_eq number)) (spots_of-push es ps (copy, family) place even.long ∙ sym (insert_end (spots_of es ps) more))
      ∙ lookup-insert nat_eq_equiv copy more.1 number (spots_of es ps) (length (spots_of es ps)) (none_passes_from_lookup (nat_eq copy) (spots_of es ps) none)
      ∙ ap (λ b. cond b (Some more.1) (lookup (nat_eq number) (spots_of es ps))) (nat_eq_equiv.symm copy number)

  -- one copy taken out on both sides, where the last takes its index
  pub kept-swap_remove : (i copy : ℕ) (e : ℕ × ℕ) (place : Place) → position (nat_eq copy) (keys_of es) ≡ Some i → slice_get es i ≡ Some e → slice_get ps i ≡ Some place → (number : ℕ)
      → lookup (nat_eq number) (spots_of (swap_remove es i e) (swap_remove ps i place)) ≡ cond (number == copy) None (lookup (nat_eq number) (spots_of es ps))
  kept-swap_remove i copy e place index first second number =
      let at : position (nat_eq copy) (keys_of (spots_of es ps)) ≡ Some i = ap (position (nat_eq copy)) (keys_of-spots es ps even.long) ∙ index in
      let out = swap_out nat_eq nat_eq_equiv (nat_eq copy) (nat_eq_equiv.congr copy) (spots_of es ps) i (spotted e place) at (slice_get-spots es ps i e place first second) apart_numbers _ (spots_of-swap_remove es ps i e place even.long) in
      out.updated.0 number ∙ ap (λ b. cond b None (lookup (nat_eq number) (spots_of es ps))) (nat_eq_equiv.symm copy number)

-- both sides once one more copy was inserted
pub record Pushed (es : List (ℕ × ℕ)) (ps : List Place) (copy family : ℕ) (place : Place) (fs : List (ℕ × ℕ)) (qs : List Place) : Type 0 where
  pub even : IsEven fs qs
  pub places : qs ≡ ps ++ place ∷ []
  pub spots : (number : ℕ) → lookup (nat_eq number) (spots_of fs qs) ≡ cond (number == copy) (Some (record { family = family; place = place })) (lookup (nat_eq number) (spots_of es ps))

pub pushed : (es : List (ℕ × ℕ)) (ps : List Place) → IsEven es ps → (copy family : ℕ) (place : Place) → lookup (nat_eq copy) (spots_of es ps) ≡ None
    → ((number : ℕ) → ¬ (option_map (λ s. s.place) (lookup (nat_eq number) (spots_of es ps)) ≡ Some place))
    → (fs : List (ℕ × ℕ)) (qs : List Place) → fs ≡ insert_entry nat_eq es copy family → qs ≡ insert_key same_place ps place
    → IsDistinct nat_eq (keys_of fs) → IsDistinct same_place qs → Pushed es ps copy family place fs qs
pushed es ps even copy family place new free fs qs first second copies_apart places_apart =
    let absent : lookup (nat_eq copy) es ≡ None = is_none _ (sym (some-spots es ps even (nat_eq copy)) ∙ ap is_some new) in
    let one : fs ≡ es ++ (copy, family) ∷ [] = first ∙ insert_entry-absent nat_eq copy family es (absent_from_lookup (nat_eq copy) es absent) in
    let two : qs ≡ ps ++ place ∷ [] = second ∙ ap (λ b. cond b ps (ps ++ place ∷ [])) (absent_place es ps even place free) in
    record {
      even = record { long = omega (arith, ap length one, ap length two, length_push es (copy, family), length_push ps place, even.long); copies_apart = copies_apart; places_apart = places_apart };
      places = two;
      spots = λ number. ap₂ (λ l m. lookup (nat_eq number) (spots_of l m)) one two ∙ kept-push es ps even copy family place new number;
    }

-- an index within a list has an element
pub some_within : {X : Type 0} (xs : List X) (i : ℕ) → i < length xs → is_some (slice_get xs i) ≡ true
some_within [] i within = absurd (omega arith)
some_within (x ∷ xs) zero within = refl
some_within (x ∷ xs) (suc i) within = some_within xs i (omega arith)

pub index_within : {n i : ℕ} {found : Option ℕ} → found ≡ Some i → IfSome found (λ k. k < n) → i < n
index_within {n} same within = subst (λ r. IfSome r (λ k. k < n)) same within

length-swap_remove : {X : Type 0} (xs : List X) (i : ℕ) (x : X) → length (swap_remove xs i x) ≡ length xs - 1
length-swap_remove xs i x =
    let changed = set xs i (get_or xs (length xs - 1) x) in
    omega (arith, length-take (length xs - 1) changed, length-set xs i (get_or xs (length xs - 1) x))

-- both sides once a copy was taken out
pub record Taken (es : List (ℕ × ℕ)) (ps : List Place) (copy : ℕ) (place : Place) (fs : List (ℕ × ℕ)) (qs : List Place) : Type 0 where
  pub even : IsEven fs qs
  pub spots : (number : ℕ) → lookup (nat_eq number) (spots_of fs qs) ≡ cond (number == copy) None (lookup (nat_eq number) (spots_of es ps))
  pub old : Some place ≡ option_map (λ s. s.place) (lookup (nat_eq copy) (spots_of es ps))

pub taken : (es : List (ℕ × ℕ)) (ps : List Place) → IsEven es ps → (copy i : ℕ) (e : ℕ × ℕ) (place : Place)
    → position (nat_eq copy) (keys_of es) ≡ Some i → slice_get es i ≡ Some e → slice_get ps i ≡ Some place
    → (fs : List (ℕ × ℕ)) (qs : List Place) → fs ≡ swap_remove es i e → qs ≡ swap_remove ps i place
    → IsDistinct nat_eq (keys_of fs) → IsDistinct same_place qs → Taken es ps copy place fs qs
taken es ps even copy i e place index first second fs qs one two copies_apart places_apart =
    record {
      even = record {
        long = omega (arith, ap length one, ap length two, length-swap_remove es i e, length-swap_remove ps i place, even.long);
        copies_apart = copies_apart;
        places_apart = places_apart;
      };
      spots = λ number. ap₂ (λ l m. lookup (nat_eq number) (spots_of l m)) one two ∙ kept-swap_remove es ps even i copy e place index first second number;
      old = sym (ap (option_map (λ s. s.place)) (kept_found es ps even copy i e place ((Found-position (nat_eq copy) es i index).key ∙ slice_get-map (λ d. d.0) es i ∙ ap (option_map (λ d. d.0)) first) first second));
    }
