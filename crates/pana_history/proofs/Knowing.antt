-- What a report makes of what copies know.
use Rattle.std.proofs.Common.{◌≡◌, ℕ, ◌==◌, ◌||◌, ◌&&◌, ◌⊎◌, Bool, true, false, cond, List, [], ◌∷◌, ◌++◌, Option, Some, None, refl, sym, ap, ◌∙◌, inl, inr, arith, option_map, unwrap_or, append-nil}
use Rattle.std.specs.List.{list_any}
use Rattle.std.specs.Option.{option_to_list}
use Rattle.pana_copies.specs.declared.place.Place.{Place}
use Rattle.pana_hall.proofs.Words.{nat_tests, cases_eq, eq-eqb, ne_eqb, Copy, copy_in, known_to, after_report, comes, made, new_copy, content_by, has, option_and_then}
use Rattle.pana_journal.specs.declared.report.Report.{Report}
use Rattle.pana_journal.specs.declared.report.Report.TheVariants.{Register, Duplicate, Edit, Reconcile, Merge, Relocate, Remove, Note, Confirm, Withdraw}
use Rattle.pana_family.specs.Updates.{union}
use Rattle.pana_hall.specs.Living.{changed}
use Rattle.pana_family.proofs.Unions.{union_members}
use Rattle.pana_hall.proofs.Moves.{AreBelow, Lives, Names, found_after, found_number, found_push, none_below}
use Rattle.pana_family.proofs.Images.{made_itself}
use Rattle.pana_history.specs.inner.Sources.{before_report, reaches, with_source, without}

-- whether the copy with this number knows the update
abbrev pub knows : List Copy → ℕ → ℕ → Bool
knows copies c u = has (known_to copies c) u

-- whether one of these does
abbrev pub any_knows : List Copy → List ℕ → ℕ → Bool
any_knows copies sources u = list_any (λ c. knows copies c u) sources

-- Lists of sources.

-- where those that are one copy say f, and the others g
any_split : (x : ℕ) (f : Bool) (g : ℕ → Bool) (sources : List ℕ) → list_any (λ c. cond (c == x) f (g c)) sources ≡ ((has sources x && f) || list_any g (without x sources))
any_split x f g [] = refl
any_split x f g (s ∷ sources) = grind (arith, nat_tests, any_split x f g sources)

any_without : (x : ℕ) (g : ℕ → Bool) (sources : List ℕ) → list_any g sources ≡ ((has sources x && g x) || list_any g (without x sources))
any_without x g [] = refl
any_without x g (s ∷ sources) = grind (arith, nat_tests, any_without x g sources)

any_push : (x : ℕ) (g : ℕ → Bool) (sources : List ℕ) → list_any g (sources ++ x ∷ []) ≡ (g x || list_any g sources)
any_push x g [] = grind (arith, nat_tests)
any_push x g (s ∷ sources) = grind (arith, nat_tests, any_push x g sources)

any_with : (x : ℕ) (g : ℕ → Bool) (sources : List ℕ) → list_any g (with_source x sources) ≡ (g x || list_any g sources)
any_with x g sources = by_case (has sources x) refl
  where
    by_case : (b : Bool) → has sources x ≡ b → list_any g (cond b sources (sources ++ x ∷ [])) ≡ (g x || list_any g sources)
    by_case true is = let e = any_without x g sources in grind (arith, nat_tests)
    by_case false is = any_push x g sources

any_same : (g h : ℕ → Bool) → ((c : ℕ) → g c ≡ h c) → (sources : List ℕ) → list_any g sources ≡ list_any h sources
any_same g h same [] = refl
any_same g h same (s ∷ sources) = grind (arith, nat_tests, any_same g h same sources)

cond_map : {X Y : Type 0} (f : X → Y) (b : Bool) (x y : X) → f (cond b x y) ≡ cond b (f x) (f y)
cond_map f true x y = refl
cond_map f false x y = refl

spread : (h p k r : Bool) → ((h && (p || k)) || r) ≡ ((h && p) || ((h && k) || r))
spread true true k r = refl
spread true false k r = refl
spread false p k r = refl

-- What one copy knows after a report.

-- what a copy that may be there knows
abbrev set_of : Option Copy → List ℕ
set_of o = unwrap_or (option_map (λ x. x.known.set) o) []

module _ (n : ℕ) (copies : List Copy) (below : AreBelow n copies) where
  -- no copy has the next number yet
  new_knows : (u : ℕ) → knows copies n u ≡ false
  new_knows u = ap (λ o. has (set_of o) u) (none_below n copies below)

  register_knows : (place : Place) (sum : Option (List ℕ)) (c u : ℕ) → knows (after_report n (Register place sum) copies) c u ≡ cond (c == n) false (knows copies c u)
  register_knows place sum c u =
      let new = new_copy n n [] place (content_by n (Register place sum) copies) in
      ap (λ l. knows (l ++ new ∷ []) c u) (made_itself copies) ∙ ap (λ o. has (set_of o) u) (found_push copies new c below) ∙ cond_map (λ o. has (set_of o) u) (c == n) _ _

  duplicate_knows : (source : ℕ) (place : Place) (sum : Option (List ℕ)) (c u : ℕ) → knows (after_report n (Duplicate source place sum) copies) c u ≡ cond (c == n) (knows copies source u) (knows copies c u)
  duplicate_knows source place sum c u =
      ap (λ l. knows (l ++ option_to_list (comes n (Duplicate source place sum) copies)) c u) (made_itself copies)
      ∙ elim (copy_in copies source) as (λ o. knows (copies ++ option_to_list (option_map (λ x. new_copy n x.family x.known.set place (content_by n (Duplicate source place sum) copies)) o)) c u ≡ cond (c == n) (has (set_of o) u) (knows copies c u)) [
        | None ↦ ap (λ l. knows l c u) (append-nil copies)
            ∙ elim (cases_eq c n) [
              | inl same ↦ ap (λ m. knows copies m u) same ∙ new_knows u ∙ sym (ap (λ b. cond b false (knows copies c u)) (eq-eqb c n same))
              | inr other ↦ sym (ap (λ b. cond b false (knows copies c u)) (ne_eqb c n other))
            ]
        | Some x ↦
            let new = new_copy n x.family x.known.set place (content_by n (Duplicate source place sum) copies) in
            ap (λ o. has (set_of o) u) (found_push copies new c below) ∙ cond_map (λ o. has (set_of o) u) (c == n) _ _
      ]

-- what becomes of what a copy knows, where none comes
module _ (n : ℕ) (report : Report) (copies : List Copy) (none : comes n report copies ≡ None) where
  stays_known : (c u : ℕ) → ((x : Copy) → copy_in copies c ≡ Some x → has (set_of (made n report copies x)) u ≡ has x.known.set u) → knows (after_report n report copies) c u ≡ knows copies c u
  stays_known c u keeps =
      ap (λ o. has (set_of o) u) (found_after n report copies c none)
      ∙ by_copy (copy_in copies c) refl
    where
      by_copy : (o : Option Copy) → copy_in copies c ≡ o → has (set_of (option_and_then (made n report copies) o)) u ≡ has (set_of o) u
      by_copy None is = refl
      by_copy (Some x) is = keeps x is

  becomes_known : (c u : ℕ) (f : Bool) → Lives copies c → ((x : Copy) → copy_in copies c ≡ Some x → has (set_of (made n report copies x)) u ≡ f) → knows (after_report n report copies) c u ≡ f
  becomes_known c u f lives now =
      ap (λ o. has (set_of o) u) (found_after n report copies c none)
      ∙ ap (λ o. has (set_of (option_and_then (made n report copies) o)) u) lives.1 ∙ now lives.0 lives.1

module _ (n : ℕ) (copies : List Copy) where
  edit_knows : (x : ℕ) (sum : Option (List ℕ)) → Lives copies x → (c u : ℕ) → knows (after_report n (Edit x sum) copies) c u ≡ cond (c == x) ((n == u) || knows copies x u) (knows copies c u)
  edit_knows x sum lives c u = elim (cases_eq c x) [
    | inl same ↦
        ap (λ m. knows (after_report n (Edit x sum) copies) m u) same
        ∙ becomes_known n (Edit x sum) copies refl x u ((n == u) || knows copies x u) lives (λ y is. grind (arith, nat_tests, found_number))
        ∙ sym (ap (λ b. cond b ((n == u) || knows copies x u) (knows copies c u)) (eq-eqb c x same))
    | inr other ↦
        stays_known n (Edit x sum) copies refl c u (λ y is. grind (arith, nat_tests, found_number))
        ∙ sym (ap (λ b. cond b ((n == u) || knows copies x u) (knows copies c u)) (ne_eqb c x other))
  ]

  remove_knows : (x : ℕ) (heir : Option ℕ) (c u : ℕ) → knows (after_report n (Remove x heir) copies) c u ≡ cond (c == x) false (knows copies c u)
  remove_knows x heir c u =
      ap (λ o. has (set_of o) u) (found_after n (Remove x heir) copies c refl)
      ∙ by_copy (copy_in copies c) refl
    where
      by_copy : (o : Option Copy) → copy_in copies c ≡ o → has (set_of (option_and_then (made n (Remove x heir) copies) o)) u ≡ cond (c == x) false (has (set_of o) u)
      by_copy None is = grind (arith, nat_tests)
      by_copy (Some y) is = grind (arith, nat_tests, found_number)

  relocate_knows : (x : ℕ) (place : Place) (c u : ℕ) → knows (after_report n (Relocate x place) copies) c u ≡ knows copies c u
  relocate_knows x place c u = stays_known n (Relocate x place) copies refl c u (λ y is. grind (arith, nat_tests))

  note_knows : (x : ℕ) (sum : List ℕ) (c u : ℕ) → knows (after_report n (Note x sum) copies) c u ≡ knows copies c u
  note_knows x sum c u = stays_known n (Note x sum) copies refl c u (λ y is. grind (arith, nat_tests))

  idle_knows : (report : Report) → comes n report copies ≡ None → ((y : Copy) → made n report copies y ≡ Some y) → (c u : ℕ) → knows (after_report n report copies) c u ≡ knows copies c u
  idle_knows report none same c u = stays_known n report copies none c u (λ y is. ap (λ o. has (set_of o) u) (same y))

  reconcile_knows : (a b : ℕ) (sum : Option (List ℕ)) → Lives copies a → Lives copies b → (c u : ℕ)
      → knows (after_report n (Reconcile a b sum) copies) c u ≡ cond (c == a) (knows copies a u || knows copies b u) (cond (c == b) (knows copies a u || knows copies b u) (knows copies c u))
  reconcile_knows a b sum here there c u = elim (cases_eq c a) [
    | inl same ↦
        ap (λ m. knows (after_report n (Reconcile a b sum) copies) m u) same
        ∙ becomes_known n (Reconcile a b sum) copies refl a u (knows copies a u || knows copies b u) here (λ y is. grind (arith, nat_tests, found_number, union_members))
        ∙ sym (ap (λ t. cond t (knows copies a u || knows copies b u) (cond (c == b) (knows copies a u || knows copies b u) (knows copies c u))) (eq-eqb c a same))
    | inr other ↦ elim (cases_eq c b) [
      | inl same ↦
          ap (λ m. knows (after_report n (Reconcile a b sum) copies) m u) same
          ∙ becomes_known n (Reconcile a b sum) copies refl b u (knows copies a u || knows copies b u) there (λ y is. grind (arith, nat_tests, found_number, union_members))
          ∙ sym (ap (λ t. cond t (knows copies a u || knows copies b u) (cond (c == b) (knows copies a u || knows copies b u) (knows copies c u))) (ne_eqb c a other) ∙ ap (λ t. cond t (knows copies a u || knows copies b u) (knows copies c u)) (eq-eqb c b same))
      | inr apart ↦
          stays_known n (Reconcile a b sum) copies refl c u (λ y is. grind (arith, nat_tests, found_number))
          ∙ sym (ap (λ t. cond t (knows copies a u || knows copies b u) (cond (c == b) (knows copies a u || knows copies b u) (knows copies c u))) (ne_eqb c a other) ∙ ap (λ t. cond t (knows copies a u || knows copies b u) (knows copies c u)) (ne_eqb c b apart))
    ]
  ]

  or_assoc : (p q r : Bool) → ((p || q) || r) ≡ (p || (q || r))
  or_assoc true q r = refl
  or_assoc false q r = refl

  merged : (a b : ℕ) (sum : Option (List ℕ)) (y : Copy) (u : ℕ) → (y.known.copy ≡ a) ⊎ (y.known.copy ≡ b)
      → has (set_of (made n (Merge a b sum) copies y)) u ≡ has (union (n ∷ known_to copies a) (known_to copies b)) u
  merged a b sum y u (inl is) = ap (λ t. has (set_of (cond (t || (y.known.copy == b)) (changed n (Merge a b sum) copies y) (Some y))) u) (eq-eqb y.known.copy a is)
  merged a b sum y u (inr is) = ap (λ t. has (set_of (cond t (changed n (Merge a b sum) copies y) (Some y))) u) (or_true (y.known.copy == a) (y.known.copy == b) (eq-eqb y.known.copy b is))
    where
      or_true : (p q : Bool) → q ≡ true → (p || q) ≡ true
      or_true true q e = refl
      or_true false q e = e

  merge_knows : (a b : ℕ) (sum : Option (List ℕ)) → Lives copies a → Lives copies b → (c u : ℕ)
      → knows (after_report n (Merge a b sum) copies) c u ≡ cond (c == a) ((n == u) || (knows copies a u || knows copies b u)) (cond (c == b) ((n == u) || (knows copies a u || knows copies b u)) (knows copies c u))
  merge_knows a b sum here there c u =
      let both = (n == u) || (knows copies a u || knows copies b u) in
      let united = union_members (n ∷ known_to copies a) (known_to copies b) u ∙ or_assoc (n == u) (knows copies a u) (knows copies b u) in
      elim (cases_eq c a) [
        | inl same ↦
            ap (λ m. knows (after_report n (Merge a b sum) copies) m u) same
            ∙ becomes_known n (Merge a b sum) copies refl a u both here (λ y is. merged a b sum y u (inl (found_number copies a y is)) ∙ united)
            ∙ sym (ap (λ t. cond t both (cond (c == b) both (knows copies c u))) (eq-eqb c a same))
        | inr other ↦ elim (cases_eq c b) [
          | inl same ↦
              ap (λ m. knows (after_report n (Merge a b sum) copies) m u) same
              ∙ becomes_known n (Merge a b sum) copies refl b u both there (λ y is. merged a b sum y u (inr (found_number copies b y is)) ∙ united)
              ∙ sym (ap (λ t. cond t both (cond (c == b) both (knows copies c u))) (ne_eqb c a other) ∙ ap (λ t. cond t both (knows copies c u)) (eq-eqb c b same))
          | inr apart ↦
              stays_known n (Merge a b sum) copies refl c u (λ y is. grind (arith, nat_tests, found_number))
              ∙ sym (ap (λ t. cond t both (cond (c == b) both (knows copies c u))) (ne_eqb c a other) ∙ ap (λ t. cond t both (knows copies c u)) (ne_eqb c b apart))
        ]
      ]

-- two that know the same, which is no less than what either knew
module _ (copies : List Copy) where
  two_split : (a b : ℕ) (f : Bool) (sources : List ℕ) (u : ℕ) → (knows copies a u ≡ true → f ≡ true) → (knows copies b u ≡ true → f ≡ true)
      → list_any (λ c. cond (c == a) f (cond (c == b) f (knows copies c u))) sources ≡ (((has sources a || has sources b) && f) || any_knows copies sources u)
  two_split a b f [] u here there = refl
  two_split a b f (s ∷ sources) u here there = grind (arith, nat_tests, two_split a b f sources u here there)

-- What sources know after a report: what those before it knew, and the report itself, where it is an update of one of them.
module _ (n : ℕ) (copies : List Copy) (below : AreBelow n copies) where
  -- it is so of a report's number, where it is an update, and of each other one
  abbrev IsStep : Report → List ℕ → ℕ → Type 0
  IsStep report sources u = any_knows (after_report n report copies) sources u ≡ ((reaches sources report && (n == u)) || any_knows copies (before_report n report sources) u)

  pub step : (report : Report) → ((c : ℕ) → Names report c → Lives copies c) → (sources : List ℕ) (u : ℕ) → IsStep report sources u
  step (Register place sum) lives sources u =
      any_same _ _ (λ c. register_knows n copies below place sum c u) sources
      ∙ any_split n false (λ c. knows copies c u) sources ∙ grind (arith, nat_tests)
  step (Duplicate source place sum) lives sources u =
      any_same _ _ (λ c. duplicate_knows n copies below source place sum c u) sources
      ∙ any_split n (knows copies source u) (λ c. knows copies c u) sources
      ∙ by_case (has sources n) refl
    where
      by_case : (b : Bool) → has sources n ≡ b → ((b && knows copies source u) || any_knows copies (without n sources) u) ≡ any_knows copies (cond b (with_source source (without n sources)) sources) u
      by_case true is = sym (any_with source (λ c. knows copies c u) (without n sources))
      by_case false is = sym (any_without n (λ c. knows copies c u) sources ∙ ap (λ b. (b && knows copies n u) || any_knows copies (without n sources) u) is)
  step (Edit x sum) lives sources u =
      any_same _ _ (λ c. edit_knows n copies x sum (lives x refl) c u) sources
      ∙ any_split x ((n == u) || knows copies x u) (λ c. knows copies c u) sources
      ∙ spread (has sources x) (n == u) (knows copies x u) (any_knows copies (without x sources) u)
      ∙ ap (λ f. (has sources x && (n == u)) || f) (sym (any_without x (λ c. knows copies c u) sources))
  step (Reconcile a b sum) lives sources u =
      any_same _ _ (λ c. reconcile_knows n copies a b sum (lives a (inl refl)) (lives b (inr refl)) c u) sources
      ∙ two_split copies a b (knows copies a u || knows copies b u) sources u (λ e. grind (arith, nat_tests)) (λ e. grind (arith, nat_tests)) ∙ by_case (has sources a || has sources b) refl
    where
      by_case : (t : Bool) → (has sources a || has sources b) ≡ t
          → ((t && (knows copies a u || knows copies b u)) || any_knows copies sources u) ≡ any_knows copies (cond t (with_source a (with_source b sources)) sources) u
      by_case true is = sym (any_with a (λ c. knows copies c u) (with_source b sources) ∙ ap (λ f. knows copies a u || f) (any_with b (λ c. knows copies c u) sources) ∙ grind (arith, nat_tests))
      by_case false is = refl
  step (Merge a b sum) lives sources u =
      any_same _ _ (λ c. merge_knows n copies a b sum (lives a (inl refl)) (lives b (inr refl)) c u) sources
      ∙ two_split copies a b ((n == u) || (knows copies a u || knows copies b u)) sources u (λ e. grind (arith, nat_tests)) (λ e. grind (arith, nat_tests)) ∙ by_case (has sources a || has sources b) refl
    where
      by_case : (t : Bool) → (has sources a || has sources b) ≡ t
          → ((t && ((n == u) || (knows copies a u || knows copies b u))) || any_knows copies sources u) ≡ ((t && (n == u)) || any_knows copies (cond t (with_source a (with_source b sources)) sources) u)
      by_case true is = sym (ap (λ f. (n == u) || f) (any_with a (λ c. knows copies c u) (with_source b sources) ∙ ap (λ f. knows copies a u || f) (any_with b (λ c. knows copies c u) sources)) ∙ grind (arith, nat_tests))
      by_case false is = refl
  step (Relocate x place) lives sources u = any_same _ _ (λ c. relocate_knows n copies x place c u) sources
  step (Remove x heir) lives sources u =
      any_same _ _ (λ c. remove_knows n copies x heir c u) sources
      ∙ any_split x false (λ c. knows copies c u) sources ∙ grind (arith, nat_tests)
  step (Note x sum) lives sources u = any_same _ _ (λ c. note_knows n copies x sum c u) sources
  step (Confirm m) lives sources u = any_same _ _ (λ c. idle_knows n copies (Confirm m) refl (λ y. refl) c u) sources
  step (Withdraw m) lives sources u = any_same _ _ (λ c. idle_knows n copies (Withdraw m) refl (λ y. refl) c u) sources
