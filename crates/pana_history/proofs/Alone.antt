-- What one copy knows alone, from a family's last entry back.
use Rattle.std.proofs.Common.{◌≡◌, ℕ, ◌<◌, ◌==◌, ◌||◌, ◌&&◌, not, Bool, true, false, cond, List, [], ◌∷◌, ◌++◌, filter, reverse, refl, sym, ap, ap₂, ◌∙◌, inl, inr, arith, append-nil, append_assoc, subst}
use Rattle.std.specs.List.{AllByRecursion}
use Rattle.std.proofs.lemmas.List.{reverse-reverse}
use Rattle.std.proofs.lemmas.Bool.{cases_Bool}
use Rattle.pana_journal.specs.declared.entry.Entry.{Entry}
use Rattle.pana_hall.specs.Accepted.{IsAccepted}
use Rattle.pana_hall.specs.Family.{families}
use Rattle.pana_hall.specs.Living.{Copy, copies_of, copy_in, living}
use Rattle.pana_hall.proofs.Words.{nat_tests, eq-eqb, ne_eqb, filter-append, has, option_map, unwrap_or}
use Rattle.pana_hall.proofs.Moves.{copies_of-push}
use Rattle.pana_hall.proofs.Places.{copies_below}
use Rattle.pana_hall.proofs.Sound.{accepted_is_sound}
use Rattle.pana_hall.proofs.Tables.{copies_of_none, layer_now, own_copy}
use Rattle.pana_history.specs.Lacking.{family_entries, lacking}
use Rattle.pana_history.specs.inner.Alone.{AreFit, IsFit, alone, known_alone}
use Rattle.pana_history.specs.inner.Sources.{reaches, sources_before}
use Rattle.pana_history.proofs.Fit.{each_reverse, reverse-cons, reverse-push}
use Rattle.pana_history.proofs.Knowing.{any_knows, knows, step}

-- the copies that entries make, given from the last one back
abbrev pub copies_back : List Entry → List Copy
copies_back entries = copies_of (reverse entries)

-- the sources' knowledge, one entry back
pub one_back : (e : Entry) (before : List Entry) → AreFit (e ∷ before) → (sources : List ℕ) (u : ℕ)
    → any_knows (copies_back (e ∷ before)) sources u ≡ ((reaches sources e.report && (e.number == u)) || any_knows (copies_back before) (sources_before e sources) u)
one_back e before fit sources u =
    ap (λ l. any_knows (copies_of l) sources u) (reverse-cons before e)
    ∙ ap (λ l. any_knows l sources u) (copies_of-push (reverse before) e)
    ∙ step e.number (copies_back before) (copies_below e.number (reverse before) (each_reverse (λ x. x.number < e.number) before fit.0)) e.report fit.1 sources u

-- who isn't there knows nothing
none_known : (sources : List ℕ) (u : ℕ) → any_knows [] sources u ≡ false
none_known [] u = refl
none_known (s ∷ sources) u = none_known sources u

-- no update is known but those of the entries
pub known_below : (m : ℕ) (entries : List Entry) → AreFit entries → AllByRecursion (λ e. e.number < m) entries → (sources : List ℕ) (u : ℕ) → any_knows (copies_back entries) sources u ≡ true → u < m
known_below m [] fit all sources u is = absurd (grind (arith, nat_tests, none_known, copies_of_none))
known_below m (e ∷ before) fit all sources u is = grind (arith, nat_tests, one_back, known_below m before fit.2 all.1)

-- what is known to the sources alone, the last first
abbrev pub only : List Entry → List ℕ → List ℕ → List Entry
only [] here there = []
only (e ∷ before) here there = alone e (reaches here e.report) (reaches there e.report) ++ only before (sources_before e here) (sources_before e there)

-- whether an entry is
abbrev is_only : List Entry → List ℕ → List ℕ → Entry → Bool
is_only entries here there e = any_knows (copies_back entries) here e.number && not (any_knows (copies_back entries) there e.number)

module _ (e : Entry) (before : List Entry) (fit : AreFit (e ∷ before)) where
  fresh : (sources : List ℕ) → any_knows (copies_back before) sources e.number ≡ false
  fresh sources = elim (cases_Bool (any_knows (copies_back before) sources e.number)) [
    | inl is ↦ absurd (let less = known_below e.number before fit.2 fit.0 sources e.number is in omega arith)
    | inr is ↦ is
  ]

  of_last : (sources : List ℕ) → any_knows (copies_back (e ∷ before)) sources e.number ≡ reaches sources e.report
  of_last sources = one_back e before fit sources e.number ∙ grind (arith, nat_tests, fresh, eq-eqb)

  of_other : (sources : List ℕ) (x : Entry) → x.number < e.number → any_knows (copies_back (e ∷ before)) sources x.number ≡ any_knows (copies_back before) (sources_before e sources) x.number
  of_other sources x less = one_back e before fit sources x.number ∙ ap (λ b. (reaches sources e.report && b) || any_knows (copies_back before) (sources_before e sources) x.number) (ne_eqb e.number x.number (λ same. omega arith)) ∙ grind (arith, nat_tests)

  others : (here there : List ℕ) (xs : List Entry) → AllByRecursion (λ x. x.number < e.number) xs
      → filter (is_only (e ∷ before) here there) xs ≡ filter (is_only before (sources_before e here) (sources_before e there)) xs
  others here there [] all = refl
  others here there (x ∷ xs) all =
      let rest = others here there xs all.1 in
      let same : is_only (e ∷ before) here there x ≡ is_only before (sources_before e here) (sources_before e there) x =
      ap₂ (λ p q. p && not q) (of_other here x all.0) (of_other there x all.0) in
      ap₂ (λ b l. cond b (x ∷ l) l) same rest

pub only_is : (entries : List Entry) → AreFit entries → (here there : List ℕ) → only entries here there ≡ filter (is_only entries here there) entries
only_is [] fit here there = refl
only_is (e ∷ before) fit here there =
    let rest = only_is before fit.2 (sources_before e here) (sources_before e there) ∙ sym (others e before fit here there before fit.0) in
    let head : is_only (e ∷ before) here there e ≡ (reaches here e.report && not (reaches there e.report)) = ap₂ (λ p q. p && not q) (of_last e before fit here) (of_last e before fit there) in
    ap (λ l. alone e (reaches here e.report) (reaches there e.report) ++ l) rest
    ∙ by_case (reaches here e.report && not (reaches there e.report)) (filter (is_only (e ∷ before) here there) before)
    ∙ ap (λ b. cond b (e ∷ filter (is_only (e ∷ before) here there) before) (filter (is_only (e ∷ before) here there) before)) (sym head)
  where
    by_case : (b : Bool) (l : List Entry) → cond b (e ∷ []) [] ++ l ≡ cond b (e ∷ l) l
    by_case true l = refl
    by_case false l = refl

filter-reverse : (p : Entry → Bool) (entries : List Entry) → filter p (reverse entries) ≡ reverse (filter p entries)
filter-reverse p [] = refl
filter-reverse p (e ∷ entries) =
    ap (filter p) (reverse-cons entries e) ∙ filter-append p (reverse entries) (e ∷ []) ∙ ap (λ l. l ++ filter p (e ∷ [])) (filter-reverse p entries)
    ∙ elim (p e) as (λ b. reverse (filter p entries) ++ cond b (e ∷ []) [] ≡ reverse (cond b (e ∷ filter p entries) (filter p entries))) [
      | true ↦ sym (reverse-cons (filter p entries) e)
      | false ↦ append-nil _
    ]

filter_is : (p q : Entry → Bool) → ((e : Entry) → p e ≡ q e) → (entries : List Entry) → filter p entries ≡ filter q entries
filter_is p q same [] = refl
filter_is p q same (e ∷ entries) = ap₂ (λ b l. cond b (e ∷ l) l) (same e) (filter_is p q same entries)

or_false : (b : Bool) → (b || false) ≡ b
or_false true = refl
or_false false = refl

-- so what a copy knows alone is found from the last entry back
pub known_is : (entries : List Entry) (a b : ℕ) → IsFit entries → only (reverse entries) (a ∷ []) (b ∷ []) ≡ reverse (known_alone entries a b)
known_is entries a b fit =
    only_is (reverse entries) fit (a ∷ []) (b ∷ [])
    ∙ filter_is (is_only (reverse entries) (a ∷ []) (b ∷ [])) (λ e. knows (copies_of entries) a e.number && not (knows (copies_of entries) b e.number))
    (λ e. ap₂ (λ p q. p && not q) (one a e.number) (one b e.number)) (reverse entries)
    ∙ filter-reverse _ entries
  where
    one : (c u : ℕ) → any_knows (copies_back (reverse entries)) (c ∷ []) u ≡ knows (copies_of entries) c u
    one c u = or_false (knows (copies_back (reverse entries)) c u) ∙ ap (λ l. knows (copies_of l) c u) (reverse-reverse entries)

-- it is what the copy knows by the journal
pub lacking_is : (journal : List Entry) (family a b : ℕ) → IsAccepted 8 journal → families journal a ≡ family → families journal b ≡ family → known_alone (family_entries journal family) a b ≡ lacking journal family a b
lacking_is journal family a b accepted of_a of_b =
    filter_is _ _ (λ e. ap₂ (λ p q. p && not q) (same a of_a e.number) (same b of_b e.number)) (family_entries journal family)
  where
    same : (c : ℕ) → families journal c ≡ family → (u : ℕ) → knows (copies_of (family_entries journal family)) c u ≡ knows (living journal) c u
    same c of u =
        ap (λ o. has (unwrap_or (option_map (λ x. x.known.set) o) []) u)
        (ap (λ l. copy_in (copies_of l) c) (sym (layer_now 8 family journal)) ∙ own_copy journal family c (accepted_is_sound 8 journal accepted) of)

-- The entries so far.

-- what is found by now, and what is left to be found
abbrev pub IsFoundSoFar : List Entry → List ℕ → List ℕ → List Entry → List Entry → List ℕ → List ℕ → Type 0
IsFoundSoFar whole a b found left here there = only (reverse whole) a b ≡ found ++ only (reverse left) here there

pub found_all : (whole : List Entry) (a b : ℕ) (here there : List ℕ) (found : List Entry) → IsFit whole → IsFoundSoFar whole (a ∷ []) (b ∷ []) found [] here there → reverse found ≡ known_alone whole a b
found_all whole a b here there found fit far =
    ap reverse (sym (append-nil found) ∙ sym far ∙ known_is whole a b fit) ∙ reverse-reverse (known_alone whole a b)

-- at first nothing is found
pub found_first : (whole : List Entry) (a b here there : List ℕ) (found : List Entry) → found ≡ [] → here ≡ a → there ≡ b → IsFoundSoFar whole a b found whole here there
found_first whole a b here there found none first second = sym (ap₂ (λ (l r : List Entry). l ++ r) none (ap₂ (only (reverse whole)) first second))

-- the next entry back is found where the first sources reach it and the others don't
pub found_next : (whole entries left : List Entry) (e : Entry) (a b here there : List ℕ) (found : List Entry) → entries ≡ left ++ e ∷ [] → IsFoundSoFar whole a b found entries here there
    → (more : List Entry) (is_here is_there : Bool) → more ≡ found ++ alone e is_here is_there → is_here ≡ reaches here e.report → is_there ≡ reaches there e.report
    → (first second : List ℕ) → first ≡ sources_before e here → second ≡ sources_before e there → IsFoundSoFar whole a b more left first second
found_next whole entries left e a b here there found last far more is_here is_there is reached met first second before other =
    far ∙ ap (λ back. found ++ only back here there) (ap reverse last ∙ reverse-push left e)
    ∙ sym (append_assoc found (alone e (reaches here e.report) (reaches there e.report)) (only (reverse left) (sources_before e here) (sources_before e there)))
    ∙ sym (ap₂ (λ (l r : List Entry). l ++ r) (is ∙ ap₂ (λ (p q : Bool). found ++ alone e p q) reached met) (ap₂ (only (reverse left)) before other))

-- the entries before the last one are fit too
pub fit_before : (entries left : List Entry) (e : Entry) → entries ≡ left ++ e ∷ [] → IsFit entries → IsFit left
fit_before entries left e last fit = (subst AreFit (ap reverse last ∙ reverse-push left e) fit).2
