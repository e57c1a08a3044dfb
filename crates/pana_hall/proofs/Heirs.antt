-- What is known after a sighting, and which heir is taken.
use Rattle.pana_hall.proofs.Words.{◌≡◌, ℕ, ◌==◌, ◌||◌, Bool, true, false, cond, ◌&&◌, List, [], ◌∷◌, Option, Some, None, option_map, unwrap_or, filter, find, refl, sym, ap, ap₂, ◌∙◌, subst, inl, inr, arith, nat_tests}
use Rattle.pana_hall.proofs.Words.{Entry, Copy, copy_in, living, Place, IsAccepted, Remove, eqb-true, eq-eqb, has, is_of, list_any, not, same_place, In, cases_Bool, AreRising, ◌≤◌, ◌≢◌, ne_eqb, bytes_eq}
use Rattle.pana_calls.specs.declared.call.Sighting.TheVariants.{Found, Missing}
use Rattle.pana_hall.specs.declared.decision.Decision.TheVariants.{Known, One}
use Rattle.pana_event.specs.declared.rel.Rel.{Rel}
use Rattle.pana_event.specs.declared.rel.Rel.TheVariants as rels
use Rattle.pana_hall.specs.Living.{sum_of}
use Rattle.pana_hall.specs.Finding.{best, copy_at, decision, heir_of, holds, others, relates_to}
use Rattle.std.proofs.lemmas.Slice.Eq.{bytes_eq-Decides}
use Rattle.std.specs.Option.{option_or}
use Rattle.pana_rel.specs.Board.{is_rel}
use Rattle.pana_family.specs.Updates.{is_within}
use Rattle.pana_family.proofs.Relations.{subset_within, within_subset}
use Rattle.pana_family.proofs.Members.{in_filter, to_filter}
use Rattle.pana_hall.specs.Status.{copy_relation}
use Rattle.pana_hall.specs.laws.Advice.{KnowsAllOf}
use Rattle.pana_hall.specs.laws.Sightings.{IsHeir, IsKnown}
use Rattle.pana_hall.proofs.Advised.{find_in, find_some, newer, none_any, not_more, rises_in, top}
use Rattle.pana_hall.proofs.{Lists.rises_filter, Runs.rising}
use Rattle.pana_hall.proofs.SightingLaws.{and_right, found_cases, found_living, holders, missing_cases, there_at}

-- What is known.

held_is : (sum : List ℕ) (o : Option (List ℕ)) → unwrap_or (option_map (bytes_eq sum) o) false ≡ true → o ≡ Some sum
held_is sum None e = absurd (cc)
held_is sum (Some s) e = grind (arith, nat_tests, bytes_eq-Decides)

held_from : (sum : List ℕ) (o : Option (List ℕ)) → o ≡ Some sum → unwrap_or (option_map (bytes_eq sum) o) false ≡ true
held_from sum None e = absurd (cc)
held_from sum (Some s) e = grind (arith, nat_tests, bytes_eq-Decides)

one_place : (p q : Place) → same_place p q ≡ true → p ≡ q
one_place p q e = grind (arith, nat_tests, bytes_eq-Decides)

and_false : (a b : Bool) → b ≡ false → (a && b) ≡ false
and_false true b e = e
and_false false b e = refl

and_both : (a b : Bool) → a ≡ true → b ≡ true → (a && b) ≡ true
and_both a b e f = ap₂ (λ (p q : Bool). p && q) e f

-- some copies have a best one
best_none : (xs : List Copy) (x : Copy) → In x xs → best xs ≡ None → ⊥
best_none xs x i none =
    let t = top xs x in
    let r = t.0 in
    let j : In r xs = elim t.1 [ inl is ↦ subst (λ c. In c xs) (sym is) i | inr h ↦ h.0 ] in
    let free : list_any (relates_to rels.Newer r) xs ≡ false = none_any (relates_to rels.Newer r) xs (λ y l. and_false (is_of r.family y) (newer r y) (t.2 y l)) in
    let found = find_some (λ c. not (list_any (relates_to rels.Newer c) xs)) xs r j (ap not free) in
    let is = found.1 in
    cc

-- so where there is none, no copy of the family relates so
unrelated : (rel : Rel) (k other : Copy) (xs : List Copy) → is_of k.family other ≡ true → In other xs → best (filter (relates_to rel k) xs) ≡ None → is_rel (copy_relation other k) rel ≡ false
unrelated rel k other xs of i none = elim (cases_Bool (is_rel (copy_relation other k) rel)) [
  | inl e ↦ absurd (best_none (filter (relates_to rel k) xs) other (to_filter (relates_to rel k) xs other i (and_both (is_of k.family other) (is_rel (copy_relation other k) rel) of e)) none)
  | inr e ↦ e
]

to_others : (copies : List Copy) (k other : Copy) → In other copies → other.family ≡ k.family → (other.known.copy == k.known.copy) ≡ false → In other (others copies k)
to_others copies k other i of apart =
    to_filter (λ c. is_of k.family c && not (c.known.copy == k.known.copy)) copies other i (and_both (is_of k.family other) (not (other.known.copy == k.known.copy)) (eq-eqb other.family k.family of) (ap not apart))

held_known : (journal : List Entry) (place : Place) (sum : List ℕ) (k : Copy) → IsAccepted 8 journal → copy_at (living journal) place ≡ Some k
    → best (filter (relates_to rels.Newer k) (holders (living journal) sum k)) ≡ None → best (filter (relates_to rels.Conflict k) (holders (living journal) sum k)) ≡ None → holds sum k ≡ true
    → IsKnown (living journal) place sum k.known.copy
held_known journal place sum k accepted at none free held =
    let copies = living journal in
    let there = there_at copies place k at in
    record {
      copy = k;
      lives = found_living journal accepted k there.0;
      there = one_place k.place place there.1;
      holds = held_is sum (sum_of k) held;
      knows = λ other i of same. elim (cases_Bool (other.known.copy == k.known.copy)) [
        | inl e ↦
            let here = found_living journal accepted k there.0 in
            let also = found_living journal accepted other i in
            let number = eqb-true other.known.copy k.known.copy e in
            let is : other ≡ k = cc in
            λ u h. ap (λ (c : Copy). has c.known.set u) (sym is) ∙ h
        | inr e ↦
            let family = eq-eqb other.family k.family of in
            let holder = to_filter (holds sum) (others copies k) other (to_others copies k other i of e) (held_from sum (sum_of other) same) in
            not_more other.known.set k.known.set (unrelated rels.Newer k other (holders copies sum k) family holder none) (unrelated rels.Conflict k other (holders copies sum k) family holder free)
      ];
    }

pub is_held : (journal : List Entry) (place : Place) (sum : List ℕ) (number : ℕ) → IsAccepted 8 journal → decision (living journal) (Found place sum) ≡ Known (Some number) → IsKnown (living journal) place sum number
is_held journal place sum number accepted =
    found_cases (λ d. d ≡ Known (Some number) → IsKnown (living journal) place sum number) (living journal) place sum
    (λ c x at is e. absurd (cc)) (λ a b e. absurd (cc))
    (λ c at none free held e. let same : c.known.copy ≡ number = cc in subst (IsKnown (living journal) place sum) same (held_known journal place sum c accepted at none free held))
    (λ c at e. absurd (cc)) (λ x k e. absurd (cc)) (λ c at e. absurd (cc)) (λ c at e. absurd (cc)) (λ e. absurd (cc)) (λ k e. absurd (cc))

-- The heir.

-- the first that passes has the lowest key of those that pass
find_least : {X : Type 0} (key : X → ℕ) (low : ℕ) (p : X → Bool) (xs : List X) (x y : X) → AreRising key low xs → find p xs ≡ Some x → In y xs → p y ≡ true → key x ≤ key y
find_least key low p [] x y rises e i passes = absurd i
find_least key low p (z ∷ xs) x y rises e i passes =
    elim (p z) as (λ b. p z ≡ b → cond b (Some z) (find p xs) ≡ Some x → key x ≤ key y) [
      | true ↦ λ t f.
          let same : z ≡ x = cc in
          elim i [ inl is ↦ omega (arith, ap key same, ap key is) | inr j ↦ omega (arith, ap key same, rises_in key (key z) xs y rises.1 j) ]
      | false ↦ λ t f. elim i [
        | inl is ↦ absurd (let odd : p z ≡ true = ap p (sym is) ∙ passes in cc)
        | inr j ↦ find_least key (key z) p xs x y rises.1 f j passes
      ]
    ] refl e

-- whether another copy knows all that the copy knows
abbrev knows_all : Copy → Copy → Bool
knows_all k other = relates_to rels.Newer k other || relates_to rels.Equal k other

knows_is : (of p q : Bool) → ((of && is_rel (cond p (cond q rels.Equal rels.Older) (cond q rels.Newer rels.Conflict)) rels.Newer) || (of && is_rel (cond p (cond q rels.Equal rels.Older) (cond q rels.Newer rels.Conflict)) rels.Equal)) ≡ (of && q)
knows_is true true true = refl
knows_is true true false = refl
knows_is true false true = refl
knows_is true false false = refl
knows_is false p q = refl

knows_by_sets : (k other : Copy) → knows_all k other ≡ (is_of k.family other && is_within k.known.set other.known.set)
knows_by_sets k other = knows_is (is_of k.family other) (is_within other.known.set k.known.set) (is_within k.known.set other.known.set)

module _ (journal : List Entry) (accepted : IsAccepted 8 journal) (k : Copy) (lives : In k (living journal)) where
  abbrev rest : List Copy
  rest = others (living journal) k

  rest_rises : AreRising (λ c. c.known.copy) 0 rest
  rest_rises = rises_filter (λ c. c.known.copy) 0 (λ c. is_of k.family c && not (c.known.copy == k.known.copy)) (living journal) (rising 8 journal accepted).0

  in_rest : (third : Copy) → In third (living journal) → third.family ≡ k.family → third.known.copy ≢ k.known.copy → In third rest
  in_rest third i of apart = to_others (living journal) k third i of (ne_eqb third.known.copy k.known.copy apart)

  heir_by : (w : Copy) → In w rest → ((third : Copy) → In third rest → is_of k.family third ≡ true → KnowsAllOf third k → KnowsAllOf w k × (w.known.copy ≤ third.known.copy)) → IsHeir (living journal) k.known.copy w.known.copy
  heir_by w i least =
      let there = in_filter (λ c. is_of k.family c && not (c.known.copy == k.known.copy)) (living journal) w i in
      record {
        copy = k;
        other = w;
        lives = found_living journal accepted k lives;
        heir_lives = found_living journal accepted w there.0;
        apart = λ h. apart_from _ _ there.1 (eq-eqb w.known.copy k.known.copy h);
        family = eqb-true w.family k.family (and_left _ _ there.1);
        knows = λ third j of apart all. least third (in_rest third j of apart) (eq-eqb third.family k.family of) all;
      }
    where
      and_left : (a b : Bool) → (a && b) ≡ true → a ≡ true
      and_left true b e = refl
      and_left false b e = absurd (cc)

      apart_from : (a b : Bool) → (a && not b) ≡ true → b ≡ true → ⊥
      apart_from true true e f = cc
      apart_from true false e f = cc
      apart_from false b e f = cc

  knowing_passes : (third : Copy) → is_of k.family third ≡ true → KnowsAllOf third k → knows_all k third ≡ true
  knowing_passes third of all = knows_by_sets k third ∙ and_both (is_of k.family third) (is_within k.known.set third.known.set) of (subset_within k.known.set third.known.set all)

  heir_found : (heir : ℕ) → heir_of (living journal) k ≡ Some heir → IsHeir (living journal) k.known.copy heir
  heir_found heir = by_first (find (knows_all k) rest) refl
    where
      by_any : find (knows_all k) rest ≡ None → (o : Option Copy) → find (λ other. true) rest ≡ o → option_map (λ c. c.known.copy) o ≡ Some heir → IsHeir (living journal) k.known.copy heir
      by_any none None is e = absurd (cc)
      by_any none (Some w) is e =
          let there = find_in (λ other. true) rest w is in
          let same : w.known.copy ≡ heir = cc in
          subst (IsHeir (living journal) k.known.copy) same
          (heir_by w there.0 (λ third i of all. absurd (let found = find_some (knows_all k) rest third i (knowing_passes third of all) in let is = found.1 in cc)))

      by_first : (o : Option Copy) → find (knows_all k) rest ≡ o → option_map (λ c. c.known.copy) (option_or o (find (λ other. true) rest)) ≡ Some heir → IsHeir (living journal) k.known.copy heir
      by_first None is e = by_any is (find (λ other. true) rest) refl e
      by_first (Some w) is e =
          let there = find_in (knows_all k) rest w is in
          let same : w.known.copy ≡ heir = cc in
          let knows = within_subset k.known.set w.known.set (and_right (is_of k.family w) (is_within k.known.set w.known.set) (sym (knows_by_sets k w) ∙ there.1)) in
          subst (IsHeir (living journal) k.known.copy) same
          (heir_by w there.0 (λ third i of all. (knows, find_least (λ c. c.known.copy) 0 (knows_all k) rest w third rest_rises is i (knowing_passes third of all))))

  -- no heir, no other copy
  no_other : (other : Copy) → heir_of (living journal) k ≡ None → In other rest → ⊥
  no_other other e i = by_first (find (knows_all k) rest) e
    where
      by_any : (o : Option Copy) → find (λ other. true) rest ≡ o → option_map (λ c. c.known.copy) o ≡ None → ⊥
      by_any None is e = let found = find_some (λ other. true) rest other i refl in let odd = found.1 in cc
      by_any (Some w) is e = cc

      by_first : (o : Option Copy) → option_map (λ c. c.known.copy) (option_or o (find (λ other. true) rest)) ≡ None → ⊥
      by_first None e = by_any (find (λ other. true) rest) refl e
      by_first (Some w) e = cc

pub is_heir : (journal : List Entry) (place : Place) (number heir : ℕ) → IsAccepted 8 journal → decision (living journal) (Missing place) ≡ One (Remove number (Some heir)) → IsHeir (living journal) number heir
is_heir journal place number heir accepted =
    missing_cases (λ d. d ≡ One (Remove number (Some heir)) → IsHeir (living journal) number heir) (living journal) place
    (λ c at e.
    let same : c.known.copy ≡ number = cc in
    let taken : heir_of (living journal) c ≡ Some heir = cc in
    subst (λ n. IsHeir (living journal) n heir) same (heir_found journal accepted c (there_at (living journal) place c at).0 heir taken))
    (λ e. absurd (cc))

pub is_alone : (journal : List Entry) (place : Place) (number : ℕ) (copy other : Copy) → IsAccepted 8 journal → decision (living journal) (Missing place) ≡ One (Remove number None)
    → copy_in (living journal) number ≡ Some copy → In other (living journal) → other.family ≡ copy.family → other ≡ copy
is_alone journal place number copy other accepted =
    missing_cases (λ d. d ≡ One (Remove number None) → copy_in (living journal) number ≡ Some copy → In other (living journal) → other.family ≡ copy.family → other ≡ copy) (living journal) place
    (λ c at e lives i of.
    let same : c.known.copy ≡ number = cc in
    let none : heir_of (living journal) c ≡ None = cc in
    let there = (there_at (living journal) place c at).0 in
    let here = found_living journal accepted c there in
    let also = found_living journal accepted other i in
    let is : c ≡ copy = cc in
    elim (cases_Bool (other.known.copy == c.known.copy)) [
      | inl f ↦ let one = eqb-true other.known.copy c.known.copy f in let both : other ≡ c = cc in both ∙ is
      | inr f ↦ absurd (no_other journal accepted c there other none (to_others (living journal) c other i (of ∙ ap (λ (x : Copy). x.family) (sym is)) f))
    ])
    (λ e. absurd (cc))
