-- Each step keeps the rule of ticks.
use Rattle.std.specs.Prelude.{◌≡◌, ◌≢◌, ℕ, Bool, true, false, zero, suc, ◌+◌, ◌*◌, ◌%◌, ◌^◌, ◌<◌, ◌≤◌, [], ◌∷◌, set, slice_index}
use Rattle.std.proofs.Common.{refl, sym, ap, ◌∙◌, subst, ⊎_elim, arith}
use Rattle.std.proofs.Math.Nat.{mod-eq_of_lt}
use mathlib.Core.Option.{some, some-injective, some-ne-none}
use lib.ListN.{get_elem?}
use Rattle.atomic_table.specs.Table.{State, Me, keeps, Allows, Splits, Joins, opening}
use Rattle.atomic_table.proofs.Lists.{at_set, at_snoc, set_again}
use Rattle.pana_ticks.specs.declared.count.Count.{Count}
use Rattle.pana_ticks.specs.declared.hand.Hand.{Hand}
use Rattle.pana_ticks.specs.declared.hand.Hand.TheVariants.{Both, Counter, Spent, Watcher}
use Rattle.pana_ticks.specs.Hands.{HasSeen, IsCounter, IsWatcher, both, count, count_of, first, met_by, none_yet, spent, watcher}
use Rattle.pana_ticks.specs.Rule.{Fits, Keeps, bit, word_of}
use Rattle.pana_ticks.specs.inner.Steps.{Adds, Closes, Compares, Looks}

-- who has seen no tick has seen no more than was counted
none_seen : (counted : Count) → HasSeen counted none_yet
none_seen counted = record { within = omega arith; all = λ over. absurd (cc) }

-- what was counted may be seen
all_seen : (counted : Count) → HasSeen counted counted
all_seen counted = record { within = omega arith; all = λ over. refl }

-- where more were counted since, or none, one has still seen no more
more_seen : (ticks later : ℕ) (is_over : Bool) (seen : Count) → ticks ≤ later → HasSeen (count ticks false) seen → HasSeen (count later is_over) seen
more_seen ticks later is_over seen more has = record {
  within = let few = has.within in omega (arith, few, more);
  all = λ over. let same = ap (λ (c : Count). c.is_over) (has.all over) in absurd (cc);
}

bit_few : (b : Bool) → bit b ≤ 1
bit_few true = omega arith
bit_few false = omega arith

-- what others know, once more were counted, or none
others_fit : (counter ticks later : ℕ) (is_over : Bool) (place : ℕ) (hand : Hand) → ticks ≤ later → place ≢ counter → Fits counter (count ticks false) place hand → Fits counter (count later is_over) place hand
others_fit counter ticks later is_over place (Counter known) more apart fits = absurd (apart fits.0)
others_fit counter ticks later is_over place (Watcher seen) more apart fits = more_seen ticks later is_over seen more fits
others_fit counter ticks later is_over place (Both known seen) more apart fits = absurd (apart fits.0)
others_fit counter ticks later is_over place Spent more apart fits = tt

-- what the one that counts and one that watches know, once they have met
pub both_known : (v w : Hand) → v ≡ Counter (count_of v) → w ≡ Watcher (count_of w) → both v w ≡ Both (count_of v) (count_of w)
both_known v w counts watches = ap (λ x. both x w) counts ∙ ap (λ y. both (Counter (count_of v)) y) watches

only : (place : ℕ) (hand : Hand) → get_elem? (first ∷ []) place ≡ some hand → Fits 0 none_yet place hand
only zero hand there = subst (Fits 0 none_yet zero) (some-injective first hand there) (refl, refl)
only (suc place) hand there = absurd (some-ne-none hand (sym there))

module _ {S : Type 0} where
  -- new ticks keep the rule
  pub opens : Keeps (opening {S = S} (0 ∷ []) [] first)
  opens = record { counted = none_yet; counter = 0; few = omega arith; words = refl; each = only }

  module _ (s : State S Hand) (rule : Keeps s) (id : ℕ) (v : Hand) (at : get_elem? s.views id ≡ some v) where
    word_found : slice_index s.words 0 ≡ word_of rule.counted
    word_found = ap (λ ws. slice_index ws 0) rule.words

    -- the state, where a look has changed no more than what a share knows
    looked : (w : Hand) → Fits rule.counter rule.counted id w → Keeps (record { words = set s.words 0 (slice_index s.words 0); homes = s.homes; views = set s.views id w })
    looked w fits = record {
      counted = rule.counted;
      counter = rule.counter;
      few = rule.few;
      words = ap (λ ws. set ws 0 (slice_index ws 0)) rule.words;
      each = λ place hand there. ⊎_elim (λ t. subst (λ h. Fits rule.counter rule.counted place h) t.1 (subst (λ p. Fits rule.counter rule.counted p w) (sym t.0) fits))
          (λ t. rule.each place hand t.1) (at_set s.views id place w hand there);
    }

    module _ (known : Count) (is : v ≡ Counter known) (going : known.is_over ≡ false) where
      is_counter : (id ≡ rule.counter) × (known ≡ rule.counted)
      is_counter = subst (Fits rule.counter rule.counted id) is (rule.each id v at)

      was : rule.counted ≡ count known.ticks false
      was = sym is_counter.1 ∙ ap (λ b. count known.ticks b) going

      -- the state, once the share that counts has changed the word
      changed : (k ticks : ℕ) (is_over : Bool) → 2 * known.ticks + k ≡ word_of (count ticks is_over) → known.ticks ≤ ticks → ticks ≤ 4611686018427387904
          → Keeps (record { words = set s.words 0 ((slice_index s.words 0 + k) % 2 ^ 64); homes = s.homes; views = set s.views id (Counter (count ticks is_over)) })
      changed k ticks is_over sum more few =
          let now = count ticks is_over in
          let few_bits = bit_few is_over in
          let fits : 2 * known.ticks + 0 + k < 2 ^ 64 = omega (arith, few, sum, few_bits) in
          let same : 2 * known.ticks + 0 + k ≡ word_of now = omega (arith, sum) in
          record {
            counted = now;
            counter = rule.counter;
            few = few;
            words = ap (λ ws. set ws 0 ((slice_index ws 0 + k) % 2 ^ 64)) (rule.words ∙ ap (λ c. word_of c ∷ []) was) ∙ ap (λ n. n ∷ []) (mod-eq_of_lt fits ∙ same);
            each = λ place hand there. ⊎_elim (λ t. subst (λ h. Fits rule.counter now place h) t.1 (t.0 ∙ is_counter.0, refl))
                (λ t. others_fit rule.counter known.ticks ticks is_over place hand more (λ here. t.0 (here ∙ sym is_counter.0)) (subst (λ c. Fits rule.counter c place hand) was (rule.each place hand t.1)))
                (at_set s.views id place (Counter now) hand there);
          }

  -- more ticks are counted
  pub adds : (k slots id : ℕ) (me : Me S Hand) (more : ℕ) → IsCounter me → (count_of me.0).is_over ≡ false → k ≡ more + more → (count_of me.0).ticks + more ≤ 4611686018427387904
      → Allows Keeps slots id me 0 (λ n. (n + k) % 2 ^ 64) (Adds k me)
  adds k slots id me more counts going change few s rule long at fits =
      let known = count_of me.0 in
      let now = Counter (count (known.ticks + more) false) in
      (now, keeps, tt, changed s rule id me.0 at known (ap (λ m. m.0) counts) going k (known.ticks + more) false (omega (arith, change)) (omega arith) few, (more, change, ap (λ c. (now, c)) (ap (λ m. m.1) counts)))

  -- no more come
  pub closes : (slots id : ℕ) (me : Me S Hand) → IsCounter me → (count_of me.0).is_over ≡ false → (count_of me.0).ticks ≤ 4611686018427387904
      → Allows Keeps slots id me 0 (λ n. (n + 1) % 2 ^ 64) (Closes me)
  closes slots id me counts going few s rule long at fits =
      let known = count_of me.0 in
      let now = Counter (count known.ticks true) in
      (now, keeps, tt, changed s rule id me.0 at known (ap (λ m. m.0) counts) going 1 known.ticks true refl (omega arith) few, ap (λ c. (now, c)) (ap (λ m. m.1) counts))

  -- a look by one that watches
  pub looks : (slots id : ℕ) (me : Me S Hand) → IsWatcher me → Allows Keeps slots id me 0 (λ n. n) (Looks me)
  looks slots id me watches s rule long at fits =
      let seen : HasSeen rule.counted (count_of me.0) = subst (Fits rule.counter rule.counted id) (ap (λ m. m.0) watches) (rule.each id me.0 at) in
      let now = Watcher rule.counted in (
        now,
        keeps,
        tt,
        looked s rule id me.0 at now (all_seen rule.counted),
        record { seen = rule.counted; found_is = word_found s rule id me.0 at; past = seen; is = ap (λ c. (now, c)) (ap (λ m. m.1) watches) },
      )

  -- a look by the one that counts, after it has met one that watches
  pub compares : (slots id : ℕ) (me : Me S Hand) (known seen : Count) → me ≡ (Both known seen, []) → Allows Keeps slots id me 0 (λ n. n) (Compares me)
  compares slots id me known seen is s rule long at fits =
      let met : (id ≡ rule.counter) × (known ≡ rule.counted) × HasSeen rule.counted seen = subst (Fits rule.counter rule.counted id) (ap (λ m. m.0) is) (rule.each id me.0 at) in
      let here : known ≡ count_of me.0 = ap (λ m. count_of m.0) (sym is) in
      let there : seen ≡ met_by me.0 = ap (λ m. met_by m.0) (sym is) in
      let now = Counter (count_of me.0) in (
        now,
        keeps,
        tt,
        looked s rule id me.0 at now (met.0, sym here ∙ met.1),
        record {
          seen = subst (λ c. HasSeen (count_of me.0) c) there (subst (λ c. HasSeen c seen) (sym met.1 ∙ here) met.2);
          is = ap (λ c. (now, c)) (ap (λ m. m.1) is);
        },
      )

  -- one that watches is divided off
  pub divides : (id : ℕ) (v : Hand) → Splits {S = S} Keeps id v v watcher
  divides id v s rule at = record {
    counted = rule.counted;
    counter = rule.counter;
    few = rule.few;
    words = rule.words;
    each = λ place hand there. ⊎_elim (λ t. rule.each place hand (subst (λ vs. get_elem? vs place ≡ some hand) (set_again s.views id v at) t)) (λ t. subst (Fits rule.counter rule.counted place) t (none_seen rule.counted))
        (at_snoc (set s.views id v) watcher hand place there);
  }

  -- the one that counts meets one that watches
  met_so : (id other : ℕ) (known seen : Count) → Joins {S = S} Keeps id (Counter known) other (Watcher seen) (Both known seen) spent
  met_so id other known seen s rule at apart there =
      let met = Both known seen in
      let was = ⊎_elim (λ t. absurd (apart t.0)) (λ t. t.1) (at_set s.views id other met (Watcher seen) there) in
      let counts = rule.each id (Counter known) at in
      let sees = rule.each other (Watcher seen) was in
      record {
        counted = rule.counted;
        counter = rule.counter;
        few = rule.few;
        words = rule.words;
        each = λ place hand found. ⊎_elim (λ t. subst (Fits rule.counter rule.counted place) t.1 tt)
            (λ t. ⊎_elim (λ u. subst (Fits rule.counter rule.counted place) u.1 (u.0 ∙ counts.0, counts.1, sees)) (λ u. rule.each place hand u.1) (at_set s.views id place met hand t.1))
            (at_set (set s.views id met) other place spent hand found);
      }

  pub meets : (id other : ℕ) (v w : Hand) → v ≡ Counter (count_of v) → w ≡ Watcher (count_of w) → Joins {S = S} Keeps id v other w (both v w) spent
  meets id other v w counts watches =
      subst (λ (x : Hand). Joins {S = S} Keeps id x other w (both x w) spent) (sym counts)
      (subst (λ (y : Hand). Joins {S = S} Keeps id (Counter (count_of v)) other y (both (Counter (count_of v)) y) spent) (sym watches) (met_so id other (count_of v) (count_of w)))
