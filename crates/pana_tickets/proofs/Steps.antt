-- Each step keeps the rule of tickets.
use Rattle.std.specs.Prelude.{◌≡◌, ℕ, zero, suc, ◌+◌, ◌%◌, ◌^◌, ◌<◌, ◌≤◌, [], ◌∷◌, ◌++◌, set, slice_index, sum_by}
use Rattle.std.proofs.Common.{refl, sym, ap, ◌∙◌, subst, ⊎_elim, lt_of_not-le, arith}
use Rattle.std.proofs.Math.Nat.{mod-eq_of_lt}
use mathlib.Core.Option.{some, some-injective, some-ne-none}
use lib.ListN.{get_elem?}
use native.Mathlib.Decide.{dec_le}
use Rattle.atomic_table.specs.Table.{State, Me, keeps, Allows, Splits, Joins, opening}
use Rattle.atomic_table.proofs.Lists.{at_set, at_snoc, set_again}
use Rattle.pana_tickets.specs.declared.hand.Hand.{Hand}
use Rattle.pana_tickets.specs.Hands.{joined, kept, missing, one_more, part, spent, whole}
use Rattle.pana_tickets.specs.Rule.{Draws, Fits, Keeps, Looks, drawn_by, missed_by, parts_of}
use Rattle.pana_tickets.proofs.Sums.{sum_by-at, sum_by-below, sum_by-none, sum_by-push, sum_by-put}

only : (most j : ℕ) (h : Hand) → get_elem? (whole most ∷ []) j ≡ some h → Fits most h
only most zero h there = subst (Fits most) (some-injective (whole most) h there) (record { most_is = λ _. refl; missed = omega arith; idle = λ none. absurd (omega (arith, none)) })
only most (suc j) h there = absurd (some-ne-none h (sym there))

module _ {S : Type 0} where
  -- new tickets keep the rule
  pub opens : (most : ℕ) → most ≤ 4611686018427387904 → Keeps most (opening {S = S} (0 ∷ []) [] (whole most))
  opens most few = record { few = few; words = refl; whole = refl; within = omega arith; all = λ one. absurd (omega (arith, one)); each = only most }

  module _ (most : ℕ) (s : State S Hand) (rule : Keeps most s) (id : ℕ) (v : Hand) (at : get_elem? s.views id ≡ some v) where
    -- what holds of each share holds of each after one has changed
    each_put : (w : Hand) → Fits most w → (j : ℕ) (u : Hand) → get_elem? (set s.views id w) j ≡ some u → Fits most u
    each_put w fits j u there =
        ⊎_elim (λ t. subst (Fits most) t.1 fits) (λ t. rule.each j u t.1) (at_set s.views id j w u there)

    found_is : slice_index s.words 0 ≡ sum_by drawn_by s.views + sum_by missed_by s.views
    found_is = ap (λ ws. slice_index ws 0) rule.words

    -- the word is far from the greatest number
    missed_few : sum_by missed_by s.views ≤ 64
    missed_few = let below = sum_by-below missed_by parts_of s.views (λ j u there. (rule.each j u there).missed) in omega (arith, below, rule.whole)

    word_is : (w : Hand) → sum_by drawn_by (set s.views id w) + sum_by missed_by (set s.views id w) ≡ sum_by drawn_by s.views + sum_by missed_by s.views + 1
        → set s.words 0 ((slice_index s.words 0 + 1) % 2 ^ 64) ≡ (sum_by drawn_by (set s.views id w) + sum_by missed_by (set s.views id w)) ∷ []
    word_is w more =
        let n = sum_by drawn_by s.views + sum_by missed_by s.views in
        let fits : n + 1 < 2 ^ 64 = omega (arith, missed_few, rule.within, rule.few) in
        ap (λ ws. set ws 0 ((slice_index ws 0 + 1) % 2 ^ 64)) rule.words ∙ ap (λ k. k ∷ []) (mod-eq_of_lt fits ∙ sym more)

    module _ (room : v.missed < v.parts) where
      own : v.most ≡ most
      own = (rule.each id v at).most_is (omega (arith, room))

      drawn_one : slice_index s.words 0 < v.most → Keeps most (record { words = set s.words 0 ((slice_index s.words 0 + 1) % 2 ^ 64); homes = s.homes; views = set s.views id (one_more v) })
      drawn_one less =
          let d = sum_by-put drawn_by s.views id v (one_more v) at in
          let m = sum_by-put missed_by s.views id v (one_more v) at in
          let p = sum_by-put parts_of s.views id v (one_more v) at in
          let n = found_is in
          let below : sum_by drawn_by s.views + sum_by missed_by s.views < most = omega (arith, n, less, own) in
          let none : sum_by missed_by s.views ≡ 0 = fewer (dec_le 1 (sum_by missed_by s.views)) below in
          let old = rule.each id v at in
          record {
            few = rule.few;
            words = word_is (one_more v) (omega (arith, d, m));
            whole = omega (arith, p, rule.whole);
            within = omega (arith, d, below);
            all = λ one. absurd (omega (arith, one, m, none));
            each = each_put (one_more v) (record { most_is = old.most_is; missed = old.missed; idle = λ idle. absurd (omega (arith, idle, room)) });
          } where
            fewer : Dec (1 ≤ sum_by missed_by s.views) → sum_by drawn_by s.views + sum_by missed_by s.views < most → sum_by missed_by s.views ≡ 0
            fewer (yes one) below = let every = rule.all one in absurd (omega (arith, every, below))
            fewer (no not) below = let few = lt_of_not-le not in omega (arith, few)

      found_none : v.most ≤ slice_index s.words 0 → Keeps most (record { words = set s.words 0 ((slice_index s.words 0 + 1) % 2 ^ 64); homes = s.homes; views = set s.views id (missing v) })
      found_none past =
          let d = sum_by-put drawn_by s.views id v (missing v) at in
          let m = sum_by-put missed_by s.views id v (missing v) at in
          let p = sum_by-put parts_of s.views id v (missing v) at in
          let n = found_is in
          let old = rule.each id v at in
          let every : sum_by drawn_by s.views ≡ most = full (dec_le 1 (sum_by missed_by s.views)) in
          record {
            few = rule.few;
            words = word_is (missing v) (omega (arith, d, m));
            whole = omega (arith, p, rule.whole);
            within = omega (arith, d, rule.within);
            all = λ one. omega (arith, d, every);
            each = each_put (missing v) (record { most_is = old.most_is; missed = omega (arith, room); idle = λ idle. absurd (omega (arith, idle, room)) });
          } where
            full : Dec (1 ≤ sum_by missed_by s.views) → sum_by drawn_by s.views ≡ most
            full (yes one) = rule.all one
            full (no not) = let few = lt_of_not-le not in omega (arith, few, found_is, past, own, rule.within)

  -- a draw
  pub draws : (most slots id : ℕ) (me : Me S Hand) → me.0.missed < me.0.parts → Allows (Keeps most) slots id me 0 (λ n. (n + 1) % 2 ^ 64) (Draws me)
  draws most slots id me room s rule long at fits =
      elim (dec_le me.0.most (slice_index s.words 0)) [
        | yes past ↦ (missing me.0, keeps, tt, found_none most s rule id me.0 at room past, record { drawn = λ less. absurd (omega (arith, less, past)); none = λ _. refl; slots = refl })
        | no not ↦
            let less = lt_of_not-le not in
            (one_more me.0, keeps, tt, drawn_one most s rule id me.0 at room less, record { drawn = λ _. refl; none = λ past. absurd (omega (arith, less, past)); slots = refl })
      ]

  -- a look
  pub looks : (most slots id : ℕ) (me : Me S Hand) → Allows (Keeps most) slots id me 0 (λ n. n) (Looks me)
  looks most slots id me s rule long at fits =
      let v = me.0 in (
        v,
        keeps,
        tt,
        subst (Keeps most) (ap (λ vs. record { words = s.words; homes = s.homes; views = vs }) (sym (set_again s.views id v at))
            ∙ ap (λ ws. record { words = ws; homes = s.homes; views = set s.views id v }) (ap (λ ws. ws) rule.words ∙ sym (ap (λ ws. set ws 0 (slice_index ws 0)) rule.words))) rule,
        record {
          same = refl;
          all = λ whole one.
              let d = sum_by-put drawn_by s.views id v spent at in
              let p = sum_by-put parts_of s.views id v spent at in
              let others = sum_by-none parts_of drawn_by (set s.views id spent) (omega (arith, p, whole, rule.whole))
              (λ j u there none. ⊎_elim (λ t. ap drawn_by (sym t.1)) (λ t. (rule.each j u t.1).idle none) (at_set s.views id j spent u there)) in
              let own = (rule.each id v at).most_is (omega (arith, whole)) in
              let every = rule.all (let m = sum_by-at missed_by s.views id v at in omega (arith, m, one)) in
              omega (arith, d, others, own, every);
        },
      )

  -- a part is divided off
  pub divides : (most id : ℕ) (v : Hand) → v.missed + 1 < v.parts → Splits {S = S} (Keeps most) id v (kept v) (part v)
  divides most id v others s rule at =
      let old = rule.each id v at in
      let left = kept v in
      let right = part v in
      let own : v.most ≡ most = old.most_is (omega (arith, others)) in
      let here : Fits most left = record { most_is = λ one. own; missed = omega (arith, others); idle = λ idle. absurd (omega (arith, idle, others)) } in
      let there : Fits most right = record { most_is = λ one. own; missed = omega arith; idle = λ idle. refl } in
      let d = sum_by-put drawn_by s.views id v left at in
      let m = sum_by-put missed_by s.views id v left at in
      let p = sum_by-put parts_of s.views id v left at in
      let dd = sum_by-push drawn_by (set s.views id left) right in
      let mm = sum_by-push missed_by (set s.views id left) right in
      let pp = sum_by-push parts_of (set s.views id left) right in
      let drawn : sum_by drawn_by (set s.views id left ++ right ∷ []) ≡ sum_by drawn_by s.views = omega (arith, d, dd) in
      let missed : sum_by missed_by (set s.views id left ++ right ∷ []) ≡ sum_by missed_by s.views = omega (arith, m, mm) in
      record {
        few = rule.few;
        words = rule.words ∙ ap (λ k. k ∷ []) (omega (arith, drawn, missed));
        whole = omega (arith, p, pp, rule.whole, others);
        within = omega (arith, drawn, rule.within);
        all = λ one. drawn ∙ rule.all (omega (arith, one, missed));
        each = λ j u at_j. ⊎_elim (λ t. each_put most s rule id v at left here j u t) (λ t. subst (Fits most) t there) (at_snoc (set s.views id left) right u j at_j);
      }

  -- a share takes another in
  pub joins : (most id other : ℕ) (v w : Hand) → 0 < v.parts → Joins {S = S} (Keeps most) id v other w (joined v w) spent
  joins most id other v w some_part s rule at apart there =
      let both = joined v w in
      let was : get_elem? s.views other ≡ some w = ⊎_elim (λ t. absurd (apart t.0)) (λ t. t.1) (at_set s.views id other both w there) in
      let old = rule.each id v at in
      let taken = rule.each other w was in
      let own : v.most ≡ most = old.most_is some_part in
      let here : Fits most both = record { most_is = λ one. own; missed = omega (arith, old.missed, taken.missed); idle = λ idle. absurd (omega (arith, idle, some_part)) } in
      let nothing : Fits most spent = record { most_is = λ one. absurd (omega (arith, one)); missed = omega arith; idle = λ idle. refl } in
      let d = sum_by-put drawn_by s.views id v both at in
      let m = sum_by-put missed_by s.views id v both at in
      let p = sum_by-put parts_of s.views id v both at in
      let dd = sum_by-put drawn_by (set s.views id both) other w spent there in
      let mm = sum_by-put missed_by (set s.views id both) other w spent there in
      let pp = sum_by-put parts_of (set s.views id both) other w spent there in
      let drawn : sum_by drawn_by (set (set s.views id both) other spent) ≡ sum_by drawn_by s.views = omega (arith, d, dd) in
      let missed : sum_by missed_by (set (set s.views id both) other spent) ≡ sum_by missed_by s.views = omega (arith, m, mm) in
      record {
        few = rule.few;
        words = rule.words ∙ ap (λ k. k ∷ []) (omega (arith, drawn, missed));
        whole = omega (arith, p, pp, rule.whole);
        within = omega (arith, drawn, rule.within);
        all = λ one. drawn ∙ rule.all (omega (arith, one, missed));
        each = λ j u at_j. ⊎_elim (λ t. subst (Fits most) t.1 nothing) (λ t. each_put most s rule id v at both here j u t.1) (at_set (set s.views id both) other j spent u at_j);
      }
