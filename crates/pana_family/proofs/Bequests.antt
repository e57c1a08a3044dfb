-- A copy goes, and its heir holds it as a parcel, and what it held, and is settled.
use Rattle.pana_family.proofs.Words.{◌≡◌, ◌≢◌, ℕ, Bool, true, false, cond, not, ◌&&◌, ◌||◌, ◌==◌, List, [], ◌∷◌, Option, Some, None, refl, sym, ap, subst, ◌∙◌, inl, inr, arith, and_parts, both_ways}
use Rattle.pana_family.proofs.Words.{cases_Bool, eq-eqb, nat_tests, Event, is_leq, leq-is-below, Stamp, StampRow, Remove, is_within, is_held, passed, Known, In, parcel, set_in, AreSame, StandsFor}
use Rattle.pana_family.proofs.Words.{AreBefore, IsRising, stamp, with_ids, AreSound, IsKept, bequeathed, ends, parcel_row, settled, CanGather, IsRowOf, passed_row, is_bound}
use Rattle.pana_family.specs.Table.{ends as over}
use Rattle.pana_family.proofs.{Sound.Sound, Sound.Renumbered, Sums.Gathered, Sums.gathers, Sums.within_is}
use Rattle.pana_family.proofs.Members.{Holds, held, holds_found, one_known, one_row, set_of, to_sound}
use Rattle.pana_family.proofs.Tables.{comes_known, made_known, pass, passed_heir}
use Rattle.pana_family.proofs.Images.{Alike, Outcome, some, alike_row, stay_outcome}

-- the rows of a copy that goes with entry n, and of its heir
pub record AreHeirs (rows : List StampRow) (n c h : ℕ) (r q : StampRow) : Type 0 where
  pub rising : IsRising 0 rows
  pub before : AreBefore n rows
  pub gone : IsRowOf rows c r
  pub heir : IsRowOf rows h q
  pub differ : h ≢ c

abbrev number : ℕ → ℕ → StampRow → ℕ
number n c z = cond (z.copy == c) n z.copy

-- what ends isn't the heir
not_heir : (rows : List StampRow) (n c h : ℕ) (r q z : StampRow) → AreHeirs rows n c h r q → In z rows → ends (Some c) h q.stamp.event z ≡ true → z.copy ≢ h
not_heir rows n c h r q z w i t e = grind (arith, nat_tests, one_row)

pub heir_gather : (rows : List StampRow) (n c h : ℕ) (r q : StampRow) → IsKept rows → AreSound rows → AreHeirs rows n c h r q → CanGather (Some c) rows h q.stamp
heir_gather rows n c h r q k fine w = record {
  valid = (fine q w.heir.there).0;
  apart = λ z i t. k.stands.apart q z w.heir.there i (λ e. not_heir rows n c h r q z w i t (sym e ∙ w.heir.named));
}

number_same : (rows : List StampRow) (n c h : ℕ) (r q y z : StampRow) → AreHeirs rows n c h r q → In y rows → In z rows → number n c y ≡ number n c z → y ≡ z
number_same rows n c h r q y z w i j e = grind (arith, nat_tests, one_row)

heir_number : (rows : List StampRow) (n c h : ℕ) (r q : StampRow) → AreHeirs rows n c h r q → number n c q ≡ h
heir_number rows n c h r q w = grind (arith, nat_tests)

-- the heir's number is another's
number_other : (rows : List StampRow) (n c h : ℕ) (r q z : StampRow) → AreHeirs rows n c h r q → In z rows → z.copy ≢ h → number n c z ≢ h
number_other rows n c h r q z w i ne e = grind (arith, nat_tests)

-- What copies hold.

-- the copy's stamp and set are the parcel's
abbrev Wrapped : List StampRow → List Known → ℕ → ℕ → ℕ → Stamp → List ℕ → Type 0
Wrapped rows table n c = Renumbered (Holds rows table) (λ k. cond (k == c) n k)

abbrev pub Bequeathed : List StampRow → List Known → ℕ → ℕ → ℕ → StampRow → ℕ → Stamp → List ℕ → Type 0
Bequeathed rows table n c h q = Gathered (Wrapped rows table n c) h q.stamp rows (number n c) (ends (Some c) h q.stamp.event)

pub bequeathed_sound : (rows : List StampRow) (table : List Known) (n c h : ℕ) (r q : StampRow) → AreSound rows → AreHeirs rows n c h r q → StandsFor rows table → Sound (Bequeathed rows table n c h q)
bequeathed_sound rows table n c h r q fine w st =
    let heir = alike_row rows table st.same q w.heir.there in
    gathers (Wrapped rows table n c) h q.stamp heir.0.set rows (number n c) (ends (Some c) h q.stamp.event) fine (fine q w.heir.there).0
    (grind (arith, nat_tests)) (q.copy, held rows table q heir.0 w.heir.there heir.1 heir.2.copy, heir_number rows n c h r q w)
    (λ z i t. let k = alike_row rows table st.same z i in record {
      other = number_other rows n c h r q z w i (not_heir rows n c h r q z w i t);
      set = k.0.set;
      there = (z.copy, held rows table z k.0 i k.1 k.2.copy, refl);
      below = leq-is-below z.stamp.event q.stamp.event (fine z i).1.shallow (fine q w.heir.there).1.shallow (and_parts (is_bound (Some c) z || is_held h z.holder) (is_leq z.stamp.event q.stamp.event) t).1;
    })

-- a row that doesn't end keeps what it holds, the removed copy's under another number
kept_holds : (rows : List StampRow) (table : List Known) (n c h : ℕ) (r q z : StampRow) (t : Known) → AreHeirs rows n c h r q → In z rows → In t table → z.copy ≡ t.copy → z.copy ≢ h → ends (Some c) h q.stamp.event z ≡ false
    → Bequeathed rows table n c h q (number n c z) z.stamp t.set
kept_holds rows table n c h r q z t w i j same ne stays = inr (
  (
    (z.copy, held rows table z t i j same, refl),
    λ s end. both_ways (ends (Some c) h q.stamp.event z) stays (ap (ends (Some c) h q.stamp.event) (number_same rows n c h r q z end.0 w i end.1 (sym end.3)) ∙ end.2),
  ),
  number_other rows n c h r q z w i ne,
)

-- the heir holds what it held, and what the copy held
passed_held : (c h : ℕ) (o : Option ℕ) → is_held h (passed c h o) ≡ (is_held c o || is_held h o)
passed_held c h o = grind (arith, nat_tests)

-- a row's event is below the heir's exactly where its set is within the heir's
within_heir : (rows : List StampRow) (table : List Known) (n c h : ℕ) (r q z : StampRow) (t : Known) → AreSound rows → AreHeirs rows n c h r q → StandsFor rows table → In z rows → In t table → z.copy ≡ t.copy
    → is_leq z.stamp.event q.stamp.event ≡ is_within t.set (set_in table h)
within_heir rows table n c h r q z t fine w st i j same =
    subst (λ (d : ℕ). is_leq z.stamp.event q.stamp.event ≡ is_within t.set (set_in table d)) w.heir.named
    (within_is (Holds rows table) z.copy q.copy z.stamp q.stamp t.set (set_in table q.copy) (to_sound rows table st) (held rows table z t i j same) (holds_found rows table st.same q w.heir.there) (fine z i).1 (fine q w.heir.there).1)

heir_outcome : (rows : List StampRow) (table : List Known) (n c h : ℕ) (r q : StampRow) (t : Known) → AreHeirs rows n c h r q → In t table → Alike q t
    → Outcome (Bequeathed rows table n c h q) (bequeathed c h q.stamp.event rows q) (made_known n (Remove c (Some h)) table t)
heir_outcome rows table n c h r q t w j like =
    let free : t.holder ≡ None = sym like.holder ∙ w.heir.free in
    let still : (pass c h t).holder ≡ None = ap (passed c h) free in
    let other : t.copy ≢ c = λ e. w.differ (sym w.heir.named ∙ like.copy ∙ e) in
    let x : StampRow = settled (Some c) rows q.stamp q.touch q in
    let rest : Option StampRow = cond (q.copy == c || ends (Some c) h q.stamp.event q) None (Some (passed_row c h q)) in
    some x (pass c h t) (grind (arith, nat_tests))
    (grind (arith, nat_tests))
    record { copy = like.copy; touch = like.touch; holder = w.heir.free ∙ sym still }
    (inl (w.heir.named, ap (λ (k : ℕ). stamp (with_ids (ends (Some c) k q.stamp.event) q.stamp.id rows) q.stamp.event) w.heir.named, (q.copy, held rows table q t w.heir.there j like.copy, heir_number rows n c h r q w)))

pub bequeathed_outcome : (rows : List StampRow) (table : List Known) (n c h : ℕ) (r q : StampRow) → AreSound rows → AreHeirs rows n c h r q → StandsFor rows table → (z : StampRow) (t : Known) → In z rows → In t table → Alike z t
    → Outcome (Bequeathed rows table n c h q) (bequeathed c h q.stamp.event rows z) (made_known n (Remove c (Some h)) table t)
bequeathed_outcome rows table n c h r q fine w st z t i j like =
    let P : ℕ → Stamp → List ℕ → Type 0 = Bequeathed rows table n c h q in
    let e : Event = q.stamp.event in
    let x : StampRow = settled (Some c) rows z.stamp z.touch z in
    let y : StampRow = passed_row c h z in
    let k : Known = pass c h t in
    let out : Bool = over h (set_in table h) k in
    elim (cases_Bool (z.copy == h)) [
      | inl f ↦
          let is : z ≡ q = grind (arith, nat_tests, one_row) in
          subst (λ (v : StampRow). Outcome P (bequeathed c h e rows v) (made_known n (Remove c (Some h)) table t)) (sym is) (heir_outcome rows table n c h r q t w j (subst (λ (v : StampRow). Alike v t) is like))
      | inr not_h ↦
          let first : bequeathed c h e rows z ≡ cond (z.copy == c || ends (Some c) h e z) None (Some y) = grind (arith, nat_tests) in
          elim (cases_Bool (z.copy == c)) [
            | inl f ↦ grind (arith, nat_tests)
            | inr not_c ↦
                let same : ends (Some c) h e z ≡ out =
                ap (λ (b : Bool). ((b || is_held c z.holder) || is_held h z.holder) && is_leq z.stamp.event e) not_c ∙ ap (λ (b : Bool). b && is_leq z.stamp.event e) (sym (passed_held c h z.holder))
                ∙ ap (λ (o : Option ℕ). is_held h (passed c h o) && is_leq z.stamp.event e) like.holder ∙ ap (λ (b : Bool). is_held h k.holder && b) (within_heir rows table n c h r q z t fine w st i j like.copy) in
                subst (λ (o : Option StampRow). Outcome P o (made_known n (Remove c (Some h)) table t)) (grind (arith, nat_tests))
                (subst (λ (o : Option Known). Outcome P (cond (ends (Some c) h e z) None (Some y)) o) (grind (arith, nat_tests))
                (stay_outcome P (ends (Some c) h e z) out y k same record { copy = like.copy; touch = like.touch; holder = ap (passed c h) like.holder }
                (λ stays. subst (λ (m : ℕ). P m z.stamp t.set) (ap (λ (b : Bool). cond b n z.copy) not_c) (grind (arith, nat_tests, kept_holds)))))
          ]
    ]

-- The parcel that comes.

abbrev pub parcel_left : ℕ → ℕ → StampRow → StampRow → List StampRow
parcel_left n h r q = cond (is_leq r.stamp.event q.stamp.event) [] (parcel_row n h r.stamp ∷ [])

-- the copy ends exactly where its heir knows its set
gone_ends : (rows : List StampRow) (table : List Known) (n c h : ℕ) (r q : StampRow) → AreSound rows → AreHeirs rows n c h r q → StandsFor rows table
    → over h (set_in table h) (pass c h (parcel n h (set_in table c))) ≡ is_leq r.stamp.event q.stamp.event
gone_ends rows table n c h r q fine w st =
    let t = alike_row rows table st.same r w.gone.there in
    let own : set_in table c ≡ t.0.set = grind (arith, nat_tests, set_of, one_known) in
    cc (passed_heir c h, eq-eqb h h refl, within_heir rows table n c h r q r t.0 fine w st w.gone.there t.1 t.2.copy)

pub parcel_comes : (rows : List StampRow) (table : List Known) (n c h : ℕ) (r q : StampRow) → AreSound rows → AreHeirs rows n c h r q → StandsFor rows table → AreSame (parcel_left n h r q) (comes_known n (Remove c (Some h)) table)
parcel_comes rows table n c h r q fine w st =
    let own : Known = pass c h (parcel n h (set_in table c)) in
    subst (λ (b : Bool). AreSame (parcel_left n h r q) (cond (not b) (own ∷ []) [])) (sym (gone_ends rows table n c h r q fine w st))
    (grind (arith, nat_tests))

-- there is one only where the copy doesn't end
pub left_is : (n h : ℕ) (r q x : StampRow) → In x (parcel_left n h r q) → (x ≡ parcel_row n h r.stamp) × (is_leq r.stamp.event q.stamp.event ≡ false)
left_is n h r q x i = grind (arith, nat_tests)

pub parcel_holds : (rows : List StampRow) (table : List Known) (n c h : ℕ) (r q : StampRow) → AreHeirs rows n c h r q → StandsFor rows table → (x : StampRow) (s : Known) → In x (parcel_left n h r q) → In s (comes_known n (Remove c (Some h)) table)
    → Bequeathed rows table n c h q x.copy x.stamp s.set
parcel_holds rows table n c h r q w st x s i j =
    let P : ℕ → Stamp → List ℕ → Type 0 = Bequeathed rows table n c h q in
    let own : Known = pass c h (parcel n h (set_in table c)) in
    let is = left_is n h r q x i in
    let t = alike_row rows table st.same r w.gone.there in
    let at : (r.copy == c) ≡ true = eq-eqb r.copy c w.gone.named in
    let stays : ends (Some c) h q.stamp.event r ≡ false = grind (arith, nat_tests) in
    let set_is : t.0.set ≡ set_in table c = grind (arith, nat_tests, set_of, one_known) in
    let known : s.set ≡ set_in table c = grind (arith, nat_tests) in
    subst (λ (v : StampRow). P v.copy v.stamp s.set) (sym is.0) (subst (P n r.stamp) (set_is ∙ sym known)
    (subst (λ (m : ℕ). P m r.stamp t.0.set) (ap (λ (b : Bool). cond b n r.copy) at) (kept_holds rows table n c h r q r t.0 w w.gone.there t.1 t.2.copy (λ e. w.differ (sym e ∙ w.gone.named)) stays)))
