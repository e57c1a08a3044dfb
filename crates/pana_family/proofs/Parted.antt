-- Two copies have parts of a stamp where there is no parcel: no id is added to theirs, and their rows alone change.
use Rattle.pana_family.proofs.Words.{◌≡◌, ◌≢◌, ℕ, Bool, true, false, cond, ◌&&◌, ◌==◌, List, [], ◌∷◌, ◌++◌, filter_map, Option, Some, None, append-nil, refl, sym, ap, ◌∙◌, inl, inr, cases_Bool, ne_eqb, eqb-true, arith, nat_tests}
use Rattle.pana_family.proofs.Words.{Id, sum_of, is_leq, Event, Stamp, StampRow, is_held, In, IsRising, put_back, stamp, ends, restamped, settled, shared, IsRowOf, cons_option}
use Rattle.std.specs.List.{list_all}
use Rattle.pana_family.specs.Holders.{is_copy}
use Rattle.pana_family.specs.Rows.{with_ids}
use Rattle.pana_family.proofs.{Images.rising_made, Images.to_made, Planned.put_there}

-- where all rows are copies' none has a holder
pub are_free : (rows : List StampRow) → list_all (λ r. is_copy r.holder) rows ≡ true → (r : StampRow) → In r rows → r.holder ≡ None
are_free [] all r i = absurd i
are_free (q ∷ rows) all r (inl same) = ap (λ (w : StampRow). w.holder) same ∙ free q.holder (grind (arith, nat_tests))
  where
    free : (holder : Option ℕ) → is_copy holder ≡ true → holder ≡ None
    free None is = refl
    free (Some holder) is = absurd (cc)
are_free (q ∷ rows) all r (inr i) = are_free rows (grind (arith, nat_tests)) r i

-- what isn't held doesn't end
ends_not : (c : ℕ) (e : Event) (r : StampRow) → r.holder ≡ None → ends None c e r ≡ false
ends_not c e r is = ap (λ (h : Option ℕ). is_held c h && is_leq r.stamp.event e) is

-- where no row passes the test no id is added
none_added : (test : StampRow → Bool) (i : Id) (rows : List StampRow) → ((r : StampRow) → In r rows → test r ≡ false) → with_ids test i rows ≡ i
none_added test i [] none = refl
none_added test i (r ∷ rows) none =
    ap (λ (b : Bool). with_ids test (cond b (sum_of i r.stamp.id) i) rows) (none r (inl refl)) ∙ none_added test i rows (λ q j. none q (inr j))

-- the row of a copy with its part, and any other as it is
abbrev pub parted : ℕ → ℕ → Stamp → StampRow → StampRow
parted n c s r = cond (r.copy == c) (restamped s n r) r

-- so a copy that is settled has its part alone
settled_alone : (rows : List StampRow) (s : Stamp) (n : ℕ) (r : StampRow) → ((q : StampRow) → In q rows → q.holder ≡ None) → settled None rows s n r ≡ restamped s n r
settled_alone rows s n r free =
    ap (λ (i : Id). restamped (stamp i s.event) n r) (none_added (ends None r.copy s.event) s.id rows (λ q j. ends_not r.copy s.event q (free q j)))

-- what becomes of a row
shared_alone : (rows : List StampRow) (n a b : ℕ) (s t : Stamp) (r : StampRow) → ((q : StampRow) → In q rows → q.holder ≡ None) → In r rows → a ≢ b
    → Some (parted n b t (parted n a s r)) ≡ shared n a b s t rows r
shared_alone rows n a b s t r free i differ =
    let first = settled_alone rows s n r free in
    let second = settled_alone rows t n r free in
    let not_first = ends_not a s.event r (free r i) in
    let not_second = ends_not b t.event r (free r i) in
    elim (cases_Bool (r.copy == a)) [
      | inl is ↦ let other : (r.copy == b) ≡ false = ne_eqb r.copy b (λ same. differ (sym (eqb-true r.copy a is) ∙ same)) in grind (arith, nat_tests)
      | inr not ↦ elim (cases_Bool (r.copy == b)) [
        | inl is ↦ grind (arith, nat_tests)
        | inr none ↦ grind (arith, nat_tests)
      ]
    ]

-- one change of each row behind another
fused : (f g : StampRow → StampRow) (both : StampRow → Option StampRow) (rows : List StampRow) → ((r : StampRow) → In r rows → Some (g (f r)) ≡ both r)
    → filter_map (λ r. Some (g r)) (filter_map (λ r. Some (f r)) rows) ≡ filter_map both rows
fused f g both [] same = refl
fused f g both (r ∷ rows) same =
    ap (λ (l : List StampRow). g (f r) ∷ l) (fused f g both rows (λ q j. same q (inr j)))
    ∙ ap (λ (o : Option StampRow). cons_option o (filter_map both rows)) (same r (inl refl))

-- the rows of two copies take the places of theirs
pub share_exact : (rows : List StampRow) (n a b : ℕ) (r q : StampRow) (s t : Stamp) → IsRising 0 rows → list_all (λ r. is_copy r.holder) rows ≡ true → IsRowOf rows a r → IsRowOf rows b q → a ≢ b
    → put_back (restamped t n q) (put_back (restamped s n r) rows) ≡ filter_map (shared n a b s t rows) rows ++ []
share_exact rows n a b r q s t up all first second differ =
    let f : StampRow → StampRow = parted n a s in
    let g : StampRow → StampRow = parted n b t in
    let once : List StampRow = filter_map (λ p. Some (f p)) rows in
    let named : (p x : StampRow) → Some (f p) ≡ Some x → x.copy ≡ p.copy = λ p x is. grind (arith, nat_tests) in
    let rising : IsRising 0 once = rising_made 0 (λ p. Some (f p)) rows named up in
    let stays : Some (f q) ≡ Some q = ap (λ (v : Bool). Some (cond v (restamped s n q) q)) (ne_eqb q.copy a (λ same. differ (sym same ∙ second.named))) in
    let there : In q once = to_made (λ p. Some (f p)) rows q q second.there stays in
    ap (put_back (restamped t n q)) (put_there 0 (restamped s n r) r (λ p. restamped s n p) rows up first.there refl refl
    ∙ ap (λ (k : ℕ). filter_map (λ p. Some (cond (p.copy == k) (restamped s n p) p)) rows) first.named)
    ∙ put_there 0 (restamped t n q) q (λ p. restamped t n p) once rising there refl refl
    ∙ ap (λ (k : ℕ). filter_map (λ p. Some (cond (p.copy == k) (restamped t n p) p)) once) second.named
    ∙ fused f g (shared n a b s t rows) rows (λ p i. shared_alone rows n a b s t p (are_free rows all) i differ)
    ∙ sym (append-nil (filter_map (shared n a b s t rows) rows))
