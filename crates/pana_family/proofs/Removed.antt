-- The table of relations after a Remove, where no stamps are compared.
use Rattle.pana_family.proofs.Words.{◌≡◌, ◌≢◌, ℕ, true, ◌==◌, List, Option, Some, None, Contains, filter_map, refl, sym, ap, subst, ◌∙◌, inl, inr, arith, cases_Bool, nat_tests}
use Rattle.pana_family.proofs.Words.{Event, IsRelation, Table, Holds, rel_of, without, StampRow, Remove, In, lives, is_copy, ArePaired, IsReady, comes, made, passed, passed_row, reported_rows, settled}
use Rattle.pana_family.proofs.{Members.in_append, Members.in_left, Members.not_held, Places.free_from, Images.in_made, Images.to_made, Keeps.made_stays}
use Rattle.pana_family.proofs.Copies.{in_without_copy, lives_from, living_at, without_other}

-- what is left of a copy's row
left_is : (n c : ℕ) (h : Option ℕ) (rows : List StampRow) (r x : StampRow) → h ≢ Some c → made n (Remove c h) rows r ≡ Some x → (x.stamp.event ≡ r.stamp.event) × (r.copy ≢ c)
left_is n c None rows r x differ is = grind (arith, nat_tests)
left_is n c (Some h) rows r x differ is = grind (arith, nat_tests)

-- another copy's row stays
stays : (n c : ℕ) (h : Option ℕ) (rows : List StampRow) (r : StampRow) → r.holder ≡ None → r.copy ≢ c → (x : StampRow) × (made n (Remove c h) rows r ≡ Some x) × (x.copy ≡ r.copy) × (x.holder ≡ None)
stays n c None rows r free ne = (r, grind (arith, nat_tests, not_held), refl, free)
stays n c (Some h) rows r free ne = elim (cases_Bool (r.copy == h)) [
  | inl e ↦ (settled (Some c) rows r.stamp r.touch r, grind (arith, nat_tests), refl, free)
  | inr other ↦ (passed_row c h r, grind (arith, nat_tests, not_held), refl, ap (passed c h) free)
]

-- a parcel that comes is no copy
parcel_comes : (n c : ℕ) (h : Option ℕ) (rows : List StampRow) (x : StampRow) → In x (comes n (Remove c h) rows) → x.holder ≢ None
parcel_comes n c None rows x i = absurd i
parcel_comes n c (Some h) rows x i = grind (arith, nat_tests)

-- a copy's row was one before, with its event
was_one : (n c : ℕ) (h : Option ℕ) (rows : List StampRow) → h ≢ Some c → (x : StampRow) → In x (reported_rows n (Remove c h) rows) → x.holder ≡ None
    → (r : StampRow) × In r rows × (r.copy ≡ x.copy) × (r.holder ≡ None) × (r.stamp.event ≡ x.stamp.event) × (x.copy ≢ c)
was_one n c h rows differ x i free = elim (in_append x (filter_map (made n (Remove c h) rows) rows) (comes n (Remove c h) rows) i) [
  | inl j ↦
      let m = in_made (made n (Remove c h) rows) rows x j in
      let k = made_stays n (Remove c h) rows m.0 x m.2 in
      let l = left_is n c h rows m.0 x differ m.2 in
      (m.0, m.1, sym k.0, free_from m.0.holder (sym k.1 ∙ ap is_copy free), sym l.0, λ e. l.1 (sym k.0 ∙ e))
  | inr j ↦ absurd (parcel_comes n c h rows x j free)
]

pub removed_paired : (n c : ℕ) (h : Option ℕ) (rows new : List StampRow) (pairs pairs' : Table) → IsReady n (Remove c h) rows → new ≡ reported_rows n (Remove c h) rows → ArePaired rows pairs
    → pairs'.copies ≡ without c pairs.copies → Holds pairs' (rel_of pairs) → ArePaired new pairs'
removed_paired n c h rows new pairs pairs' w is p out holds =
    let differ : h ≢ Some c = w.able.2 in
    let before : (x : StampRow) → In x new → x.holder ≡ None → (r : StampRow) × In r rows × (r.copy ≡ x.copy) × (r.holder ≡ None) × (r.stamp.event ≡ x.stamp.event) × (x.copy ≢ c) =
    λ x i free. was_one n c h rows differ x (subst (In x) is i) free in
    let in_new : (d : ℕ) → lives rows d ≡ true → d ≢ c → Contains pairs'.copies d = λ d alive ne. subst (λ (cs : List ℕ). Contains cs d) (sym out) (without_other c d pairs.copies ((p.copies d).1 alive) ne) in
    record {
      copies = λ d. (
        (λ here. let k = in_without_copy c d pairs.copies (subst (λ (cs : List ℕ). Contains cs d) out here) in
            let r = living_at rows d ((p.copies d).0 k.0) in
            let x = stays n c h rows r.0 r.3 (λ e. k.1 (sym r.2 ∙ e)) in
            subst (λ (m : ℕ). lives new m ≡ true) (x.2 ∙ r.2)
            (lives_from new x.0 (subst (In x.0) (sym is) (in_left x.0 (filter_map (made n (Remove c h) rows) rows) (comes n (Remove c h) rows) (to_made (made n (Remove c h) rows) rows r.0 x.0 r.1 x.1))) x.3)),
        λ alive. let x = living_at new d alive in
            let r = before x.0 x.1 x.3 in
            in_new d (subst (λ (m : ℕ). lives rows m ≡ true) (r.2 ∙ x.2) (lives_from rows r.0 r.1 r.3)) (λ e. r.5 (x.2 ∙ e)),
      );
      rels = λ x y i j free also ne.
          let r = before x i free in
          let q = before y j also in
          let was : IsRelation r.0.stamp.event q.0.stamp.event (rel_of pairs r.0.copy q.0.copy) = p.rels r.0 q.0 r.1 q.1 r.3 q.3 (λ e. ne (sym r.2 ∙ e ∙ q.2)) in
          let same : rel_of pairs' x.copy y.copy ≡ rel_of pairs r.0.copy q.0.copy =
          holds x.copy y.copy (in_new x.copy (subst (λ (m : ℕ). lives rows m ≡ true) r.2 (lives_from rows r.0 r.1 r.3)) r.5) (in_new y.copy (subst (λ (m : ℕ). lives rows m ≡ true) q.2 (lives_from rows q.0 q.1 q.3)) q.5)
          ∙ sym (ap (λ (m : ℕ). rel_of pairs m q.0.copy) r.2 ∙ ap (rel_of pairs x.copy) q.2) in
          subst (IsRelation x.stamp.event y.stamp.event) (sym same)
          (subst (λ (e : Event). IsRelation x.stamp.event e (rel_of pairs r.0.copy q.0.copy)) q.4 (subst (λ (e : Event). IsRelation e q.0.stamp.event (rel_of pairs r.0.copy q.0.copy)) r.4 was));
    }
