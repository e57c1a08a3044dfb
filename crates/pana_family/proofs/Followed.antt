-- The table of relations after an Edit and a Duplicate, where no stamps are compared.
use Rattle.pana_family.proofs.Words.{◌≡◌, ◌≢◌, ◌↔◌, ℕ, ◌+◌, ◌≤◌, Bool, true, false, cond, ◌==◌, ◌||◌, List, [], ◌∷◌, Option, Some, None, Contains, length, option_map, refl, sym, ap, subst, ◌∙◌, inl}
use Rattle.pana_family.proofs.Words.{inr, arith, cases_Bool, eq-eqb, eqb-true, eqb-false, ne_eqb, or_parts, append-nil, nat_tests, Id, AtPoints, Event, level, IsRelation, Rel, Equal, Table, Holds}
use Rattle.pana_family.proofs.Words.{rel_of, with_copy, with_row, IsRaised, StampRow, FamilyReport, Duplicate, Edit, has, In, IsRising, copy_rows, lives, renewed, row, row_at, row_in, mapped}
use Rattle.pana_family.proofs.Words.{ArePaired, IsReady, first_part, reported_rows, restamped, second_part, updated_stamp, edited_rel, edited_row}
use Rattle.pana_id.specs.Id.{has as owns}
use Rattle.pana_family.proofs.{Members.in_right, Members.one_row, Places.row_in_at, Inverses.in_from_at, Inverses.named_at, Inverses.row_renewed, Compared.row_compared}
use Rattle.pana_family.proofs.{Keeps.edit_raised, Keeps.row_lives, Exacts.rising_reported}
use Rattle.pana_family.proofs.Copies.{ByPlaces, in_with_copy, lives_from, living_at, with_copy_new, with_copy_old}
use Rattle.pana_family.proofs.Following.{all_followed, followed_from, look, room_for, row_pushed, seen_lives, seen_row}

-- One row is changed.

-- a raised event relates to one that is nowhere above the old event where the id owns the point
raised_relates : (i : Id) (e new f : Event) (rel : Rel) → IsRaised i e new → AtPoints (λ p. owns i p ≡ true → level f p ≤ level e p) → IsRelation e f rel → IsRelation new f (edited_rel rel)
raised_relates i e new f rel up owner is = grind (arith, nat_tests)

-- x is the row of a number, and those of others look as they did
record IsChanged (n : ℕ) (x : StampRow) (rows new : List StampRow) : Type 0 where
  up : IsRising 0 rows
  rising : IsRising 0 new
  free : x.holder ≡ None
  there : row_at new n ≡ Some x
  same : (m : ℕ) → has (n ∷ []) m ≡ false → look (row_at rows m) ≡ look (row_at new m)

other : (n m : ℕ) → m ≢ n → has (n ∷ []) m ≡ false
other n m ne = ap (λ (b : Bool). b || false) (ne_eqb n m (λ e. ne (sym e)))

-- the table has that number and those that it had, and x relates to each as it says
change_paired : (n : ℕ) (x : StampRow) (relate : ℕ → Rel) (rows new : List StampRow) (pairs pairs' : Table) → IsChanged n x rows new → ArePaired rows pairs
    → Contains pairs'.copies n → ((m : ℕ) → m ≢ n → Contains pairs'.copies m ↔ Contains pairs.copies m) → Holds pairs' (with_row n relate (rel_of pairs))
    → ((q : StampRow) → In q rows → q.holder ≡ None → q.copy ≢ n → IsRelation x.stamp.event q.stamp.event (relate q.copy)) → ArePaired new pairs'
change_paired n x relate rows new pairs pairs' h p here others holds own =
    let f = followed_from rows new (n ∷ []) pairs h.up h.rising h.same p in
    let x_in : In x new = in_from_at new n x h.there in
    let named : x.copy ≡ n = named_at new n x h.there in
    let copies : (m : ℕ) → Contains pairs'.copies m ↔ (lives new m ≡ true) = λ m. elim (cases_Bool (m == n)) [
      | inl e ↦ ((λ _. subst (λ (k : ℕ). lives new k ≡ true) (named ∙ sym (eqb-true m n e)) (lives_from new x x_in h.free)), λ _. subst (Contains pairs'.copies) (sym (eqb-true m n e)) here)
      | inr ne ↦ let differs = eqb-false m n ne in
          ((λ c. f.inside m (other n m differs) ((others m differs).0 c)), λ l. (others m differs).1 (f.there m (other n m differs) l))
    ] in
    all_followed new pairs' copies (row_compared n x relate new pairs pairs' [] h.rising x_in named copies holds
    (λ y i free ne.
    let q = seen_row new rows y.copy y (h.same y.copy (other n y.copy ne)) (row_in_at 0 y new h.rising i) in
    subst (λ (e : Event). IsRelation x.stamp.event e (relate y.copy)) q.4 (subst (λ (k : ℕ). IsRelation x.stamp.event q.0.stamp.event (relate k)) q.2 (own q.0 q.1 (q.3 ∙ free) (λ e. ne (sym q.2 ∙ e)))))
    f.rels)

-- a copy that is renewed as it looks
look_mapped : (c : ℕ) (f : StampRow → StampRow) (rows : ℕ → Option StampRow) (m : ℕ) → ((r : StampRow) → look (Some (f r)) ≡ look (Some r)) → look (mapped c f rows m) ≡ look (rows m)
look_mapped c f rows m same = grind (arith, nat_tests)

-- An edit.

pub edit_paired : (n c : ℕ) (rows : List StampRow) (pairs pairs' : Table) → IsReady n (Edit c) rows → ArePaired rows pairs → pairs'.copies ≡ pairs.copies → Holds pairs' (with_row c (edited_row c (rel_of pairs c)) (rel_of pairs))
    → ArePaired (reported_rows n (Edit c) rows) pairs'
edit_paired n c rows pairs pairs' w p same holds =
    let up = w.kept.rising in
    let r = row_in rows c in
    let at = row_lives rows c up w.able in
    let f : StampRow → StampRow = λ q. restamped (updated_stamp q.stamp) n q in
    let new = reported_rows n (Edit c) rows in
    let rows_at : row_at new ≡ mapped c f (row_at rows) = ap row_at (append-nil (renewed c f rows)) ∙ row_renewed c f rows (λ q. refl) in
    let was : row_at rows c ≡ Some r = subst (λ (k : ℕ). row_at rows k ≡ Some r) at.named (row_in_at 0 r rows up at.there) in
    change_paired c (f r) (edited_row c (rel_of pairs c)) rows new pairs pairs' record {
      up = up;
      rising = rising_reported n (Edit c) rows w;
      free = at.free;
      there = ap (λ (g : ℕ → Option StampRow). g c) rows_at ∙ ap (λ (b : Bool). cond b (option_map f (row_at rows c)) (row_at rows c)) (eq-eqb c c refl) ∙ ap (option_map f) was;
      same = λ m out. sym (ap (λ (g : ℕ → Option StampRow). look (g m)) rows_at ∙ ap (λ (b : Bool). look (cond b (option_map f (row_at rows m)) (row_at rows m))) (or_parts (c == m) false out).0);
    }
    p (subst (λ (cs : List ℕ). Contains cs c) (sym same) ((p.copies c).1 w.able)) (λ m ne. subst (λ (cs : List ℕ). Contains cs m ↔ Contains pairs.copies m) (sym same) ((λ h. h), λ h. h)) holds
    (λ q i free ne. subst (IsRelation (f r).stamp.event q.stamp.event) (ap (λ (k : ℕ). edited_rel (rel_of pairs k q.copy)) at.named ∙ ap (λ (b : Bool). cond b Equal (edited_rel (rel_of pairs c q.copy))) (sym (ne_eqb q.copy c ne)))
    (raised_relates r.stamp.id r.stamp.event (f r).stamp.event q.stamp.event (rel_of pairs r.copy q.copy) (edit_raised n c rows r w at.there).0 (w.kept.stands.owner r q at.there i)
    (p.rels r q at.there i at.free free (λ e. ne (sym e ∙ at.named)))))

-- A duplicate.

-- the entry's number is new
pub new_copy : (n : ℕ) (report : FamilyReport) (rows : List StampRow) (pairs : Table) → IsReady n report rows → ArePaired rows pairs → ¬ Contains pairs.copies n
new_copy n report rows pairs w p here =
    let r = living_at rows n ((p.copies n).0 here) in
    grind (arith, nat_tests)

duplicate_changed : (n c : ℕ) (rows : List StampRow) → IsReady n (Duplicate c) rows → IsChanged n (row n (second_part (row_in rows c).stamp) n) rows (reported_rows n (Duplicate c) rows)
duplicate_changed n c rows w =
    let x = row n (second_part (row_in rows c).stamp) n in
    let f : StampRow → StampRow = λ q. restamped (first_part q.stamp) q.touch q in
    let rising = rising_reported n (Duplicate c) rows w in
    record {
      up = w.kept.rising;
      rising = rising;
      free = refl;
      there = row_in_at 0 x (reported_rows n (Duplicate c) rows) rising (in_right x (renewed c f rows) (x ∷ []) (inl refl));
      same = λ m out. sym (ap look (row_pushed (renewed c f rows) x m (or_parts (n == m) false out).0 ∙ ap (λ (g : ℕ → Option StampRow). g m) (row_renewed c f rows (λ q. refl))) ∙ look_mapped c f (row_at rows) m (λ q. refl));
    }

pub duplicate_room : (n c : ℕ) (rows : List StampRow) (pairs : Table) → IsReady n (Duplicate c) rows → ArePaired rows pairs → ByPlaces pairs.copies → length pairs.copies + 1 ≤ length (copy_rows (reported_rows n (Duplicate c) rows))
duplicate_room n c rows pairs w p places =
    let new = reported_rows n (Duplicate c) rows in
    let x = row n (second_part (row_in rows c).stamp) n in
    let h = duplicate_changed n c rows w in
    let gone = new_copy n (Duplicate c) rows pairs w p in
    room_for new pairs.copies n places (λ d here. seen_lives rows new d w.kept.rising (sym (h.same d (other n d (λ e. gone (subst (Contains pairs.copies) e here))))) ((p.copies d).0 here)) gone
    (lives_from new x (in_from_at new n x h.there) refl)

pub duplicate_paired : (n c : ℕ) (rows : List StampRow) (pairs pairs' : Table) → IsReady n (Duplicate c) rows → ArePaired rows pairs → ((d : ℕ) → Contains pairs.copies d → rel_of pairs d d ≡ Equal)
    → pairs'.copies ≡ with_copy n pairs.copies → Holds pairs' (with_row n (rel_of pairs c) (rel_of pairs)) → ArePaired (reported_rows n (Duplicate c) rows) pairs'
duplicate_paired n c rows pairs pairs' w p itself same holds =
    let up = w.kept.rising in
    let r = row_in rows c in
    let at = row_lives rows c up w.able.0 in
    let x = row n (second_part r.stamp) n in
    change_paired n x (rel_of pairs c) rows (reported_rows n (Duplicate c) rows) pairs pairs' (duplicate_changed n c rows w) p (subst (λ (cs : List ℕ). Contains cs n) (sym same) (with_copy_new n pairs.copies))
    (λ m ne. subst (λ (cs : List ℕ). Contains cs m ↔ Contains pairs.copies m) (sym same)
    ((λ here. elim (in_with_copy n m pairs.copies here) [ inl e ↦ absurd (ne e) | inr was ↦ was ]), with_copy_old n m pairs.copies)) holds
    (λ q i free ne. grind (arith, nat_tests, one_row))
