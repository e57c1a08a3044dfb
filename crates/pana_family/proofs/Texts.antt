-- The texts of rows' stamps, for the table that the rows stand for.
use Rattle.pana_family.proofs.Words.{◌≡◌, ◌↔◌, ℕ, List, map, filter, AllZip, refl, sym, ap, subst, ◌∙◌, arith, nat_tests, Id, IsValid, SharesNoPoint, is_zero, Event, IsSound, IsBelow, IsRelation, Rel}
use Rattle.pana_family.proofs.Words.{StampRow, is_copy, relation, IsSubset, Known, In, copies_of, StandsFor, row_text, IsRising, row_in, AreStamps}
use Rattle.pana_text.specs.Text.{stamp_text}
use Rattle.pana_family.proofs.{Sound.below_subset, Sound.subset_below, Places.row_found, Relations.relates}
use Rattle.pana_family.proofs.Members.{Holds, held, to_sound, of_known, in_filter}
use Rattle.pana_family.proofs.Boards.{OfOne, all_of_one, map_same, filter_same}

-- the relation of two sets is that of the events that stand for them
by_sets : (e f : Event) (xs ys : List ℕ) → IsBelow e f ↔ IsSubset xs ys → IsBelow f e ↔ IsSubset ys xs → (rel : Rel) → rel ≡ relation xs ys → IsRelation e f rel
by_sets e f xs ys up down rel is = grind (arith, nat_tests, relates)

pub stamps_answer : (rows : List StampRow) (table : List Known) → IsRising 0 rows → StandsFor rows table → ((r : StampRow) → In r rows → IsValid r.stamp.id × IsSound r.stamp.event)
    → (stamps : List (ℕ × List ℕ)) → stamps ≡ map row_text (filter (λ r. is_copy r.holder) rows) → AreStamps stamps (copies_of table)
stamps_answer rows table up st valid stamps is =
    let copies : List Known = copies_of table in
    let R : StampRow → Known → Type 0 = OfOne rows table in
    let z : AllZip R rows table = grind (arith, nat_tests, all_of_one) in
    let id_of : ℕ → Id = λ c. (row_in rows c).stamp.id in
    let event_of : ℕ → Event = λ c. (row_in rows c).stamp.event in
    let row_of : (t : Known) → In t copies → (r : StampRow) × In r rows × In t table × (r.copy ≡ t.copy) × (id_of t.copy ≡ r.stamp.id) × (event_of t.copy ≡ r.stamp.event) =
    λ t i.
    let j : In t table = (in_filter (λ k. is_copy k.holder) table t i).0 in
    let m = of_known rows table st.same t j in
    (m.0, m.1, j, m.2, ap id_of (sym m.2) ∙ ap (λ (w : StampRow). w.stamp.id) (row_found m.0 rows up m.1), ap event_of (sym m.2) ∙ ap (λ (w : StampRow). w.stamp.event) (row_found m.0 rows up m.1)) in
    record {
      id_of = id_of;
      event_of = event_of;
      texts = is ∙ map_same R row_text (λ t. (t.copy, stamp_text (id_of t.copy) (event_of t.copy)))
          (λ r t a. let named : r.copy ≡ t.copy = a.2 in
          ap (λ (w : StampRow). (r.copy, stamp_text w.stamp.id w.stamp.event)) (sym (row_found r rows up a.0))
          ∙ ap (λ (k : ℕ). (k, stamp_text (id_of k) (event_of k))) named)
          (filter (λ r. is_copy r.holder) rows) copies (grind (arith, nat_tests, filter_same));
      valid = λ t i. let m = row_of t i in let v = valid m.0 m.1 in (subst IsValid (sym m.4) v.0, subst IsSound (sym m.5) v.1);
      owning = λ t i. let m = row_of t i in ap is_zero m.4 ∙ st.owning m.0 m.1;
      apart = λ t s i j ne. let m = row_of t i in let n = row_of s j in
          subst (λ (k : Id). SharesNoPoint k (id_of s.copy)) (sym m.4) (grind (arith, nat_tests));
      compared = λ t s i j. let m = row_of t i in let n = row_of s j in
          let P = Holds rows table in
          let whole = to_sound rows table st in
          let first = held rows table m.0 t m.1 m.2 m.3 in
          let second = held rows table n.0 s n.1 n.2 n.3 in
          subst (λ (e : Event). IsRelation e (event_of s.copy) (relation t.set s.set)) (sym m.5) (subst (λ (e : Event). IsRelation m.0.stamp.event e (relation t.set s.set)) (sym n.5)
          (by_sets m.0.stamp.event n.0.stamp.event t.set s.set
          (below_subset P m.0.copy n.0.copy m.0.stamp n.0.stamp t.set s.set whole first second, subset_below P m.0.copy n.0.copy m.0.stamp n.0.stamp t.set s.set whole first second)
          (below_subset P n.0.copy m.0.copy n.0.stamp m.0.stamp s.set t.set whole second first, subset_below P n.0.copy m.0.copy n.0.stamp m.0.stamp s.set t.set whole second first)
          (relation t.set s.set) refl));
    }
