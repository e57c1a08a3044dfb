use Rattle.pana_family.proofs.Words.{nat_tests, ap, sym, ◌∙◌, ◌≡◌, ◌<◌, ◌∷◌, [], ◌++◌, ◌+◌, ℕ, Bool, true, List, take, map, filter, length, arith, length-append, map-append, Rel, StampRow, is_other}
use Rattle.pana_family.proofs.Words.{row_relation, take_more_set}
use Rattle.pana_family.proofs.Compared.{none_more, one_more, room_for_one}
use Rattle.pana_family.proofs.comparing.write_relations.Goals as goal
use Rattle.pana_family.proofs.comparing.write_relations.Goals.{then-is_other, else-is_other}

pub bounds-rels-count : goal.bounds-rels-count
bounds-rels-count c = grind (arith, nat_tests, room_for_one)

pub loop-other-preserved : goal.loop-other-preserved
loop-other-preserved c =
    let row : StampRow = c.args.row.now in
    let test : StampRow → Bool = is_other row.copy in
    let rows : List StampRow = c.args.rows.now in
    let i : ℕ = c.loop-other.other-index in
    let seen : List StampRow = filter test (take i rows) in
    let r : StampRow = c.other-item.result in
    elim c.if-is_other.branch [
      | then-is_other w ↦
          let passes : test r ≡ true = sym c.is_other.ensures ∙ w.if-is_other.true in
          let more : filter test (take (i + 1) rows) ≡ seen ++ r ∷ [] = one_more test rows i r c.loop-other-test.true c.other-item.is passes in
          let room : c.loop-other.count < length c.loop-other.rels =
          omega (arith, room_for_one test rows i r c.loop-other-test.true c.other-item.is passes, c.loop-other.invariant.count_is, c.loop-other.auto.rels, c.requires) in
          record {
            count_is = omega (arith, w.count-is, c.loop-other.invariant.count_is, ap length more, length-append seen (r ∷ []));
            rels_are = ap (λ (k : ℕ). take k c.if-is_other.rels) w.count-is ∙ ap (take (c.loop-other.count + 1)) w.rels-is ∙ take_more_set c.loop-other.rels c.loop-other.count w.row_relation.result room
                ∙ ap (λ (l : List Rel). l ++ w.row_relation.result ∷ []) c.loop-other.invariant.rels_are ∙ ap (λ (x : Rel). map (row_relation row) seen ++ x ∷ []) w.row_relation.ensures
                ∙ sym (ap (map (row_relation row)) more ∙ map-append (row_relation row) seen (r ∷ []));
          }
      | else-is_other w ↦
          let less : filter test (take (i + 1) rows) ≡ seen = none_more test rows i r c.loop-other-test.true c.other-item.is (sym c.is_other.ensures ∙ w.if-is_other.false) in
          record {
            count_is = w.count-is ∙ c.loop-other.invariant.count_is ∙ sym (ap length less);
            rels_are = ap (λ (k : ℕ). take k c.if-is_other.rels) w.count-is ∙ ap (take c.loop-other.count) w.rels-is ∙ c.loop-other.invariant.rels_are ∙ sym (ap (map (row_relation row)) less);
          }
    ]
