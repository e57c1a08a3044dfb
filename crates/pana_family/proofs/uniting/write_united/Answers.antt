use Rattle.std.proofs.Common.{get_or}
use Rattle.pana_family.proofs.Words.{nat_tests, refl, ap, sym, ◌∙◌, ◌≡◌, ◌<◌, ◌∷◌, [], ◌++◌, ◌+◌, ℕ, Bool, true, List, take, map, filter, length, arith, length-append, map-append, Rel, Equal, rel_of, StampRow, is_other}
use Rattle.pana_family.proofs.Words.{row_relation, take_more_set}
use Rattle.pana_rel.specs.Pairs.{place_of}
use Rattle.pana_family.proofs.{Copies.lives_from, Places.in_read, United.other_is, United.placed}
use Rattle.pana_family.proofs.Compared.{none_more, one_more, room_for_one}
use Rattle.pana_family.proofs.uniting.write_united.Goals as goal
use Rattle.pana_family.proofs.uniting.write_united.Goals.{After-place_behind-at, then-is_other, else-is_other}

pub bounds-rels-count : goal.bounds-rels-count
bounds-rels-count c = grind (arith, nat_tests, room_for_one)

pub loop-other-preserved : goal.loop-other-preserved
loop-other-preserved c =
    let row : StampRow = c.args.row.now in
    let test : StampRow → Bool = is_other row.copy in
    let rows : List StampRow = c.args.rows.now in
    let i : ℕ = c.loop-other.other-index in
    let seen : List StampRow = filter test (take i rows) in
    let r : StampRow = c.other-item.result in
    elim c.if-is_other.branch [
      | then-is_other w ↦
          let passes : test r ≡ true = sym c.is_other.ensures ∙ w.if-is_other.true in
          let more : filter test (take (i + 1) rows) ≡ seen ++ r ∷ [] = one_more test rows i r c.loop-other-test.true c.other-item.is passes in
          let room : c.loop-other.count < length c.loop-other.rels =
          omega (arith, room_for_one test rows i r c.loop-other-test.true c.other-item.is passes, c.loop-other.invariant.count_is, c.loop-other.auto.rels, c.requires.room) in
          record {
            count_is = omega (arith, w.count-is, c.loop-other.invariant.count_is, ap length more, length-append seen (r ∷ []));
            rels_are = ap (λ (k : ℕ). take k c.if-is_other.rels) w.count-is ∙ ap (take (c.loop-other.count + 1)) w.rels-is ∙ take_more_set c.loop-other.rels c.loop-other.count w.united_relation.result room
                ∙ ap (λ (l : List Rel). l ++ w.united_relation.result ∷ []) c.loop-other.invariant.rels_are ∙ ap (λ (x : Rel). map (row_relation row) seen ++ x ∷ []) w.united_relation.ensures
                ∙ sym (ap (map (row_relation row)) more ∙ map-append (row_relation row) seen (r ∷ []));
          }
      | else-is_other w ↦
          let less : filter test (take (i + 1) rows) ≡ seen = none_more test rows i r c.loop-other-test.true c.other-item.is (sym c.is_other.ensures ∙ w.if-is_other.false) in
          record {
            count_is = w.count-is ∙ c.loop-other.invariant.count_is ∙ sym (ap length less);
            rels_are = ap (λ (k : ℕ). take k c.if-is_other.rels) w.count-is ∙ ap (take c.loop-other.count) w.rels-is ∙ c.loop-other.invariant.rels_are ∙ sym (ap (map (row_relation row)) less);
          }
    ]

pub row-first-requires : goal.row-first-requires
row-first-requires c = (c.requires.copies c.args.row.now.copy).1 (lives_from c.args.rows.now c.args.row.now c.requires.here c.requires.free)

-- the place of the other copy
place : (c : After-place_behind-at) → (place_of c.other-item.result.copy c.args.pairs.now.copies ≡ c.place_behind-at.result) × (c.place_behind-at.result < length c.args.pairs.now.copies)
place c =
    placed c.args.rows.now c.args.pairs.now.copies c.args.row.now c.other-item.result c.loop-other.other-index c.place_behind-at.result c.requires.rising c.copies.ensures.rising c.requires.copies c.requires.here c.requires.free
    c.loop-other-test.true c.other-item.is (sym c.is_other.ensures ∙ c.if-is_other.true) (omega (arith, c.place_behind-at.ensures, c.loop-other.invariant.count_is))

pub bounds-first-at : goal.bounds-first-at
bounds-first-at c = omega (arith, (place c).1, c.row-first.ensures.long)

pub bounds-second-at : goal.bounds-second-at
bounds-second-at c = omega (arith, (place c.before).1, c.row-second.ensures.long)

pub united_relation-requires-clause-same : goal.united_relation-requires-clause-same
united_relation-requires-clause-same c = λ e.
    let r : StampRow = c.other-item.result in
    c.requires.united.same c.args.row.now r c.requires.here (in_read c.args.rows.now c.loop-other.other-index r c.loop-other-test.true c.other-item.is) refl e

pub united_relation-requires-clause-decided : goal.united_relation-requires-clause-decided
united_relation-requires-clause-decided c = λ ne.
    let r : StampRow = c.other-item.result in
    let o = other_is c.args.row.now.copy r (sym c.is_other.ensures ∙ c.if-is_other.true) in
    let at : place_of r.copy c.args.pairs.now.copies ≡ c.place_behind-at.result = (place c.before.before).0 in
    let at_first : get_or c.row-first.result.now c.place_behind-at.result Equal ≡ rel_of c.args.pairs.now c.args.row.now.copy r.copy = ap (λ k. get_or c.row-first.result.now k Equal) (sym at) ∙ c.row-first.ensures.rels r.copy in
    let at_second : get_or c.row-second.result.now c.place_behind-at.result Equal ≡ rel_of c.args.pairs.now c.args.b r.copy = ap (λ k. get_or c.row-second.result.now k Equal) (sym at) ∙ c.row-second.ensures.rels r.copy in
    rw (at_first, at_second) (c.requires.united.decided c.args.row.now r c.requires.here (in_read c.args.rows.now c.loop-other.other-index r c.loop-other-test.true c.other-item.is) o.0 refl o.1 ne)
