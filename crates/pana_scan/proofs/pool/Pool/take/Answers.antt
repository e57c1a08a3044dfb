use Rattle.std.proofs.Common.{refl, sym, ap, ◌∙◌, arith, true}
use Rattle.std.specs.Str.{bytes_eq}
use Rattle.std.proofs.lemmas.List.{get_or_default}
use Rattle.pana_scan.proofs.Pooled.{item_first, none_at_end, none_there, nothing_else, nothing_first, taken_order, taken_rest, turned_false, turned_true}
use Rattle.pana_scan.proofs.pool.Pool.take.Goals as goal
use Rattle.pana_scan.proofs.pool.Pool.take.Goals.{then-at-len-via-then-at-len, then-at-len-via-else-at-len+then-ne}

pub returns-then-at-len-clause-first : goal.returns-then-at-len-clause-first
returns-then-at-len-clause-first g c =
    nothing_first c.args.sum.now c.args.self.now.rows.items (elim c.then-at-len.branch [
      | then-at-len-via-then-at-len w ↦
          none_at_end c.args.sum.now c.args.self.now.rows.items c.position-at.result (omega (arith, w.if-at-len.true, c.len.ensures)) c.position-at.ensures.point
      | then-at-len-via-else-at-len+then-ne w ↦
          none_there c.args.sum.now c.args.self.now.rows.items c.position-at.result w.index.result.now c.requires
          (omega (arith, w.if-at-len.false, c.position-at.ensures.bound, c.len.ensures)) w.index.ensures (turned_true _ (sym w.ne.ensures ∙ w.if-ne.true))
          c.position-at.ensures.point
    ])

pub returns-then-at-len-clause-rest : goal.returns-then-at-len-clause-rest
returns-then-at-len-clause-rest g c =
    nothing_else c.args.sum.now c.args.self.now.rows.items (elim c.then-at-len.branch [
      | then-at-len-via-then-at-len w ↦
          none_at_end c.args.sum.now c.args.self.now.rows.items c.position-at.result (omega (arith, w.if-at-len.true, c.len.ensures)) c.position-at.ensures.point
      | then-at-len-via-else-at-len+then-ne w ↦
          none_there c.args.sum.now c.args.self.now.rows.items c.position-at.result w.index.result.now c.requires
          (omega (arith, w.if-at-len.false, c.position-at.ensures.bound, c.len.ensures)) w.index.ensures (turned_true _ (sym w.ne.ensures ∙ w.if-ne.true))
          c.position-at.ensures.point
    ])

pub returns-clause-order : goal.returns-clause-order
returns-clause-order g c =
    let same = c.index_mut-row.ensures.value ∙ get_or_default c.args.self.now.rows.items c.position-at.result c.index_mut-row.result.now c.index.result.now (omega (arith, c.if-at-len.false, c.position-at.ensures.bound, c.len.ensures)) ∙ sym c.index.ensures in
    taken_order c.args.self.now.rows.items c.position-at.result c.index_mut-row.result.now _ (omega (arith, c.if-at-len.false, c.position-at.ensures.bound, c.len.ensures)) c.index_mut-row.ensures.value
    c.args.sum.now c.requires refl refl (ap (λ it. bytes_eq it.sum.now c.args.sum.now) same ∙ turned_false _ (sym c.ne.ensures ∙ c.if-ne.false)) c.position-at.ensures.point.0

pub returns-clause-first : goal.returns-clause-first
returns-clause-first g c =
    let same = c.index_mut-row.ensures.value ∙ get_or_default c.args.self.now.rows.items c.position-at.result c.index_mut-row.result.now c.index.result.now (omega (arith, c.if-at-len.false, c.position-at.ensures.bound, c.len.ensures)) ∙ sym c.index.ensures in
    item_first c.args.self.now.rows.items c.position-at.result c.index_mut-row.result.now
    (record { sum = c.index_mut-row.result.now.sum; item = c.index_mut-row.result.now.item; is_taken = true })
    (omega (arith, c.if-at-len.false, c.position-at.ensures.bound, c.len.ensures)) c.index_mut-row.ensures.value
    c.args.sum.now (ap (λ it. bytes_eq it.sum.now c.args.sum.now) same ∙ turned_false _ (sym c.ne.ensures ∙ c.if-ne.false)) refl refl c.position-at.ensures.point

pub returns-clause-rest : goal.returns-clause-rest
returns-clause-rest g c =
    let same = c.index_mut-row.ensures.value ∙ get_or_default c.args.self.now.rows.items c.position-at.result c.index_mut-row.result.now c.index.result.now (omega (arith, c.if-at-len.false, c.position-at.ensures.bound, c.len.ensures)) ∙ sym c.index.ensures in
    taken_rest c.args.self.now.rows.items c.position-at.result c.index_mut-row.result.now
    (record { sum = c.index_mut-row.result.now.sum; item = c.index_mut-row.result.now.item; is_taken = true })
    (omega (arith, c.if-at-len.false, c.position-at.ensures.bound, c.len.ensures)) c.index_mut-row.ensures.value
    c.args.sum.now (ap (λ it. bytes_eq it.sum.now c.args.sum.now) same ∙ turned_false _ (sym c.ne.ensures ∙ c.if-ne.false)) refl refl c.position-at.ensures.point
