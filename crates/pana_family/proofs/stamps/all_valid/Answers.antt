use Rattle.pana_family.proofs.Words.{sym, ap, subst, ◌∙◌, ◌≡◌, ◌+◌, ◌++◌, ◌∷◌, [], List, take, inl, inr, arith, take_more, IsValid, IsSound, StampRow, In, take_all}
use Rattle.pana_family.proofs.Members.{in_append}
use Rattle.pana_family.proofs.stamps.all_valid.Goals as goal

pub loop-row-preserved : goal.loop-row-preserved
loop-row-preserved c = λ r i.
    let rows : List StampRow = c.args.rows.now in
    let more : take (c.loop-row.row-index + 1) rows ≡ take c.loop-row.row-index rows ++ c.row-item.result ∷ [] =
    take_more rows c.loop-row.row-index c.row-item.result (omega arith) ∙ ap (λ (q : StampRow). take c.loop-row.row-index rows ++ q ∷ []) (sym c.row-item.is) in
    elim (in_append r (take c.loop-row.row-index rows) (c.row-item.result ∷ []) (subst (λ (l : List StampRow). In r l) more i)) [
      | inl h ↦ c.loop-row.invariant r h
      | inr h ↦ elim h [
        | inl e ↦ subst (λ (q : StampRow). IsValid q.stamp.id × IsSound q.stamp.event) (sym e)
            (subst IsValid c.id.ensures c.node.ensures.valid, subst IsSound c.event_tree.ensures (record { normal = c.node-in-loop-row.ensures.normal; shallow = c.node-in-loop-row.ensures.shallow; fits = c.node-in-loop-row.ensures.fits }))
        | inr never ↦ absurd never
      ]
    ]

pub returns : goal.returns
returns c = λ r i. c.loop-row.invariant r (subst (λ (l : List StampRow). In r l) (sym (take_all c.loop-row.row-index c.args.rows.now (omega arith))) i)
