-- A comma where others stand before, and the text.
use Rattle.std.proofs.Common.{List, ℕ, [], ◌∷◌, ◌++◌, sym, ap, ◌∙◌, append_assoc}
use Rattle.pana_wire.proofs.LongLine.{first_pushed, next_pushed}
use Rattle.pana_wire.proofs.open_line.OpenLine.push_entry.Goals as goal
use Rattle.pana_wire.proofs.open_line.OpenLine.push_entry.Goals.{then-not-is_first, else-not-is_first}

pub returns-clause-line : goal.returns-clause-line
returns-clause-line c entries entry is none one =
    let text = c.args.text.now in
    elim c.if-not-is_first.branch [
      | then-not-is_first w ↦
          next_pushed entries entry c.args.self.now text c.push-2.new.self is (sym w.if-not-is_first.true ∙ none) one
          (c.push-2.ensures ∙ ap (λ (t : List ℕ). t ++ c.as_bytes.result.now) (w.self-is ∙ w.push.ensures) ∙ ap (λ (t : List ℕ). (c.args.self.now ++ 44 ∷ []) ++ t) c.as_bytes.ensures.value)
      | else-not-is_first w ↦
          first_pushed entries entry c.args.self.now text c.push-2.new.self is (sym w.if-not-is_first.false ∙ none) one
          (c.push-2.ensures ∙ ap (λ (t : List ℕ). t ++ c.as_bytes.result.now) w.self-is ∙ ap (λ (t : List ℕ). c.args.self.now ++ t) c.as_bytes.ensures.value)
    ]

pub returns-clause-longer : goal.returns-clause-longer
returns-clause-longer c =
    let text = c.as_bytes.result.now in
    elim c.if-not-is_first.branch [
      | then-not-is_first w ↦ ((44 ∷ []) ++ text, c.push-2.ensures ∙ ap (λ (t : List ℕ). t ++ text) (w.self-is ∙ w.push.ensures) ∙ append_assoc c.args.self.now (44 ∷ []) text)
      | else-not-is_first w ↦ (text, c.push-2.ensures ∙ ap (λ (t : List ℕ). t ++ text) w.self-is)
    ]
