-- One behind the other.
use Rattle.std.proofs.Common.{List, ℕ, [], ◌∷◌, ◌++◌, ap, ◌∙◌, append_assoc}
use Rattle.pana_wire.proofs.LongLine.{second_pushed, some_before}
use Rattle.pana_wire.proofs.open_line.OpenLine.add_two.Goals as goal

pub returns-clause-line : goal.returns-clause-line
returns-clause-line c entries entry next is none one other =
    second_pushed entries entry next c.push_entry-2.new.self (c.push_entry-2.ensures.line (entries ++ entry ∷ []) next (c.push_entry.ensures.line entries entry is none one) (some_before entries entry) other)

pub returns-clause-longer : goal.returns-clause-longer
returns-clause-longer c =
    let first = c.push_entry.ensures.longer in
    let second = c.push_entry-2.ensures.longer in
    (first.0 ++ second.0, second.1 ∙ ap (λ (t : List ℕ). t ++ second.0) first.1 ∙ append_assoc c.args.self.now first.0 second.0)
