use Rattle.std.proofs.Common.{[], ◌∷◌, map, string_bytes}
use Rattle.pana_report.specs.Table.{table_text}
use Rattle.pana_commands.proofs.Boarded.{BoardsSoFar}
use Rattle.pana_commands.proofs.boards.tables_of_each.Given as goal

-- the tables so far
abbrev pub invariant-loop-family : goal.invariant-loop-family
invariant-loop-family g l =
    BoardsSoFar g.S.Session.step l.fn.by (λ view. table_text l.fn.terminal view ∷ []) l.fn.families l.family-index l.fn.session l.session (map string_bytes l.tables.items)
