use Rattle.std.proofs.Common.{List, map, string_bytes, sym, ap, subst, ◌∙◌, ◌++◌, ◌∷◌, [], ℕ}
use Rattle.pana_report.specs.Table.{table_text}
use Rattle.pana_commands.proofs.Boarded.{BoardsSoFar, all_boards, next_board, no_boards, one_each, pushed}
use Rattle.pana_commands.proofs.boards.tables_of_each.Goals as goal

pub loop-family-init : goal.loop-family-init
loop-family-init g c =
    subst (λ (tables : List (List ℕ)). BoardsSoFar g.S.Session.step c.args.by.now (λ view. table_text c.args.terminal view ∷ []) c.args.families.now 0 c.args.session.now c.args.session.now tables)
    (sym (ap (map string_bytes) c.new-tables.ensures.items)) (no_boards g.S.Session.step c.args.by.now (λ view. table_text c.args.terminal view ∷ []) c.args.families.now c.args.session.now)

pub loop-family-preserved : goal.loop-family-preserved
loop-family-preserved g c =
    next_board g.S.Session.step c.args.by.now (λ view. table_text c.args.terminal view ∷ []) c.args.families.now c.loop-family.family-index c.args.session.now c.loop-family.session
    (map string_bytes c.loop-family.tables.items) c.loop-family.invariant 0 c.loop-family-test.true c.view_of.new.session c.in_ok-view.view (map string_bytes c.push.new.self.items)
    c.in_ok-view.ensures.ok
    (pushed string_bytes c.push.result c.loop-family.tables.items c.push.new.self.items _ (sym c.is_err.ensures.value ∙ c.if-is_err.false) c.push.ensures.items
    ∙ ap (λ (table : List ℕ). map string_bytes c.loop-family.tables.items ++ table ∷ []) c.in_ok-print_board.ensures)

pub returns-clause-ok : goal.returns-clause-ok
returns-clause-ok g c = (
  c.loop-family.invariant.views,
  all_boards g.S.Session.step c.args.by.now (λ view. table_text c.args.terminal view ∷ []) c.args.families.now c.loop-family.family-index c.args.session.now c.loop-family.session
      (map string_bytes c.loop-family.tables.items) c.loop-family.invariant c.loop-family-test.false,
  c.loop-family.invariant.items_are ∙ one_each (table_text c.args.terminal) c.loop-family.invariant.views,
)
