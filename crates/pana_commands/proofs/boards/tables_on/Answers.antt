use Rattle.std.proofs.Common.{List, map, string_bytes, ap, subst, ◌∙◌, ◌∷◌, [], ℕ}
use Rattle.pana_calls.specs.Session.{one}
use Rattle.std.specs.List.{join_by}
use Rattle.std.proofs.lemmas.Result.{err_from_is_err_and}
use Rattle.pana_commands.specs.Answered.{Prints}
use Rattle.pana_commands.specs.Boards.{HasTables, shown_families}
use Rattle.pana_commands.specs.declared.untracked.Untracked.TheVariants.{NoAnswer}
use Rattle.pana_commands.proofs.Boarded.{cut_behind_families, no_families, passed_on}
use Rattle.pana_commands.proofs.Joined.{join_texts}
use Rattle.pana_commands.proofs.boards.tables_on.Goals as goal

pub returns-in_err-rows-clause-fails : goal.returns-in_err-rows-clause-fails
returns-in_err-rows-clause-fails g c = λ is.
    let p = err_from_is_err_and c.from_residual.result c.from_residual.ensures.1 in
    no_families g.S.Session.step c.args.by.now (one g.S.Session.fails) c.args.session.now c.args.session.now c.families_of.new.session
    (c.in_err-rows.ensures.fails (passed_on _ p.0 _ NoAnswer p.1 p.2 is))

pub returns-in_err-tables-clause-fails : goal.returns-in_err-tables-clause-fails
returns-in_err-tables-clause-fails g c = λ is.
    let p = err_from_is_err_and c.from_residual-in_err-tables.result c.from_residual-in_err-tables.ensures.1 in
    cut_behind_families g.S.Session.step c.args.by.now (one g.S.Session.fails) c.args.session.now c.families_of.new.session c.tables_of_each.new.session c.in_ok-rows.rows c.in_ok-rows.ensures.ok
    (c.in_err-tables.ensures.fails (passed_on _ p.0 _ NoAnswer p.1 p.2 is))

pub returns-clause-ok : goal.returns-clause-ok
returns-clause-ok g c = record {
  rows = c.in_ok-rows.rows;
  mid = c.families_of.new.session;
  tables = map string_bytes c.in_ok-tables.tables.items;
  asked = c.in_ok-rows.ensures.ok;
  has = subst (λ (numbers : List ℕ). HasTables g.S.Session.step c.args.by.now c.args.terminal numbers c.families_of.new.session c.tables_of_each.new.session (map string_bytes c.in_ok-tables.tables.items))
      (c.as_slice-2.ensures.value ∙ c.in_ok-shown.ensures ∙ ap (shown_families c.args.only_split) c.as_slice.ensures) c.in_ok-tables.ensures.ok;
  prints = subst (λ (text : List ℕ). Prints text c.printed.result)
      (c.in_ok-text.ensures.ok ∙ join_texts string_bytes (10 ∷ []) c.as_slice-3.result.now
      ∙ ap (λ tables. join_by (λ text. text) (10 ∷ []) (map string_bytes tables)) c.as_slice-3.ensures.value) c.printed.ensures;
}
