use Rattle.std.proofs.Common.{[], ◌∷◌, map, ap, ◌∙◌, string_bytes}
use Rattle.std.specs.List.{join_by}
use Rattle.std.proofs.lemmas.Result.{IfOk-weaker}
use Rattle.pana_commands.specs.Tables.{table_of, tables_text}
use Rattle.pana_commands.proofs.Joined.{same_join}
use Rattle.pana_commands.proofs.tables.tables_of.Goals as goal

pub returns-clause-text : goal.returns-clause-text
unfolding tables_text
returns-clause-text c =
    let journal = c.args.hall.now in
    let rows = c.as_slice.ensures ∙ c.in_ok-rows.ensures.rows in
    IfOk-weaker c.join.result _ _
    (λ text joined. joined ∙ same_join string_bytes _ (10 ∷ []) c.as_slice-2.result.now c.as_slice.result.now (ap (map string_bytes) c.as_slice-2.ensures.value ∙ c.in_ok-tables.ensures.tables)
    ∙ ap (λ before. join_by (table_of c.args.terminal before) (10 ∷ []) c.as_slice.result.now) c.families_of.ensures.hall
    ∙ ap (join_by (table_of c.args.terminal journal) (10 ∷ [])) rows)
    c.join.ensures.ok
