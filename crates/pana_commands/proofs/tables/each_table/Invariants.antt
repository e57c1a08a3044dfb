use Rattle.std.proofs.Common.{◌≡◌, map, take, string_bytes}
use Rattle.pana_commands.specs.Tables.{table_of}
use Rattle.pana_commands.proofs.tables.each_table.Given as goal

abbrev pub invariant-loop-row : goal.invariant-loop-row
invariant-loop-row l = record {
  hall : l.hall ≡ l.fn.hall;
  tables : map string_bytes l.tables.items ≡ map (table_of l.terminal l.fn.hall) (take l.row-index l.rows);
}
