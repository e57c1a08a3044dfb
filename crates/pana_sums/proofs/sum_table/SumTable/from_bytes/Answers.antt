use Rattle.std.proofs.Common.{◌≡◌, List, Some, refl}
use Rattle.std.specs.Prelude.{IfOk}
use Rattle.std.specs.List.{flat_map}
use Rattle.pana_sums.specs.Table.{Row, IsTable}
use Rattle.pana_sums.specs.File.{record_of, file_of}
use Rattle.pana_sums.proofs.Seals.{files_are, one_of, none_whole}
use Rattle.pana_sums.proofs.sum_table.SumTable.from_bytes.Goals as goal

-- without the line or with another digest
none_found : (c : goal.In-None) (table : List Row) → IsTable table → file_of table ≡ c.args.bytes.now → ⊥
none_found c table is h = let none = (c.in-None.ensures (flat_map record_of table)).1 h in absurd (cc)

pub returns-in-None-clause-none : goal.returns-in-None-clause-none
returns-in-None-clause-none c = λ whole. none_found c whole.0 whole.1 whole.2

pub returns-in-None-clause-all : goal.returns-in-None-clause-all
returns-in-None-clause-all c = λ table is h. absurd (none_found c table is h)

-- every table whose file this is was found
all_found : (c : goal.After-from_records) (table : List Row) → IsTable table → file_of table ≡ c.args.bytes.now → IfOk c.from_records.result (λ found. found ≡ Some table)
all_found c table is h =
    c.from_records.ensures.all table is (one_of (flat_map record_of table) c.in-Some.records.now ((c.in-Some.ensures (flat_map record_of table)).1 h))

pub returns-in-Some-clause-some : goal.returns-in-Some-clause-some
returns-in-Some-clause-some c = files_are c.from_records.result c.in-Some.records.now c.args.bytes.now ((c.in-Some.ensures c.in-Some.records.now).0 refl) c.from_records.ensures.some

pub returns-in-Some-clause-none : goal.returns-in-Some-clause-none
returns-in-Some-clause-none c = none_whole c.from_records.result c.args.bytes.now (all_found c)

pub returns-in-Some-clause-all : goal.returns-in-Some-clause-all
returns-in-Some-clause-all c = all_found c
