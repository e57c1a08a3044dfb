-- What a family stands for after a journal: its table of sets, with the parcels, and the tables that withdrawing its
-- pending entries one after another would give back.
use Rattle.std.specs.Prelude.{ℕ, List, [], ◌++◌, Option, Some, None, fold, if◌then◌else◌}
use Rattle.pana_journal.specs.declared.report.Report.{Report}
use Rattle.pana_journal.specs.declared.entry.Entry.{Entry}
use Rattle.pana_family.specs.declared.report.FamilyReport.{FamilyReport}
use Rattle.pana_family.specs.Report as family
use Rattle.pana_family.specs.Table.{Known, registered}
use Rattle.pana_hall.specs.Family.{family_report, is_register}
use Rattle.pana_hall.specs.laws.Tables.{layer}

-- the table after what entry n reports of its family's copies, if it does
abbrev pub changed_table : ℕ → Option FamilyReport → List Known → List Known
changed_table n None table = table
changed_table n (Some report) table = family.reported n report table

-- the table after entry n's report: a Register begins with its copy, which knows no update
abbrev pub reported : ℕ → Report → List Known → List Known
reported n report table = if is_register report then table ++ registered n else changed_table n (family_report report) table

abbrev pub reported_by : List Known → Entry → List Known
reported_by table entry = reported entry.number entry.report table

-- the table of sets that these entries of a family make
unfoldable pub knowns_of : List Entry → List Known
knowns_of entries = fold reported_by [] entries

-- the table of sets of a family, where the last k of its pending entries are left out
abbrev pub sets_at : ℕ → ℕ → List Entry → List Known
sets_at k family journal = knowns_of (layer 8 k family journal)
