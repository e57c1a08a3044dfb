-- The copies whose knowledge a copy has at the end, from the end back.
use Rattle.std.specs.Prelude.{ℕ, Bool, false, not, ◌==◌, ◌||◌, List, [], ◌∷◌, ◌++◌, filter, if◌then◌else◌}
use Rattle.pana_journal.specs.declared.entry.Entry.{Entry}
use Rattle.pana_journal.specs.declared.report.Report.{Report}
use Rattle.pana_journal.specs.declared.report.Report.TheVariants.{Register, Duplicate, Edit, Reconcile, Merge, Remove}
use Rattle.pana_family.specs.Updates.{has}

-- whether the report is an update of one of these copies
abbrev pub reaches : List ℕ → Report → Bool
reaches sources (Edit copy sum) = has sources copy
reaches sources (Merge a b sum) = has sources a || has sources b
reaches sources _ = false

abbrev pub without : ℕ → List ℕ → List ℕ
without copy sources = filter (λ source. not (source == copy)) sources

abbrev pub with_source : ℕ → List ℕ → List ℕ
with_source copy sources = if has sources copy then sources else sources ++ copy ∷ []

-- where the two got what either knew
abbrev pub united : ℕ → ℕ → List ℕ → List ℕ
united a b sources = if has sources a || has sources b then with_source a (with_source b sources) else sources

-- where the copy was made of another
abbrev pub copied : ℕ → ℕ → List ℕ → List ℕ
copied copy of sources = if has sources copy then with_source of (without copy sources) else sources

-- before entry n's report
abbrev pub before_report : ℕ → Report → List ℕ → List ℕ
before_report n (Register place sum) sources = without n sources
before_report n (Duplicate source place sum) sources = copied n source sources
before_report n (Reconcile a b sum) sources = united a b sources
before_report n (Merge a b sum) sources = united a b sources
before_report n (Remove copy heir) sources = without copy sources
before_report n _ sources = sources

abbrev pub sources_before : Entry → List ℕ → List ℕ
sources_before entry sources = before_report entry.number entry.report sources
