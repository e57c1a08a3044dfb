-- What a scan calls for: at one path, and over all paths.
use Rattle.std.specs.Prelude.{ℕ, not, ◌&&◌, ◌==◌, cond, List, ◌++◌, Option, Some, None, map, find, filter_map, option_map}
use Rattle.std.specs.Str.{bytes_eq}
use Rattle.pana_journal.specs.declared.report.Report.TheVariants.{Register, Edit, Remove}
use Rattle.pana_calls.specs.declared.holding.Holding.{Holding}
use Rattle.pana_scan.specs.declared.baseline.BaselineRow.{BaselineRow}
use Rattle.pana_scan.specs.declared.baseline.Mark.{Mark}
use Rattle.pana_scan.specs.declared.listing.Found.{Found}
use Rattle.pana_scan.specs.declared.listing.FoundRow.{FoundRow}
use Rattle.pana_scan.specs.declared.listing.Found.TheVariants.{Seen, Unreadable}
use Rattle.pana_scan.specs.declared.outcome.Outcome.{Outcome}
use Rattle.pana_scan.specs.declared.step.Plan.{Plan}
use Rattle.pana_scan.specs.declared.step.Step.{Step}
use Rattle.pana_scan.specs.Order.{Path, in_order}
use Rattle.pana_scan.specs.Listing.{Contents}

-- what is known of a path: what the scan found, what the baseline has, and the living copy there
pub record AtPath : Type 0 where
  pub path : Path
  pub found : Option Found
  pub mark : Option Mark
  pub living : Option Holding

-- no step, and what the baseline keeps
abbrev pub keep : Option Mark → Outcome
keep mark = record { step = None; mark = mark }

-- what a path of this device calls for, by what the scan found there, what the baseline has, and the living copy there
abbrev pub outcome_at : List ℕ → Path → Option Found → Option Mark → Option Holding → Outcome
outcome_at device path (Some Unreadable) mark living = keep mark
outcome_at device path (Some (Seen found)) None None = record {
  step = Some (record { path = path; fingerprint = Some found; report = Register (record { device = device; path = path }) None });
  mark = None;
}
outcome_at device path (Some (Seen found)) None (Some copy) = keep (Some (record { fingerprint = found; touch = copy.touch }))
outcome_at device path (Some (Seen found)) (Some mark) (Some copy) =
    cond (not (bytes_eq found mark.fingerprint) && mark.touch == copy.touch)
    (record { step = Some (record { path = path; fingerprint = Some found; report = Edit copy.copy None }); mark = Some mark })
    (keep (Some (record { fingerprint = found; touch = copy.touch })))
outcome_at device path (Some (Seen found)) (Some mark) None = keep (Some (record { fingerprint = found; touch = 0 }))
outcome_at device path None (Some mark) (Some copy) = record {
  step = Some (record { path = path; fingerprint = None; report = Remove copy.copy None });
  mark = Some mark;
}
outcome_at device path None (Some mark) None = keep None
outcome_at device path None None living = keep None

-- what a path calls for, by what is known of it
abbrev pub outcome_for : List ℕ → AtPath → Outcome
outcome_for device known = outcome_at device known.path known.found known.mark known.living

-- what the three lists have of a path
abbrev pub at_path : List FoundRow → List BaselineRow → List Holding → Path → AtPath
at_path found baseline holdings path = record {
  path = path;
  found = option_map (λ row. row.found) (find (λ row. bytes_eq row.path path) found);
  mark = option_map (λ row. row.mark) (find (λ row. bytes_eq row.path path) baseline);
  living = find (λ holding. bytes_eq holding.path path) holdings;
}

-- the paths of the three lists, each once, in byte order
abbrev pub paths_of : List FoundRow → List BaselineRow → List Holding → List Path
paths_of found baseline holdings =
    in_order (map (λ row. row.path) found ++ map (λ row. row.path) baseline ++ map (λ holding. holding.path) holdings)

-- what is known of each of these paths
abbrev pub at_paths : List FoundRow → List BaselineRow → List Holding → List AtPath
at_paths found baseline holdings = map (at_path found baseline holdings) (paths_of found baseline holdings)

-- the steps that the paths call for
abbrev pub steps_for : List ℕ → List AtPath → List Step
steps_for device = filter_map (λ known. (outcome_for device known).step)

-- the row that the baseline keeps of a path
abbrev pub row_for : List ℕ → AtPath → Option BaselineRow
row_for device known = option_map (λ mark. record { path = known.path; mark = mark }) (outcome_for device known).mark

-- the rows that the baseline keeps of the paths
abbrev pub rows_for : List ℕ → List AtPath → List BaselineRow
rows_for device = filter_map (row_for device)

-- what a scan calls for: the steps of all paths in byte order, and the rows that the baseline keeps of them
abbrev pub plan_of : List BaselineRow → List Holding → Contents → Plan
plan_of baseline holdings listing =
    let known = at_paths listing.rows baseline holdings in
    record { steps = steps_for listing.device known; baseline = rows_for listing.device known }
