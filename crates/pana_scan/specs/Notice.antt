-- What a scan notices by contents: which copies were renamed, which files are there, and which copies are missing.
use Rattle.std.specs.Prelude.{ℕ, Bool, false, cond, List, [], ◌∷◌, ◌++◌, Option, Some, None, map, find, filter_map, option_map}
use Rattle.std.specs.List.{cons_option}
use Rattle.std.specs.Str.{bytes_eq}
use Rattle.hex.specs.Hex.{encode_lower}
use Rattle.pana_journal.specs.declared.report.Report.TheVariants.{Relocate}
use Rattle.pana_calls.specs.declared.call.Call.{Call}
use Rattle.pana_calls.specs.declared.call.Call.TheVariants.{Report, Sighting}
use Rattle.pana_calls.specs.declared.call.Sighting.TheVariants as sighting
use Rattle.pana_calls.specs.declared.holding.Holding.{Holding}
use Rattle.pana_scan.specs.declared.listing.Found.{Found}
use Rattle.pana_scan.specs.declared.listing.Found.TheVariants.{Seen, Unreadable}
use Rattle.pana_scan.specs.declared.notices.Notice.{Notice}
use Rattle.pana_scan.specs.declared.notices.Notice.TheVariants as notice
use Rattle.pana_scan.specs.Order.{Path}
use Rattle.pana_scan.specs.Listing.{Contents}
use Rattle.pana_scan.specs.Plan.{AtPath, at_paths}

-- a file that is seen, and the sum of its bytes
pub record File : Type 0 where
  pub path : Path
  pub sum : List ℕ

-- the file that is seen at a path, by what the scan found there
abbrev pub file_at : Path → Option Found → Option File
file_at path (Some (Seen digest)) = Some (record { path = path; sum = encode_lower digest })
file_at path (Some Unreadable) = None
file_at path None = None

-- the same, where no copy is
abbrev pub new_file_at : Path → Option Found → Option Holding → Option File
new_file_at path found None = file_at path found
new_file_at path found (Some copy) = None

-- the copy that is absent: there is no file at its path
abbrev pub absent_at : Option Found → Option Holding → Option Holding
absent_at None living = living
absent_at (Some found) living = None

-- of the paths in byte order: the files that are seen, those of them that are new, and the copies that are absent
abbrev pub files_of : List AtPath → List File
files_of = filter_map (λ known. file_at known.path known.found)

abbrev pub new_files_of : List AtPath → List File
new_files_of = filter_map (λ known. new_file_at known.path known.found known.living)

abbrev pub absent_of : List AtPath → List Holding
absent_of = filter_map (λ known. absent_at known.found known.living)

-- whether a sum is known, and is this one
abbrev pub is_known : List ℕ → Option (List ℕ) → Bool
is_known sum (Some known) = bytes_eq known sum
is_known sum None = false

-- whether the copy is known to hold what has this sum
abbrev pub holds : List ℕ → Holding → Bool
holds sum copy = is_known sum copy.sum

-- all but the first that passes the test
abbrev pub without_first : {T : Type 0} → (T → Bool) → List T → List T
without_first test [] = []
without_first test (x ∷ xs) = cond (test x) xs (x ∷ without_first test xs)

-- each file in turn takes the first copy that is left and holds its sum: the copy was renamed
abbrev pub renamed : List File → List Holding → List Notice
renamed [] copies = []
renamed (file ∷ files) copies =
    cons_option (option_map (λ copy. notice.Renamed copy.copy file.path) (find (holds file.sum) copies))
    (renamed files (without_first (holds file.sum) copies))

-- the copies that no file takes
abbrev pub left : List File → List Holding → List Holding
left [] copies = copies
left (file ∷ files) copies = left files (without_first (holds file.sum) copies)

abbrev pub found : List File → List Notice
found = map (λ file. notice.Found file.path file.sum)

abbrev pub missing : List Holding → List Notice
missing = map (λ copy. notice.Missing copy.path)

-- what is noticed at these paths: the copies that new files take, then all files, then the absent copies that are left
abbrev pub noticed : List AtPath → List Notice
noticed known = renamed (new_files_of known) (absent_of known) ++ found (files_of known) ++ missing (left (new_files_of known) (absent_of known))

-- what a scan notices on a device with these copies
abbrev pub notices_of : List Holding → Contents → List Notice
notices_of holdings listing = noticed (at_paths listing.rows [] holdings)

-- the call that reports a notice of this device
abbrev pub call_of : List ℕ → Notice → Call
call_of device (notice.Renamed copy path) = Report (Relocate copy (record { device = device; path = path }))
call_of device (notice.Found path sum) = Sighting (sighting.Found (record { device = device; path = path }) sum)
call_of device (notice.Missing path) = Sighting (sighting.Missing (record { device = device; path = path }))
