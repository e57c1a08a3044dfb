-- The laws of notices: the paths that are found rise, and each absent copy is renamed or missing.
use Rattle.std.specs.Prelude.{◌≡◌, ℕ, ◌+◌, Bool, true, false, cond, List, [], ◌∷◌, Option, Some, None, map, find, filter_map, option_map, count_by}
use Rattle.std.specs.List.{cons_option}
use Rattle.std.specs.List.Sorted.{IsStrictlySortedBy}
use Rattle.std.specs.declared.cmp.Ordering.TheVariants.{Less}
use Rattle.std.proofs.Common.{refl, sym, ap, ◌∙◌, subst, arith}
use Rattle.std.proofs.lemmas.List.Sums.{sum_by-cons}
use Rattle.pana_calls.specs.declared.holding.Holding.{Holding}
use Rattle.pana_scan.specs.declared.listing.Found.{Found}
use Rattle.pana_scan.specs.declared.listing.Found.TheVariants.{Seen, Unreadable}
use Rattle.pana_scan.specs.declared.notices.Notice.TheVariants.{Renamed}
use Rattle.pana_scan.specs.Order.{Path, path_cmp}
use Rattle.pana_scan.specs.Listing.{Contents}
use Rattle.pana_scan.specs.Plan.{AtPath, at_paths, paths_of}
use Rattle.pana_scan.specs.Notice.{File, file_at, files_of, holds, left, renamed, without_first}
use Rattle.pana_scan.specs.laws.Notices.{renamed_number, taken}
use Rattle.pana_scan.proofs.Order.{IsBelow, Rise, in_order_rise}
use Rattle.pana_scan.proofs.Merged.{three}
use Rattle.pana_scan.proofs.Planned.{paths_known}

-- ---- the paths that are found

abbrev path_of : File → Path
path_of file = file.path

below_file : (q path : Path) (found : Option Found) (files : List File) → path_cmp q path ≡ Less → IsBelow q (map path_of files)
    → IsBelow q (map path_of (cons_option (file_at path found) files))
below_file q path None files less below = below
below_file q path (Some Unreadable) files less below = below
below_file q path (Some (Seen digest)) files less below = (less, below)

files_below : (q : Path) (known : List AtPath) → IsBelow q (map (λ it. it.path) known) → IsBelow q (map path_of (files_of known))
files_below q [] below = tt
files_below q (it ∷ known) below = below_file q it.path it.found (files_of known) below.0 (files_below q known below.1)

rise_file : (path : Path) (found : Option Found) (files : List File) → IsBelow path (map path_of files) → Rise (map path_of files)
    → Rise (map path_of (cons_option (file_at path found) files))
unfolding IsStrictlySortedBy
rise_file path None files below rise = rise
rise_file path (Some Unreadable) files below rise = rise
rise_file path (Some (Seen digest)) files below rise = (below, rise)

files_rise : (known : List AtPath) → Rise (map (λ it. it.path) known) → Rise (map path_of (files_of known))
unfolding IsStrictlySortedBy
files_rise [] rise = rise
files_rise (it ∷ known) rise = rise_file it.path it.found (files_of known) (files_below it.path known rise.0) (files_rise known rise.1)

pub found_once : (holdings : List Holding) (listing : Contents) → Rise (map path_of (files_of (at_paths listing.rows [] holdings)))
found_once holdings listing =
    files_rise (at_paths listing.rows [] holdings)
    (subst Rise (sym (paths_known listing.rows [] holdings (paths_of listing.rows [] holdings))) (in_order_rise (three listing.rows [] holdings)))

-- ---- the copies that are taken, and those that are left

numbers_more : (path : Path) (o : Option Holding) (files : List File) (copies others : List Holding)
    → filter_map renamed_number (renamed files copies) ≡ map (λ copy. copy.copy) others
    → filter_map renamed_number (cons_option (option_map (λ copy. Renamed copy.copy path) o) (renamed files copies)) ≡ map (λ copy. copy.copy) (cons_option o others)
numbers_more path None files copies others is = is
numbers_more path (Some copy) files copies others is = ap (λ more. copy.copy ∷ more) is

pub taken_numbers : (files : List File) (copies : List Holding) → filter_map renamed_number (renamed files copies) ≡ map (λ copy. copy.copy) (taken files copies)
taken_numbers [] copies = refl
taken_numbers (file ∷ files) copies =
    let more = without_first (holds file.sum) copies in
    numbers_more file.path (find (holds file.sum) copies) files more (taken files more) (taken_numbers files more)

module _ (test : Holding → Bool) where
  one_more : (copy : Holding) (copies : List Holding) → count_by test (copy ∷ copies) ≡ cond (test copy) 1 0 + count_by test copies
  one_more copy copies = sum_by-cons (λ it. cond (test it) 1 0) copy copies

  split_here : (copy : Holding) (copies more : List Holding) → count_by test (copy ∷ copies) + count_by test more ≡ count_by test (copy ∷ more) + count_by test copies
  split_here copy copies more = omega (arith, one_more copy copies, one_more copy more)

  split_later : (copy : Holding) (copies more others fewer : List Holding) → count_by test copies + count_by test more ≡ count_by test others + count_by test fewer
      → count_by test (copy ∷ copies) + count_by test more ≡ count_by test others + count_by test (copy ∷ fewer)
  split_later copy copies more others fewer rest = omega (arith, rest, one_more copy copies, one_more copy fewer)

  -- the first that passes, and all others
  count_split : (is : Holding → Bool) (copies more : List Holding)
      → count_by test copies + count_by test more ≡ count_by test (cons_option (find is copies) more) + count_by test (without_first is copies)
  count_split is [] more = omega arith
  count_split is (copy ∷ copies) more =
      elim (is copy) as (λ b. count_by test (copy ∷ copies) + count_by test more
      ≡ count_by test (cons_option (cond b (Some copy) (find is copies)) more) + count_by test (cond b copies (copy ∷ without_first is copies))) [
        | true ↦ split_here copy copies more
        | false ↦ split_later copy copies more (cons_option (find is copies) more) (without_first is copies) (count_split is copies more)
      ]

  pub copies_shared : (files : List File) (copies : List Holding) → count_by test copies ≡ count_by test (taken files copies) + count_by test (left files copies)
  copies_shared [] copies = omega arith
  copies_shared (file ∷ files) copies =
      let more = without_first (holds file.sum) copies in
      let split = count_split (holds file.sum) copies (taken files more) in
      let rest : count_by test more ≡ count_by test (taken files more) + count_by test (left files more) = copies_shared files more in
      omega arith
