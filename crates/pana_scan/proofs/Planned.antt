-- The steps and the rows of a plan, path by path.
use Rattle.std.specs.Prelude.{◌≡◌, ℕ, List, [], ◌∷◌, ◌++◌, map, Option, Some, None, option_map}
use Rattle.std.specs.List.{cons_option}
use Rattle.std.specs.List.Sorted.{IsStrictlySortedBy}
use Rattle.std.proofs.Common.{refl, sym, ap, ◌∙◌, subst, append-nil, Bor}
use Rattle.pana_calls.specs.declared.holding.Holding.{Holding}
use Rattle.pana_scan.specs.declared.baseline.BaselineRow.{BaselineRow}
use Rattle.pana_scan.specs.declared.baseline.Mark.{Mark}
use Rattle.pana_scan.specs.declared.listing.FoundRow.{FoundRow}
use Rattle.pana_scan.specs.Order.{Path}
use Rattle.pana_scan.specs.Baseline.{MarksRise}
use Rattle.pana_scan.specs.Plan.{AtPath, at_path, at_paths, outcome_for, paths_of, rows_for}
use Rattle.pana_scan.proofs.Order.{IsBelow, Rise, in_order_rise}
use Rattle.pana_scan.specs.inner.Left.{HoldTheSame}
use Rattle.pana_scan.proofs.Merged.{lent, three}
use Rattle.pana_scan.proofs.Sorted.{at_paths_same}

abbrev key : BaselineRow → Path
key row = row.path

below_row : (q : Path) (path : Path) (mark : Option Mark) (rows : List BaselineRow) → IsBelow q (path ∷ map key rows)
    → IsBelow q (map key (cons_option (option_map (λ it. record { path = path; mark = it }) mark) rows))
below_row q path None rows below = below.1
below_row q path (Some mark) rows below = below

rows_below : (device : List ℕ) (q : Path) (known : List AtPath) → IsBelow q (map (λ it. it.path) known) → IsBelow q (map key (rows_for device known))
rows_below device q [] below = tt
rows_below device q (it ∷ known) below =
    below_row q it.path (outcome_for device it).mark (rows_for device known) (below.0, rows_below device q known below.1)

rise_row : (path : Path) (mark : Option Mark) (rows : List BaselineRow) → IsBelow path (map key rows) → MarksRise rows
    → MarksRise (cons_option (option_map (λ it. record { path = path; mark = it }) mark) rows)
unfolding IsStrictlySortedBy
rise_row path None rows below rise = rise
rise_row path (Some mark) rows below rise = (below, rise)

rows_rise_at : (device : List ℕ) (known : List AtPath) → Rise (map (λ it. it.path) known) → MarksRise (rows_for device known)
unfolding IsStrictlySortedBy
rows_rise_at device [] rise = tt
rows_rise_at device (it ∷ known) rise =
    rise_row it.path (outcome_for device it).mark (rows_for device known) (rows_below device it.path known rise.0) (rows_rise_at device known rise.1)

pub paths_known : (found : List FoundRow) (kept : List BaselineRow) (living : List Holding) (paths : List Path) → map (λ it. it.path) (map (at_path found kept living) paths) ≡ paths
paths_known found kept living [] = refl
paths_known found kept living (path ∷ paths) = ap (λ more. path ∷ more) (paths_known found kept living paths)

pub plan_rows_rise : (device : List ℕ) (found : List FoundRow) (kept : List BaselineRow) (living : List Holding) → MarksRise (rows_for device (at_paths found kept living))
plan_rows_rise device found kept living =
    rows_rise_at device (at_paths found kept living)
    (subst Rise (sym (paths_known found kept living (paths_of found kept living))) (in_order_rise (three found kept living)))

-- ---- for the call

pub whole : (found rows : List FoundRow) (kept base : List BaselineRow) (living sorted : List (Bor Holding)) (seen holdings : List Holding)
    → found ≡ rows → kept ≡ base → living ≡ sorted → seen ≡ holdings → HoldTheSame seen (lent sorted) → at_paths found kept (lent living) ≡ at_paths rows base holdings
whole found rows kept base living sorted seen holdings ef ek el eh alike =
    (λ i. at_paths (ef i) (ek i) (lent (el i))) ∙ at_paths_same rows base holdings (lent sorted) (subst (λ h. HoldTheSame h (lent sorted)) eh alike)

-- what was made of all, where nothing is left
pub finished : {T : Type 0} (make : List AtPath → List T) (done : List T) (left all known : List AtPath)
    → make [] ≡ [] → left ≡ [] → done ++ make left ≡ make all → all ≡ known → done ≡ make known
finished make done left all known nil none so_far is =
    sym (append-nil done) ∙ sym (ap (λ more. done ++ more) (ap make none ∙ nil)) ∙ so_far ∙ ap make is
