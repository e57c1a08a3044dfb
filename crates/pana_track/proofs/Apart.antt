-- Copies that are tracked, among copies each of which has a path of its own.
use Rattle.std.proofs.Common.{◌≢◌, Bool, true, false, List, [], ◌∷◌, filter, cond}
use Rattle.std.specs.List.{AllByRecursion}
use Rattle.pana_calls.specs.declared.holding.Holding.{Holding}
use Rattle.pana_calls.specs.Holdings.{HaveOwnPaths}

module _ (test : Holding → Bool) where
  first_too : (P : Holding → Type 0) (copy : Holding) (left : List Holding) (b : Bool) → P copy → AllByRecursion P left → AllByRecursion P (cond b (copy ∷ left) left)
  first_too P copy left true first all = (first, all)
  first_too P copy left false first all = all

  all_left : (P : Holding → Type 0) (copies : List Holding) → AllByRecursion P copies → AllByRecursion P (filter test copies)
  all_left P [] all = tt
  all_left P (copy ∷ copies) all = first_too P copy (filter test copies) (test copy) all.0 (all_left P copies all.1)

  first_apart : (copy : Holding) (left : List Holding) (b : Bool) → AllByRecursion (λ other. copy.path ≢ other.path) left → HaveOwnPaths left → HaveOwnPaths (cond b (copy ∷ left) left)
  first_apart copy left true first all = (first, all)
  first_apart copy left false first all = all

  pub left_apart : (copies : List Holding) → HaveOwnPaths copies → HaveOwnPaths (filter test copies)
  left_apart [] apart = tt
  left_apart (copy ∷ copies) apart =
      first_apart copy (filter test copies) (test copy) (all_left (λ other. copy.path ≢ other.path) copies apart.0) (left_apart copies apart.1)
