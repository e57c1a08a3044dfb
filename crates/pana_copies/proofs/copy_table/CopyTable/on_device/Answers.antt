use Rattle.std.proofs.Common.{◌≡◌, ◌==◌, true, ◌↔◌, subst}
use Rattle.std.proofs.lemmas.List.Sorted.{list_any-IsPermutation}
use Rattle.pana_copies.specs.Spots.{IsOnDevice}
use Rattle.pana_copies.proofs.Paths.{rising_sorted}
use Rattle.pana_copies.proofs.copy_table.CopyTable.on_device.Goals as goal

pub returns-clause-rising : goal.returns-clause-rising
returns-clause-rising c = rising_sorted _ _ c.in_ok-copies.ensures.once c.sort_unstable.ensures.permutation c.sort_unstable.ensures.sorted

pub returns-clause-found : goal.returns-clause-found
returns-clause-found c = λ copy.
    subst (λ b. (b ≡ true) ↔ IsOnDevice c.args.self.now c.args.device.now c.args.from copy) (list_any-IsPermutation (λ n. n == copy) c.in_ok-copies.copies.items c.sort_unstable.new.self.items c.sort_unstable.ensures.permutation)
    (c.in_ok-copies.ensures.found copy)
