use Rattle.std.proofs.Common.{◌≡◌, true, false, take}
use Rattle.std.specs.List.{AllByRecursion}
use Rattle.pana_shared_store.specs.Store.{asks_all}
use Rattle.pana_shared_store.proofs.grouping.are_questions.Given as goal

abbrev pub invariant-loop-message : goal.invariant-loop-message
invariant-loop-message l = AllByRecursion (λ m. asks_all true m.call ≡ false) (take l.message-index l.calls)
