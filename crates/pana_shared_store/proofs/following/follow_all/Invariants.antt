use Rattle.std.proofs.Common.{◌≡◌, ◌++◌, take}
use Rattle.pana_shared_store.specs.Store.{entries_in}
use Rattle.pana_shared_store.proofs.following.follow_all.Given as goal

-- the entries so far
abbrev pub invariant-loop-found : goal.invariant-loop-found
invariant-loop-found l = l.hall ≡ l.fn.hall ++ entries_in (take l.found-index l.page)
