use Rattle.std.proofs.Common.{◌≤◌, length}
use Rattle.pana_roots.proofs.Rooted.{NamesTo}
use Rattle.pana_roots.proofs.root.roots_of.Given as goal

abbrev pub invariant-loop-word : goal.invariant-loop-word
invariant-loop-word l = NamesTo (λ root. root.device) (λ root. root.folder.now) l.words l.word-index l.roots.items × (length l.roots.items ≤ 8)
