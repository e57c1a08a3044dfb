use Rattle.std.proofs.Common.{◌≡◌, List, ℕ, drop}
use Rattle.pana_log.specs.Operations.{Left, MayLeave}
use Rattle.pana_log.proofs.memory.MemoryDevice.after_crash.Given as goal

abbrev pub invariant-loop-operation : goal.invariant-loop-operation
invariant-loop-operation l = (c : List ℕ) → Left l.file.items (λ d. d ≡ l.durable.items) (drop l.operation-index l.operations) c → MayLeave l.self.first.items l.operations c
