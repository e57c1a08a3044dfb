use Rattle.std.proofs.Common.{◌≡◌, drop}
use Rattle.pana_log.specs.Operations.{file_of}
use Rattle.pana_log.proofs.memory.replay.Given as goal

abbrev pub invariant-loop-operation : goal.invariant-loop-operation
invariant-loop-operation l = file_of l.first l.operations ≡ file_of l.file.items (drop l.operation-index l.operations)
