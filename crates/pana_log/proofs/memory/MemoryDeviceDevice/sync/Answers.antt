use Rattle.std.proofs.Common.{◌≡◌, List, ℕ, length}
use Rattle.pana_log.specs.declared.operation.Operation.{Operation}
use Rattle.pana_log.specs.declared.operation.Operation.TheVariants.{Sync}
use Rattle.pana_log.specs.Device.{Only, Elapses}
use Rattle.pana_log.specs.Operations.{file_of, MayLeave, LeftSince}
use Rattle.pana_log.proofs.Operations.{file_of-push, sync_only, sync_follows, elapses_push, moved}
use Rattle.pana_log.proofs.memory.MemoryDeviceDevice.sync.Goals as goal

pub returns-clause-durable : goal.returns-clause-durable
returns-clause-durable c known =
    let old = c.args.self.now in
    let P : List ℕ → List Operation → Type 0 = λ f l. Only (file_of old.first.items old.operations.items) (MayLeave f l) in
    moved old.first.items _ old.operations.items _ c.record.ensures.first P _ c.in_default.ensures.ok (sync_only old.first.items old.operations.items)

pub returns-clause-seen : goal.returns-clause-seen
returns-clause-seen c known =
    let old = c.args.self.now in
    let P : List ℕ → List Operation → Type 0 = λ f l. file_of f l ≡ file_of old.first.items old.operations.items in
    moved old.first.items _ old.operations.items _ c.record.ensures.first P _ c.in_default.ensures.ok (file_of-push old.first.items old.operations.items Sync)

pub returns-clause-crash : goal.returns-clause-crash
returns-clause-crash c known =
    let old = c.args.self.now in
    let P : List ℕ → List Operation → Type 0 = λ f l. (d : List ℕ) → MayLeave f l d → MayLeave old.first.items old.operations.items d in
    moved old.first.items _ old.operations.items _ c.record.ensures.first P _ c.in_default.ensures.ok (sync_follows old.first.items old.operations.items)

pub returns-clause-time : goal.returns-clause-time
returns-clause-time c known =
    let old = c.args.self.now in
    let P : List ℕ → List Operation → Type 0 = λ f l. Elapses (length old.operations.items) (length l) (LeftSince old.first.items old.operations.items) (LeftSince f l) (MayLeave f l) in
    moved old.first.items _ old.operations.items _ c.record.ensures.first P _ c.in_default.ensures.ok (elapses_push old.first.items old.operations.items Sync)
