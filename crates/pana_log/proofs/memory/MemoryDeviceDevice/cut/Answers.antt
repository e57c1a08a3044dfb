use Rattle.std.proofs.Common.{◌≡◌, List, ℕ, length, take}
use Rattle.pana_log.specs.declared.operation.Operation.{Operation}
use Rattle.pana_log.specs.declared.operation.Operation.TheVariants.{Cut}
use Rattle.pana_log.specs.Device.{IsCut, Follows, Elapses}
use Rattle.pana_log.specs.Operations.{file_of, MayLeave, LeftSince}
use Rattle.pana_log.proofs.Operations.{file_of-push, cut_same, cut_follows, elapses_push, moved}
use Rattle.pana_log.proofs.memory.MemoryDeviceDevice.cut.Goals as goal

pub returns-in_err-record-clause-crash : goal.returns-in_err-record-clause-crash
returns-in_err-record-clause-crash c known =
    let old = c.args.self.now in
    let P : List ℕ → List Operation → Type 0 = λ f l. Follows (IsCut c.args.len) (MayLeave old.first.items old.operations.items) (MayLeave f l) in
    moved old.first.items _ old.operations.items _ c.record.ensures.first P _ c.in_err-record.ensures.err (λ d left. (d, left, cut_same c.args.len d))

pub returns-clause-cut : goal.returns-clause-cut
returns-clause-cut c known =
    let old = c.args.self.now in
    let P : List ℕ → List Operation → Type 0 = λ f l. file_of f l ≡ take c.args.len (file_of old.first.items old.operations.items) in
    moved old.first.items _ old.operations.items _ c.record.ensures.first P _ c.in_ok-record.ensures.ok (file_of-push old.first.items old.operations.items (Cut c.args.len))

pub returns-clause-crash : goal.returns-clause-crash
returns-clause-crash c known =
    let old = c.args.self.now in
    let P : List ℕ → List Operation → Type 0 = λ f l. Follows (IsCut c.args.len) (MayLeave old.first.items old.operations.items) (MayLeave f l) in
    moved old.first.items _ old.operations.items _ c.record.ensures.first P _ c.in_ok-record.ensures.ok (cut_follows old.first.items old.operations.items c.args.len (c.requires.within known))

pub returns-clause-time : goal.returns-clause-time
returns-clause-time c known =
    let old = c.args.self.now in
    let P : List ℕ → List Operation → Type 0 = λ f l. Elapses (length old.operations.items) (length l) (LeftSince old.first.items old.operations.items) (LeftSince f l) (MayLeave f l) in
    moved old.first.items _ old.operations.items _ c.record.ensures.first P _ c.in_ok-record.ensures.ok (elapses_push old.first.items old.operations.items (Cut c.args.len))
