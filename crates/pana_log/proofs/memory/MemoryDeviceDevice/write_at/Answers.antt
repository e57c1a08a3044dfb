use Rattle.std.proofs.Common.{◌≡◌, List, ℕ, length, subst, rules}
use Rattle.pana_log.specs.declared.operation.Operation.{Operation}
use Rattle.pana_log.specs.declared.operation.Operation.TheVariants.{Write}
use Rattle.pana_log.specs.Device.{Holds, Torn, Follows, Elapses}
use Rattle.pana_log.specs.Operations.{file_of, MayLeave, LeftSince}
use Rattle.pana_log.proofs.Operations.{file_of-push, torn_written, write_follows, elapses_push, moved}
use Rattle.pana_log.proofs.memory.MemoryDeviceDevice.write_at.Goals as goal

pub returns-clause-written : goal.returns-clause-written
returns-clause-written c known =
    let old = c.args.self.now in
    let same : c.in-Ok.bytes.items ≡ c.args.bytes.now = search rules in
    let now = file_of old.first.items old.operations.items in
    let call = Write c.args.at c.in-Ok.bytes in
    let P : List ℕ → List Operation → Type 0 = λ f l. Holds now c.args.at c.in-Ok.bytes.items (file_of f l) in
    subst (λ (b : List ℕ). Holds now c.args.at b (file_of c.record.new.self.first.items c.record.new.self.operations.items)) same
    (moved old.first.items _ old.operations.items _ c.record.ensures.first P _ c.in_ok-record.ensures.ok (file_of-push old.first.items old.operations.items call))

pub returns-clause-others : goal.returns-clause-others
returns-clause-others c known =
    let old = c.args.self.now in
    let same : c.in-Ok.bytes.items ≡ c.args.bytes.now = search rules in
    let now = file_of old.first.items old.operations.items in
    let call = Write c.args.at c.in-Ok.bytes in
    let P : List ℕ → List Operation → Type 0 = λ f l. Torn c.args.at (length c.in-Ok.bytes.items) now (file_of f l) in
    subst (λ (b : List ℕ). Torn c.args.at (length b) now (file_of c.record.new.self.first.items c.record.new.self.operations.items)) same
    (moved old.first.items _ old.operations.items _ c.record.ensures.first P _ c.in_ok-record.ensures.ok (torn_written c.args.at c.in-Ok.bytes.items now _ (c.requires.within known) (file_of-push old.first.items old.operations.items call)))

pub returns-clause-crash : goal.returns-clause-crash
returns-clause-crash c known =
    let old = c.args.self.now in
    let same : c.in-Ok.bytes.items ≡ c.args.bytes.now = search rules in
    let P : List ℕ → List Operation → Type 0 = λ f l. Follows (Torn c.args.at (length c.in-Ok.bytes.items)) (MayLeave old.first.items old.operations.items) (MayLeave f l) in
    subst (λ (b : List ℕ). Follows (Torn c.args.at (length b)) (MayLeave old.first.items old.operations.items) (MayLeave c.record.new.self.first.items c.record.new.self.operations.items)) same
    (moved old.first.items _ old.operations.items _ c.record.ensures.first P _ c.in_ok-record.ensures.ok (write_follows old.first.items old.operations.items c.args.at c.in-Ok.bytes (c.requires.within known)))

pub returns-clause-time : goal.returns-clause-time
returns-clause-time c known =
    let old = c.args.self.now in
    let P : List ℕ → List Operation → Type 0 = λ f l. Elapses (length old.operations.items) (length l) (LeftSince old.first.items old.operations.items) (LeftSince f l) (MayLeave f l) in
    moved old.first.items _ old.operations.items _ c.record.ensures.first P _ c.in_ok-record.ensures.ok (elapses_push old.first.items old.operations.items (Write c.args.at c.in-Ok.bytes))
