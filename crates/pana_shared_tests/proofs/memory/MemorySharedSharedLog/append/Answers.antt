use Rattle.std.proofs.Common.{◌≡◌, length, sym, subst}
use native.Mathlib.Omega.{arith}
use Rattle.pana_shared.specs.Log.{LogView, Reads}
use Rattle.pana_shared_tests.specs.Memory.{seen_of}
use Rattle.pana_shared_tests.proofs.Remembered.{came_found, came_to}
use Rattle.pana_shared_tests.proofs.memory.MemorySharedSharedLog.append.Goals as goal

pub returns-in-Some-clause-came : goal.returns-in-Some-clause-came
returns-in-Some-clause-came c known =
    let reads = subst (λ (v : LogView). Reads (seen_of c.args.self.now) v) (sym c.next_fate-fate.ensures.seen) c.wait.ensures.reads in
    (came_found (seen_of c.args.self.now) (seen_of c.next_fate-fate.new.self) (seen_of c.find.new.self) c.args.at c.args.group.now (c.requires known) reads c.find.result c.in-Some.page c.in-Some.is c.find.ensures.found).0

pub returns-clause-came : goal.returns-clause-came
returns-clause-came c known =
    let reads = subst (λ (v : LogView). Reads (seen_of c.args.self.now) v) (sym c.next_fate-fate.ensures.seen) c.wait.ensures.reads in
    let even : length c.next_fate-fate.new.self.records.items ≡ c.args.at = (let l = c.len-len.ensures in let k = c.next_fate-fate.new.self.records.ok.0 in let a = c.if-len-at.false in let b = c.if-len-at-2.false in omega (arith, l, k, a, b)) in
    came_to (seen_of c.args.self.now) (seen_of c.next_fate-fate.new.self) (seen_of c.come_to.new.self) c.args.at c.args.group.now (c.requires known) reads c.next_fate-fate.result c.come_to.result even c.come_to.ensures.comes
