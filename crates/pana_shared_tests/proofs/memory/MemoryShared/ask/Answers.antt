use Rattle.std.proofs.Common.{rules, ◌≡◌, true, refl, is_ok}
use Rattle.pana_shared_tests.specs.Memory.{seen_of}
use Rattle.pana_shared_tests.proofs.Remembered.{ask_other, ask_same}
use Rattle.pana_shared_tests.proofs.memory.MemoryShared.ask.Goals as goal

pub returns-then-self-at-clause-asked : goal.returns-then-self-at-clause-asked
returns-then-self-at-clause-asked c yes_it_is =
    let ok : is_ok c.insert.result ≡ true = search rules in
    ask_other _ (seen_of c.args.self.now) c.args.at c.args.group.now c.args.self.now.loose.items c.insert.new.self.items c.in-Ok.copy (is_ok c.insert.result) ok c.insert.ensures.items c.in-Ok.ensures refl c.truncate.new.self.items c.truncate.ensures.items c.if-self-at.true

pub returns-else-self-at-clause-asked : goal.returns-else-self-at-clause-asked
returns-else-self-at-clause-asked c yes_it_is =
    let ok : is_ok c.insert.result ≡ true = search rules in
    ask_same _ (seen_of c.args.self.now) c.args.at c.args.group.now c.args.self.now.loose.items c.insert.new.self.items c.in-Ok.copy (is_ok c.insert.result) ok c.insert.ensures.items c.in-Ok.ensures refl c.if-self-at.false
