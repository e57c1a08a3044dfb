use Rattle.pana_hall.proofs.Words.{◌≡◌, ◌+◌, List, Entry, length, subst}
use Rattle.pana_hall.specs.declared.next.Next.{Next}
use Rattle.pana_hall.specs.inner.Next.{IsNext, IsSecond, next_of}
use Rattle.pana_hall.proofs.state.State.commit.Goals as goal

-- a next entry is that of its parts
same : (journal : List Entry) (next : Next) → next.entry.number ≡ length journal + 1
    → next ≡ next_of journal next.entry.by next.entry.report (record { position = next.position; sayings = next.sayings; step = next.step })
same journal next number = λ j. record { entry = record { number = number j; by = next.entry.by; report = next.entry.report }; position = next.position; sayings = next.sayings; step = next.step }

pub make-requires-clause-next : goal.make-requires-clause-next
make-requires-clause-next c = subst (IsNext c.args.self.now) (same c.args.self.now.journal.entries c.args.next c.requires.next.number) c.requires.next

pub returns-clause-behind : goal.returns-clause-behind
returns-clause-behind c = λ second is.
    c.make.ensures.behind second (subst (λ next. IsSecond c.args.self.now next second) (same c.args.self.now.journal.entries c.args.next c.requires.next.number) is)
