use Rattle.std.proofs.Common.{length, ap, sym, subst, ◌∙◌, arith}
use Rattle.pana_journal.specs.Entries.{Contents, IsNumbered}
use Rattle.pana_journal.proofs.Lines.{entries_count, kept_numbered}
use Rattle.pana_journal.proofs.journal.Journal.length.Goals as goal

pub returns-clause-length : goal.returns-clause-length
returns-clause-length c =
    let inside = c.self.inside in
    c.len.ensures
    ∙ inside.lines.ok.0
    ∙ sym (entries_count inside.names.items inside.others.items 1 inside.lines.items)
    ∙ ap (λ (j : Contents). length j.entries) c.self.view_is

pub returns-clause-within : goal.returns-clause-within
returns-clause-within c = omega (arith, returns-clause-length c, c.len.ensures, c.self.invariant.4)

pub returns-clause-numbered : goal.returns-clause-numbered
returns-clause-numbered c =
    let inside = c.self.inside in
    subst IsNumbered (ap (λ (j : Contents). j.entries) c.self.view_is) (kept_numbered inside.names.items inside.others.items inside.lines.items)
