use Rattle.std.proofs.Common.{List, [], ◌∷◌, ◌++◌, sym, ap₂, ◌∙◌}
use Rattle.pana_journal.specs.declared.entry.Entry.{Entry}
use Rattle.pana_history.proofs.Found.{next_item}
use Rattle.pana_history.proofs.why.copy_of.Goals as goal

pub loop-entry-preserved : goal.loop-entry-preserved
loop-entry-preserved c =
    c.in_ok-push.ensures.items ∙ ap₂ (λ (l : List Entry) (e : Entry). l ++ e ∷ []) c.loop-entry.invariant c.in_ok-copy_of.ensures
    ∙ sym (next_item c.args.entries.now c.loop-entry.entry-index c.entry-item.result c.loop-entry-test.true c.entry-item.is)
