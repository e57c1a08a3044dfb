use Rattle.std.proofs.Common.{[], ◌∷◌, ◌++◌, ap, ◌∙◌, arith}
use Rattle.pana_journal.proofs.Pages.{page_is, page_next}
use Rattle.pana_journal.proofs.journal.Journal.slice.Goals as goal

pub copy_behind-requires : goal.copy_behind-requires
copy_behind-requires c = omega (arith, c.loop-index-test.true, c.min-first.ensures, c.min-count.ensures, c.length.ensures.length, c.length-2.ensures.length)

pub loop-index-preserved : goal.loop-index-preserved
loop-index-preserved c =
    c.in_ok-push.ensures.items
    ∙ ap (λ l. l ++ c.in_ok-copy_behind.field-0 ∷ []) c.loop-index.invariant
    ∙ page_next c.args.self.now.entries c.min-first.result c.loop-index.index c.in_ok-copy_behind.field-0 (omega (arith, c.loop-index.auto.index)) c.in_ok-copy_behind.ensures

pub returns : goal.returns
returns c =
    c.from_vec.ensures
    ∙ c.loop-index.invariant
    ∙ page_is c.args.self.now.entries c.args.from c.min-first.result c.min-count.result c.loop-index.index
    (omega (arith, c.min-first.ensures, c.saturating_sub.ensures, c.length.ensures.length))
    (omega (arith, c.min-count.ensures, c.length-2.ensures.length))
    (omega (arith, c.loop-index-test.false, c.loop-index.auto.index, c.loop-index.auto.index-end))
