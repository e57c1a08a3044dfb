use Rattle.std.proofs.Common.{◌≡◌, ◌+◌, ◌-◌, [], ◌∷◌, ◌++◌, take, ap, sym, ◌∙◌, arith}
use Rattle.pana_journal.proofs.Pages.{page_next}
use Rattle.pana_shared_store.proofs.remaking.follow_first.Goals as goal

pub loop-index-preserved : goal.loop-index-preserved
loop-index-preserved c =
    let all = c.args.other.now in
    let same : c.loop-index.index ≡ c.loop-index.index - 0 = omega arith in
    let next : c.loop-index.index + 1 - 0 ≡ c.loop-index.index + 1 = omega arith in
    c.in_ok-follow.ensures.ok
    ∙ ap (λ l. l ++ c.in_ok-entry.entry ∷ []) (c.loop-index.invariant ∙ ap (λ j. take j all) same)
    ∙ page_next all 0 c.loop-index.index c.in_ok-entry.entry (omega arith) (sym c.in_ok-entry.ensures)
    ∙ ap (λ j. take j all) next
