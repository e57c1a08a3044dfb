use Rattle.std.proofs.Common.{List, Option, subst, sym, ap, ◌∙◌}
use Rattle.pana_journal.specs.declared.entry.Entry.{Entry}
use Rattle.pana_history.specs.Pages.{next_after}
use Rattle.pana_history.specs.inner.Pages.{AsksPage}
use Rattle.pana_history.proofs.Paged.{PagedSoFar, ends, goes_on, none_yet, was_ok}
use Rattle.pana_history.proofs.pages.journal_of.Goals as goal

pub loop-init : goal.loop-init
loop-init g c =
    subst (λ (entries : List Entry). PagedSoFar g.S.Session.step c.args.by.now 1 c.args.session.now c.args.session.now entries) (sym c.new-entries.ensures)
    (none_yet g.S.Session.step c.args.by.now c.args.session.now)

pub returns-in-None-clause-ok : goal.returns-in-None-clause-ok
returns-in-None-clause-ok g c =
    ends g.S.Session.step c.args.by.now c.loop.from c.args.session.now c.loop.session c.loop.entries c.loop.invariant c.page_from.new.session c.in-Some.page
    (subst (λ (page : Option (List Entry)). AsksPage g.S.Session.step c.args.by.now c.loop.from c.loop.session c.page_from.new.session page) c.in-Some.is c.in_ok-page.ensures.ok)
    c.append.new.self (was_ok c.append.result _ c.append.ensures.ok (sym c.is_err.ensures.value ∙ c.if-is_err.false))
    (sym (ap (next_after c.loop.from) c.as_slice.ensures) ∙ sym c.next_after-next.ensures ∙ c.in-None.is)

pub loop-preserved : goal.loop-preserved
loop-preserved g c =
    goes_on g.S.Session.step c.args.by.now c.loop.from c.args.session.now c.loop.session c.loop.entries c.loop.invariant c.page_from.new.session c.in-Some.page
    (subst (λ (page : Option (List Entry)). AsksPage g.S.Session.step c.args.by.now c.loop.from c.loop.session c.page_from.new.session page) c.in-Some.is c.in_ok-page.ensures.ok)
    c.append.new.self (was_ok c.append.result _ c.append.ensures.ok (sym c.is_err.ensures.value ∙ c.if-is_err.false)) c.in-Some-next.number
    (sym (ap (next_after c.loop.from) c.as_slice.ensures) ∙ sym c.next_after-next.ensures ∙ c.in-Some-next.is)
