use Rattle.pana_hall.proofs.Words.{◌≡◌, arith, nat_tests, Some, None, sym, ap, ◌∙◌, subst, living, next_entry, report_refusal, AreSayings, Withdraw}
use Rattle.pana_hall.proofs.NextSaid.{ends, next_sayings, withdrawn_sayings}
use Rattle.pana_hall.proofs.state.State.sayings.Goals as goal

pub unwrap-kept-requires : goal.unwrap-kept-requires
unwrap-kept-requires c =
    let journal = c.args.self.now.journal.entries in
    let free : report_refusal 8 journal (living journal) c.args.by.now (Withdraw c.in-Withdraw.entry) ≡ None = ap (report_refusal 8 journal (living journal) c.args.by.now) (sym c.in-Withdraw.is) ∙ c.requires.free in
    let at = (ends journal c.args.by.now c.in-Withdraw.entry c.requires.kept.accepted free).at in
    grind (arith, nat_tests, at, c.entry.ensures)

pub returns-in-Withdraw : goal.returns-in-Withdraw
returns-in-Withdraw c =
    let journal = c.args.self.now.journal.entries in
    let free : report_refusal 8 journal (living journal) c.args.by.now (Withdraw c.in-Withdraw.entry) ≡ None = ap (report_refusal 8 journal (living journal) c.args.by.now) (sym c.in-Withdraw.is) ∙ c.requires.free in
    let it = ends journal c.args.by.now c.in-Withdraw.entry c.requires.kept.accepted free in
    let both : Some it.last ≡ Some c.unwrap-kept.result = sym it.at ∙ sym c.entry.ensures ∙ c.unwrap-kept.ensures in
    let last : it.last ≡ c.unwrap-kept.result = cc in
    let same : it.last.report ≡ c.report.result.now = ap (λ e. e.report) last ∙ sym c.report.ensures in
    subst (λ r. AreSayings journal (next_entry journal c.args.by.now r) c.args.self.now.contents.entries.items c.sayings_of.result) (sym c.in-Withdraw.is)
    (withdrawn_sayings journal c.args.by.now c.in-Withdraw.entry c.requires.kept.accepted free c.args.self.now.contents.entries.items _ _ _ _ c.sayings_of.result c.requires.kept.contents c.family.ensures c.last_said-first.ensures.first c.last_said-first.ensures.second
    same c.sayings_of.ensures.written c.sayings_of.ensures.first c.sayings_of.ensures.second)

pub returns-in_default : goal.returns-in_default
returns-in_default c =
    next_sayings c.args.self.now.journal.entries c.args.by.now c.args.report.now c.requires.kept.accepted c.requires.free c.args.self.now.contents.entries.items _ c.length.result c.sayings_of-in_default.result c.requires.kept.contents c.in_default.not-Withdraw
    c.content_by-said.ensures c.length.ensures.length c.sayings_of-in_default.ensures.written c.sayings_of-in_default.ensures.first c.sayings_of-in_default.ensures.second
