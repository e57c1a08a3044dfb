use Rattle.pana_hall.proofs.Words.{◌≡◌, Some, None, option_copied, sym, ap, ◌∙◌, living, content_in, entry_of, then_some}
use Rattle.pana_hall.proofs.Said.{living_told, shared_is, sum_at, told_sum}
use Rattle.pana_hall.proofs.state.State.shared.Goals as goal

pub returns-in_err-sum_by : goal.returns-in_err-sum_by
returns-in_err-sum_by c =
    let journal = c.args.self.now.journal.entries in
    let first : entry_of (content_in (living journal) c.args.a) ≡ Some c.in_ok-first.first = sym (c.requires.contents.at c.args.a) ∙ sym c.of.ensures ∙ c.in_ok-first.was in
    let told = told_sum journal _ c.in_ok-first.first (living_told journal c.args.a c.requires.accepted) first in
    let odd : None ≡ Some told.0.sum = ap option_copied (sym c.in_err-sum_by.was) ∙ c.sum_by.ensures ∙ told.3 in
    absurd (cc)

pub returns-in_err-sum_by-2 : goal.returns-in_err-sum_by-2
returns-in_err-sum_by-2 c =
    let journal = c.args.self.now.journal.entries in
    let second : entry_of (content_in (living journal) c.args.b) ≡ Some c.in_ok-second.second = sym (c.requires.contents.at c.args.b) ∙ sym c.of-2.ensures ∙ c.in_ok-second.was in
    let told = told_sum journal _ c.in_ok-second.second (living_told journal c.args.b c.requires.accepted) second in
    let odd : None ≡ Some told.0.sum = ap option_copied (sym c.in_err-sum_by-2.was) ∙ c.sum_by-2.ensures ∙ told.3 in
    absurd (cc)

pub returns : goal.returns
returns c =
    let journal = c.args.self.now.journal.entries in
    let first : entry_of (content_in (living journal) c.args.a) ≡ Some c.in_ok-first.first = sym (c.requires.contents.at c.args.a) ∙ sym c.of.ensures ∙ c.in_ok-first.was in
    let second : entry_of (content_in (living journal) c.args.b) ≡ Some c.in_ok-second.second = sym (c.requires.contents.at c.args.b) ∙ sym c.of-2.ensures ∙ c.in_ok-second.was in
    let sum_first : sum_at journal c.in_ok-first.first ≡ Some c.in_ok-sum_by.field-0.now = sym c.sum_by.ensures ∙ ap option_copied c.in_ok-sum_by.was in
    let sum_second : sum_at journal c.in_ok-second.second ≡ Some c.in_ok-sum_by-2.field-0.now = sym c.sum_by-2.ensures ∙ ap option_copied c.in_ok-sum_by-2.was in
    let all = shared_is journal _ _ _ _ _ _ (living_told journal c.args.a c.requires.accepted) (living_told journal c.args.b c.requires.accepted) first second sum_first sum_second in
    c.then_some.ensures ∙ ap (λ b. then_some b c.in_ok-first.first) c.eq.ensures ∙ all
