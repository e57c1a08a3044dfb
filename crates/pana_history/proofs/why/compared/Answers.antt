use Rattle.std.proofs.Common.{◌∙◌, List, ℕ, sym, ap₂}
use Rattle.pana_history.specs.Lacking.{lacking}
use Rattle.pana_history.specs.Why.{difference_text}
use Rattle.pana_history.proofs.Asked.{if_ok_both}
use Rattle.pana_history.proofs.Explained.{are_apart, are_one, there}
use Rattle.pana_history.proofs.why.compared.Goals as goal

pub returns-then-ours-theirs : goal.returns-then-ours-theirs
returns-then-ours-theirs c =
    let here = there c.args.journal c.args.first.now c.args.ours.now c.requires.accepted c.requires.ours in
    let other = there c.args.journal c.args.second.now c.args.theirs.now c.requires.accepted c.requires.theirs in
    let apart = are_apart c.args.journal c.args.first.now c.args.second.now c.args.ours.now here c.args.theirs.now other c.if-ours-theirs.true in
    if_ok_both _ _ _ (λ explanation text related. record { text = text ∙ sym apart.0; related = related ∙ sym apart.1 }) c.unrelated.result c.unrelated.ensures.text c.unrelated.ensures.related

pub related-requires-clause-ours : goal.related-requires-clause-ours
related-requires-clause-ours c = (there c.args.journal c.args.first.now c.args.ours.now c.requires.accepted c.requires.ours).of

pub related-requires-clause-theirs : goal.related-requires-clause-theirs
related-requires-clause-theirs c = (there c.args.journal c.args.second.now c.args.theirs.now c.requires.accepted c.requires.theirs).of ∙ sym c.if-ours-theirs.false

pub returns : goal.returns
returns c =
    let here = there c.args.journal c.args.first.now c.args.ours.now c.requires.accepted c.requires.ours in
    let other = there c.args.journal c.args.second.now c.args.theirs.now c.requires.accepted c.requires.theirs in
    let one = are_one c.args.journal c.args.first.now c.args.second.now c.args.ours.now here c.args.theirs.now other c.if-ours-theirs.false in
    let ours = lacking c.args.journal c.args.ours.now.family c.args.ours.now.copy c.args.theirs.now.copy in
    let theirs = lacking c.args.journal c.args.ours.now.family c.args.theirs.now.copy c.args.ours.now.copy in
    let names = ap₂ (λ (a b : List ℕ). difference_text a b ours theirs) (c.as_str.ensures.value ∙ c.in_ok-first.ensures) (c.as_str-2.ensures.value ∙ c.in_ok-second.ensures) in
    if_ok_both _ _ _ (λ explanation text related. record { text = text ∙ names ∙ sym one.0; related = related ∙ sym one.1 }) c.related.result c.related.ensures.text c.related.ensures.related
