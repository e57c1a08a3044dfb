use Rattle.std.proofs.Common.{◌≡◌, List, ℕ, ◌∙◌, ap, subst, rules}
use Rattle.std.proofs.lemmas.Result.{err_from_is_err_and}
use Rattle.pana_wire.specs.Lines.{lines_of}
use Rattle.pana_log.specs.Lines.{recovered, text_of}
use Rattle.pana_wire.specs.DumpLines.{Say}
use Rattle.pana_seal.specs.Seal.{Covers, IsIntact}
use Rattle.pana_store.specs.Opening.{HaveNoHall}
use Rattle.pana_store.proofs.Texts.{lines_again, open_fault}
use Rattle.pana_store.proofs.opening.read.Goals as goal

pub returns-in_err-hall-clause-fault : goal.returns-in_err-hall-clause-fault
returns-in_err-hall-clause-fault g c =
    let file = g.D.Device.seen c.args.log.now.device in
    let fault = c.in_err-hall.field-0.0 in
    let p = err_from_is_err_and c.from_residual-in_err-hall.result c.from_residual-in_err-hall.ensures.1 in
    rw (p.1, p.2)
    (λ known. let text : c.deref.result.now ≡ text_of (recovered file) = search (rules, c.in_ok-text.ensures.text, known) in
    open_fault (g.D.Device.has_failed c.read.new.self.device) file fault (subst (λ (ls : List (List ℕ)). HaveNoHall ls fault) (ap lines_of text ∙ lines_again file) c.in_err-hall.ensures.fault))

pub returns-clause-hall : goal.returns-clause-hall
returns-clause-hall g c known =
    let file = g.D.Device.seen c.args.log.now.device in
    let text : c.deref.result.now ≡ text_of (recovered file) = search (rules, c.in_ok-text.ensures.text, known) in
    let same : lines_of c.deref.result.now ≡ recovered file = ap lines_of text ∙ lines_again file in
    (subst (λ (ls : List (List ℕ)). Say ls c.in_ok-hall.hall) same c.in_ok-hall.ensures.says, subst IsIntact same c.in_ok-hall.ensures.intact)

pub returns-clause-covers : goal.returns-clause-covers
returns-clause-covers g c known =
    let file = g.D.Device.seen c.args.log.now.device in
    let text : c.deref.result.now ≡ text_of (recovered file) = search (rules, c.in_ok-text.ensures.text, known) in
    subst (λ (ls : List (List ℕ)). Covers c.in_ok-hall.sealer (text_of ls)) (ap lines_of text ∙ lines_again file) c.in_ok-hall.ensures.covers
