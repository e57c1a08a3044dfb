use Rattle.std.proofs.Common.{◌≡◌, ◌==◌, Bool, Bor, cond, sym, ap, ◌∙◌}
use Rattle.pana_calls.specs.Session.{one}
use Rattle.pana_copies.specs.declared.place.Place.{Place}
use Rattle.std.proofs.lemmas.Bool.{eq-eqb, ne_eqb}
use Rattle.pana_ask.proofs.Judged.{gone_since}
use Rattle.pana_ask.proofs.overwriting.may_overwrite.Goals as goal
use Rattle.pana_ask.proofs.overwriting.may_overwrite.Goals.{then-gone-copy, else-gone-copy}

pub returns-in-Some-clause-err : goal.returns-in-Some-clause-err
returns-in-Some-clause-err g c =
    let now = λ (r : Bor Place). r.now in
    let chosen = λ (b : Bool). cond b c.args.target.now c.args.source.now in
    let place : c.in_ok-copy_of.field-0 ≡ cond (c.in-Some.gone == c.in_ok-copy.copy) c.args.target.now c.args.source.now =
    elim c.if-gone-copy.branch [
      | then-gone-copy w ↦ c.in_ok-copy_of.ensures ∙ ap now w.place-is ∙ sym (ap chosen (eq-eqb c.in-Some.gone c.in_ok-copy.copy w.if-gone-copy.true))
      | else-gone-copy w ↦ c.in_ok-copy_of.ensures ∙ ap now w.place-is ∙ sym (ap chosen (ne_eqb c.in-Some.gone c.in_ok-copy.copy w.if-gone-copy.false))
    ] in
    gone_since g.S.Session.step (one g.S.Session.fails) c.args.by.now c.args.target.now c.args.source.now c.args.session.now c.copies_at.new.session c.call.new.self
    c.in_ok-copy.copy c.in_ok-copy.other c.in-Some.gone c.in_ok-answer.answer c.in_ok-copy_of.field-0
    c.in_ok-copy.ensures.ok c.in_ok-answer.ensures.step (sym c.read_answer-gone.ensures.gone ∙ c.in-Some.is) place
