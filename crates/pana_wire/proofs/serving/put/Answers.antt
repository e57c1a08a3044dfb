-- Where there is no room, what was held is written, and then the line; a write that fails leaves a prefix of both.
use Rattle.std.proofs.Common.{rules, ◌≡◌, List, ℕ, [], ◌∷◌, ◌++◌, subst, ◌∙◌, inr}
use Rattle.std.proofs.lemmas.Result.{err_from_is_err_and}
use Rattle.pana_wire.specs.inner.Writing.{Writes, WritesPrefix}
use Rattle.pana_wire.proofs.Groups.{kept_written, not_held}
use Rattle.pana_wire.proofs.Prefixes.{writes_both, breaks_first, breaks_second}
use Rattle.pana_wire.proofs.serving.put.Goals as goal

pub returns-in_err-write_whole-clause-err : goal.returns-in_err-write_whole-clause-err
returns-in_err-write_whole-clause-err g c =
    let contents = g.W.Write.contents in
    let new = c.settle.new.self in
    let moment = g.S.Session.moment new in
    let a = c.args.writer.now in
    let b = c.write_whole.new.writer in
    let settled : g.S.Session.settles c.args.session.now new = search rules in
    let held : c.as_slice.result.now ≡ c.args.answers.now = c.as_slice.ensures ∙ not_held _ _ _ _ c.if-hold.false c.hold.ensures.held in
    let why = c.in_err-write_whole.field-0.0 in
    let p = err_from_is_err_and c.from_residual.result c.from_residual.ensures.1 in
    rw (p.1, p.2) (kept_written contents g.S.Session.step g.S.Session.keeps_together g.S.Session.fails g.S.Session.settles g.S.Session.breaks_off g.S.Session.moment a b c.args.session.now new (c.args.answers.now ++ (c.args.text.now ++ 10 ∷ [])) why settled
    (breaks_first contents moment a b c.args.answers.now (c.args.text.now ++ 10 ∷ []) why (subst (λ (l : List ℕ). WritesPrefix contents moment a b l why) held c.in_err-write_whole.ensures.err)))

pub returns-in_err-write_line-clause-err : goal.returns-in_err-write_line-clause-err
returns-in_err-write_line-clause-err g c =
    let contents = g.W.Write.contents in
    let new = c.settle.new.self in
    let moment = g.S.Session.moment new in
    let a = c.args.writer.now in
    let b = c.write_whole.new.writer in
    let settled : g.S.Session.settles c.args.session.now new = search rules in
    let held : c.as_slice.result.now ≡ c.args.answers.now = c.as_slice.ensures ∙ not_held _ _ _ _ c.if-hold.false c.hold.ensures.held in
    let first : Writes contents moment a b c.args.answers.now = subst (λ (l : List ℕ). Writes contents moment a b l) held c.in_ok-write_whole.ensures.ok in
    let why = c.in_err-write_line.field-0.0 in
    let p = err_from_is_err_and c.from_residual-in_err-write_line.result c.from_residual-in_err-write_line.ensures.1 in
    rw (p.1, p.2) (kept_written contents g.S.Session.step g.S.Session.keeps_together g.S.Session.fails g.S.Session.settles g.S.Session.breaks_off g.S.Session.moment a c.write_line.new.writer c.args.session.now new (c.args.answers.now ++ (c.args.text.now ++ 10 ∷ [])) why settled
    (breaks_second contents moment a b c.write_line.new.writer c.args.answers.now (c.args.text.now ++ 10 ∷ []) why first c.in_err-write_line.ensures.err))

pub returns-clause-ok : goal.returns-clause-ok
returns-clause-ok g c =
    let contents = g.W.Write.contents in
    let new = c.settle.new.self in
    let moment = g.S.Session.moment new in
    let a = c.args.writer.now in
    let b = c.write_whole.new.writer in
    let settled : g.S.Session.settles c.args.session.now new = search rules in
    let held : c.as_slice.result.now ≡ c.args.answers.now = c.as_slice.ensures ∙ not_held _ _ _ _ c.if-hold.false c.hold.ensures.held in
    let first : Writes contents moment a b c.args.answers.now = subst (λ (l : List ℕ). Writes contents moment a b l) held c.in_ok-write_whole.ensures.ok in
    inr (record { settled = settled; writes = writes_both contents moment a b c.write_line.new.writer c.args.answers.now (c.args.text.now ++ 10 ∷ []) first c.in_ok-write_line.ensures.ok }, c.clear.ensures)
