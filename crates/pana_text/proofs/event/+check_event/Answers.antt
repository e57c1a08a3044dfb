use Rattle.std.proofs.Common.{◌≡◌, ◌<◌, length, get_or, refl, rules, arith}
use Rattle.std.proofs.lemmas.Result.{err_from_is_err_and}
use Rattle.pana_text.specs.inner.Reading.{event_at, fork_at, fork_closed, leaf_at}
use Rattle.pana_text.specs.inner.Limits.{event_kinds}
use Rattle.pana_text.proofs.Steps.{event_at-opened, event_at-shut, leaves}
use Rattle.pana_text.proofs.event.+check_event.Goals as goal
use Rattle.pana_text.proofs.event.+check_event.Goals.{in_default-via-then-text-lt1, in_default-via-else-text-lt1+in_default-1}

pub returns-then-deeper-eq0 : goal.returns-then-deeper-eq0
returns-then-deeper-eq0 t c =
    let is : get_or c.args.text.now 0 0 ≡ 40 = search rules in
    let some : 0 < length c.args.text.now = omega arith in
    rw (event_at-shut event_kinds c.args.total c.args.deeper c.args.text.now c.if-deeper-eq0.true some is) refl

pub returns-in_err-number-in-40 : goal.returns-in_err-number-in-40
returns-in_err-number-in-40 t c =
    let is : get_or c.args.text.now 0 0 ≡ 40 = search rules in
    let some : 0 < length c.args.text.now = omega arith in
    let left : 0 < c.args.deeper = omega arith in
    let p = err_from_is_err_and c.from_residual.result c.from_residual.ensures.1 in
    rw (p.1, p.2, event_at-opened event_kinds c.args.total c.args.deeper c.args.text.now left some is, fork_at, c.in_err-number-in-40.ensures) refl

pub returns-in_err-left-in-40 : goal.returns-in_err-left-in-40
returns-in_err-left-in-40 t c =
    let is : get_or c.args.text.now 0 0 ≡ 40 = search rules in
    let some : 0 < length c.args.text.now = omega arith in
    let left : 0 < c.args.deeper = omega arith in
    let p = err_from_is_err_and c.from_residual-in_err-left-in-40.result c.from_residual-in_err-left-in-40.ensures.1 in
    rw (p.1, p.2, event_at-opened event_kinds c.args.total c.args.deeper c.args.text.now left some is, fork_at, c.in_ok-number-in-40.ensures, c.in_err-left-in-40.ensures) refl

pub returns-in_err-rest-in-40 : goal.returns-in_err-rest-in-40
returns-in_err-rest-in-40 t c =
    let is : get_or c.args.text.now 0 0 ≡ 40 = search rules in
    let some : 0 < length c.args.text.now = omega arith in
    let left : 0 < c.args.deeper = omega arith in
    let p = err_from_is_err_and c.from_residual-in_err-rest-in-40.result c.from_residual-in_err-rest-in-40.ensures.1 in
    rw (p.1, p.2, event_at-opened event_kinds c.args.total c.args.deeper c.args.text.now left some is, fork_at, c.in_ok-number-in-40.ensures, c.in_ok-left-in-40.ensures, c.in_err-rest-in-40.ensures) refl

pub returns-in_err-right-in-40 : goal.returns-in_err-right-in-40
returns-in_err-right-in-40 t c =
    let is : get_or c.args.text.now 0 0 ≡ 40 = search rules in
    let some : 0 < length c.args.text.now = omega arith in
    let left : 0 < c.args.deeper = omega arith in
    let p = err_from_is_err_and c.from_residual-in_err-right-in-40.result c.from_residual-in_err-right-in-40.ensures.1 in
    rw (p.1, p.2, event_at-opened event_kinds c.args.total c.args.deeper c.args.text.now left some is, fork_at, c.in_ok-number-in-40.ensures, c.in_ok-left-in-40.ensures, c.in_ok-rest-in-40.ensures, c.in_err-right-in-40.ensures) refl

pub returns-in_err-rest-in-40-2 : goal.returns-in_err-rest-in-40-2
returns-in_err-rest-in-40-2 t c =
    let is : get_or c.args.text.now 0 0 ≡ 40 = search rules in
    let some : 0 < length c.args.text.now = omega arith in
    let left : 0 < c.args.deeper = omega arith in
    let p = err_from_is_err_and c.from_residual-in_err-rest-in-40-2.result c.from_residual-in_err-rest-in-40-2.ensures.1 in
    rw (p.1, p.2, event_at-opened event_kinds c.args.total c.args.deeper c.args.text.now left some is, fork_at, fork_closed, c.in_ok-number-in-40.ensures, c.in_ok-left-in-40.ensures, c.in_ok-rest-in-40.ensures, c.in_ok-right-in-40.ensures, c.in_err-rest-in-40-2.ensures) refl

pub returns-in_ok-rest-in-40-2 : goal.returns-in_ok-rest-in-40-2
returns-in_ok-rest-in-40-2 t c =
    let is : get_or c.args.text.now 0 0 ≡ 40 = search rules in
    let some : 0 < length c.args.text.now = omega arith in
    let left : 0 < c.args.deeper = omega arith in
    rw (event_at-opened event_kinds c.args.total c.args.deeper c.args.text.now left some is, fork_at, fork_closed, c.in_ok-number-in-40.ensures, c.in_ok-left-in-40.ensures, c.in_ok-rest-in-40.ensures, c.in_ok-right-in-40.ensures, c.in_ok-rest-in-40-2.ensures, c.of_fork.ensures) refl

pub returns-in_default : goal.returns-in_default
returns-in_default t c =
    let same : event_at event_kinds c.args.total c.args.deeper c.args.text.now ≡ leaf_at event_kinds c.args.total c.args.text.now =
    elim c.in_default.branch [
      | in_default-via-then-text-lt1 w ↦ first_of (search (rules, leaves), grind (arith, leaves))
      | in_default-via-else-text-lt1+in_default-1 w ↦ first_of (search (rules, leaves), grind (arith, leaves))
    ] in
    rw same c.check_leaf.ensures
