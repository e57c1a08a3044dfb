use Rattle.std.proofs.Common.{◌≡◌, ◌<◌, length, get_or, refl, rules, arith}
use Rattle.std.proofs.lemmas.Result.{err_from_is_err_and}
use Rattle.pana_text.specs.inner.Reading.{pair_at}
use Rattle.pana_text.specs.inner.Limits.{id_kinds}
use Rattle.pana_text.proofs.Steps.{id_at-opened, id_at-shut}
use Rattle.pana_text.proofs.id.+check_id.Goals as goal

pub returns-then-deeper-eq0 : goal.returns-then-deeper-eq0
returns-then-deeper-eq0 t c =
    let is : get_or c.args.text.now 0 0 ≡ 40 = search rules in
    let some : 0 < length c.args.text.now = omega arith in
    rw (id_at-shut id_kinds c.args.total c.args.deeper c.args.text.now c.if-deeper-eq0.true some is) refl

pub returns-in_err-left-in-40 : goal.returns-in_err-left-in-40
returns-in_err-left-in-40 t c =
    let is : get_or c.args.text.now 0 0 ≡ 40 = search rules in
    let some : 0 < length c.args.text.now = omega arith in
    let left : 0 < c.args.deeper = omega arith in
    let p = err_from_is_err_and c.from_residual.result c.from_residual.ensures.1 in
    rw (p.1, p.2, id_at-opened id_kinds c.args.total c.args.deeper c.args.text.now left some is, pair_at, c.in_err-left-in-40.ensures) refl

pub returns-in_err-rest-in-40 : goal.returns-in_err-rest-in-40
returns-in_err-rest-in-40 t c =
    let is : get_or c.args.text.now 0 0 ≡ 40 = search rules in
    let some : 0 < length c.args.text.now = omega arith in
    let left : 0 < c.args.deeper = omega arith in
    let p = err_from_is_err_and c.from_residual-in_err-rest-in-40.result c.from_residual-in_err-rest-in-40.ensures.1 in
    rw (p.1, p.2, id_at-opened id_kinds c.args.total c.args.deeper c.args.text.now left some is, pair_at, c.in_ok-left-in-40.ensures, c.in_err-rest-in-40.ensures) refl

pub returns-in_err-right-in-40 : goal.returns-in_err-right-in-40
returns-in_err-right-in-40 t c =
    let is : get_or c.args.text.now 0 0 ≡ 40 = search rules in
    let some : 0 < length c.args.text.now = omega arith in
    let left : 0 < c.args.deeper = omega arith in
    let p = err_from_is_err_and c.from_residual-in_err-right-in-40.result c.from_residual-in_err-right-in-40.ensures.1 in
    rw (p.1, p.2, id_at-opened id_kinds c.args.total c.args.deeper c.args.text.now left some is, pair_at, c.in_ok-left-in-40.ensures, c.in_ok-rest-in-40.ensures, c.in_err-right-in-40.ensures) refl

pub returns-in_err-rest-in-40-2 : goal.returns-in_err-rest-in-40-2
returns-in_err-rest-in-40-2 t c =
    let is : get_or c.args.text.now 0 0 ≡ 40 = search rules in
    let some : 0 < length c.args.text.now = omega arith in
    let left : 0 < c.args.deeper = omega arith in
    let p = err_from_is_err_and c.from_residual-in_err-rest-in-40-2.result c.from_residual-in_err-rest-in-40-2.ensures.1 in
    rw (p.1, p.2, id_at-opened id_kinds c.args.total c.args.deeper c.args.text.now left some is, pair_at, c.in_ok-left-in-40.ensures, c.in_ok-rest-in-40.ensures, c.in_ok-right-in-40.ensures, c.in_err-rest-in-40-2.ensures) refl

pub returns-in_ok-rest-in-40-2 : goal.returns-in_ok-rest-in-40-2
returns-in_ok-rest-in-40-2 t c =
    let is : get_or c.args.text.now 0 0 ≡ 40 = search rules in
    let some : 0 < length c.args.text.now = omega arith in
    let left : 0 < c.args.deeper = omega arith in
    rw (id_at-opened id_kinds c.args.total c.args.deeper c.args.text.now left some is, pair_at, c.in_ok-left-in-40.ensures, c.in_ok-rest-in-40.ensures, c.in_ok-right-in-40.ensures, c.in_ok-rest-in-40-2.ensures, c.of_pair.ensures) refl
