use Rattle.std.proofs.Common.{sym, ◌∙◌, rules}
use Rattle.std.proofs.Math.Seq.{take-length}
use Rattle.pana_daemon.specs.declared.objects.Opening.TheVariants.{Object, Other}
use Rattle.pana_daemon.proofs.Openings.{at_blank, at_object, at_other, given_as}
use Rattle.pana_daemon.proofs.objects.look_at.Goals as goal

pub returns-then-byte-eq123-clause-opening : goal.returns-then-byte-eq123-clause-opening
returns-then-byte-eq123-clause-opening c = sym (at_object _ c.loop-at.at c.loop-at-test.true c.loop-at.invariant c.if-byte-eq123.true)

pub returns-then-byte-eq123-clause-given : goal.returns-then-byte-eq123-clause-given
returns-then-byte-eq123-clause-given c =
    take-length _ ∙ sym (given_as Object _ (at_object _ c.loop-at.at c.loop-at-test.true c.loop-at.invariant c.if-byte-eq123.true))

pub returns-then-not-is_blank-clause-opening : goal.returns-then-not-is_blank-clause-opening
returns-then-not-is_blank-clause-opening c =
    sym (at_other _ c.loop-at.at c.loop-at-test.true c.loop-at.invariant (sym c.is_blank.ensures ∙ c.if-not-is_blank.true) (search rules)).0

pub returns-then-not-is_blank-clause-given : goal.returns-then-not-is_blank-clause-given
returns-then-not-is_blank-clause-given c =
    let other = at_other c.args.bytes.now c.loop-at.at c.loop-at-test.true c.loop-at.invariant (sym c.is_blank.ensures ∙ c.if-not-is_blank.true) (search rules) in
    sym (given_as Other c.args.bytes.now other.0 ∙ other.1)

pub loop-at-preserved : goal.loop-at-preserved
loop-at-preserved c = at_blank _ c.loop-at.at c.loop-at-test.true c.loop-at.invariant (sym c.is_blank.ensures ∙ c.if-not-is_blank.false)
