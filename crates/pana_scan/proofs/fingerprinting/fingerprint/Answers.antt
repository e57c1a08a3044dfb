use Rattle.std.proofs.Common.{refl, arith, rules, []}
use Rattle.sha2.specs.Hashers.{Holds256}
use Rattle.pana_scan.proofs.Hashed.{hashed_more, hashed_all, hashed_fails, hashed_spent}
use Rattle.pana_scan.proofs.fingerprinting.fingerprint.Goals as goal

pub loop-made-init : goal.loop-made-init
loop-made-init g c = record {
  known = λ known. record { taken = []; bytes = refl; reads = omega arith; fails = refl; held = c.new-hasher.ensures };
  tree = λ known. refl;
  failed = refl;
  entries = refl;
  faults = refl;
  long = search rules;
}

pub loop-made-preserved : goal.loop-made-preserved
loop-made-preserved g c = record {
  known = λ known. hashed_more _ _ _ _ c.in-Ok.count c.read.new.piece (Holds256 c.loop-made.hasher) _ (c.loop-made.invariant.known known) ((c.in-Ok.ensures.reads known).1 c.if-count-eq0.false) c.update.ensures;
  tree = search rules;
  failed = search rules;
  entries = search rules;
  faults = search rules;
  long = search rules;
}

pub returns-then-count-eq0-clause-digest : goal.returns-then-count-eq0-clause-digest
returns-then-count-eq0-clause-digest g c known =
    hashed_all _ _ c.loop-made._made c.args.reads (Holds256 c.loop-made.hasher) (c.loop-made.invariant.known known) ((c.in-Ok.ensures.reads known).0 c.if-count-eq0.true) (omega arith) c.finalize.result c.finalize.ensures

pub returns-in_default-clause-digest : goal.returns-in_default-clause-digest
returns-in_default-clause-digest g c known =
    hashed_fails _ _ c.loop-made._made c.args.reads (Holds256 c.loop-made.hasher) (c.loop-made.invariant.known known) (c.in_default.ensures.reads known)

pub returns-clause-digest : goal.returns-clause-digest
returns-clause-digest g c known =
    hashed_spent _ _ c.loop-made._made c.args.reads (Holds256 c.loop-made.hasher) (c.loop-made.invariant.known known) (omega arith)
