use Rattle.std.proofs.Common.{◌==◌, refl, arith}
use Rattle.pana_ignore.proofs.Splits.{length-split}
use Rattle.pana_ignore.proofs.lines.long_line.Goals as goal

pub loop-rest-init : goal.loop-rest-init
loop-rest-init c = record {
  read = refl;
  below = omega (arith, length-split (λ b. b == 10) c.args.text.now);
}
