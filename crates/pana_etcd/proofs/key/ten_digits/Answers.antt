use Rattle.std.proofs.Common.{◌∙◌}
use Rattle.std.proofs.lemmas.Result.{IfOk-weaker}
use Rattle.pana_etcd.proofs.Digits.{padded_ten}
use Rattle.pana_etcd.proofs.key.ten_digits.Goals as goal

pub returns : goal.returns
returns c =
    let written = c.format.ensures.ok in
    IfOk-weaker c.format.result _ _ (λ digits is. is ∙ padded_ten c.args.number) (rw c.laid_out.ensures at written)
