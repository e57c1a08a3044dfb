use Rattle.std.proofs.Common.{◌∙◌}
use Rattle.std.proofs.lemmas.Result.{IfOk-weaker}
use Rattle.pana_etcd.proofs.Requests.{free_pieces}
use Rattle.pana_etcd.proofs.request.free_text.Goals as goal

pub returns : goal.returns
returns c = IfOk-weaker c.format.result _ _
    (λ text is. is ∙ free_pieces c.args.name.now c.args.number c.as_str-key.result.now c.as_str-end.result.now
    (c.as_str-key.ensures.value ∙ c.in_ok-key.ensures)
    (c.as_str-end.ensures.value ∙ c.in_ok-end.ensures))
    c.format.ensures.ok
