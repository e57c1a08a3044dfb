use Rattle.std.proofs.Common.{◌∙◌}
use Rattle.std.proofs.lemmas.Result.{IfOk-weaker}
use Rattle.pana_etcd.proofs.Requests.{request_pieces}
use Rattle.pana_etcd.proofs.exchange.request_text.Goals as goal

pub returns : goal.returns
returns c = IfOk-weaker c.format.result _ _
    (λ text is. is ∙ request_pieces c.args.request.now.host.now c.args.request.now.path.now _ c.args.request.now.body.now c.as_str-line.result.now (c.as_str-line.ensures.value ∙ c.in_ok-line.ensures))
    c.format.ensures.ok
