use Rattle.std.proofs.Common.{◌∙◌, map}
use Rattle.std.proofs.lemmas.Result.{IfOk-weaker}
use Rattle.pana_etcd.proofs.Requests.{append_pieces}
use Rattle.pana_etcd.proofs.request.append_text.Goals as goal

pub returns : goal.returns
returns c = IfOk-weaker c.format.result _ _
    (λ text is. is ∙ append_pieces c.args.name.now c.args.number (map (λ value. value.items) c.args.values.now) c.as_str-next.result.now c.as_str-puts.result.now c.as_str-range.result.now
    (c.as_str-next.ensures.value ∙ c.in_ok-next.ensures)
    (c.as_str-puts.ensures.value ∙ c.in_ok-puts.ensures)
    (c.as_str-range.ensures.value ∙ c.in_ok-range.ensures))
    c.format.ensures.ok
