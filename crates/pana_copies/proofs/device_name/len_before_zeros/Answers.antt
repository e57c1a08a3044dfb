use Rattle.std.proofs.Common.{◌==◌, ◌∙◌, rules, tests}
use Rattle.std.proofs.lemmas.Iterator.{YieldsList-from_slice}
use Rattle.std.proofs.lemmas.Iterator.Search.{position_from_yields_List}
use Rattle.pana_copies.proofs.DeviceText.{length-before_zeros}
use Rattle.pana_copies.proofs.device_name.len_before_zeros.Goals as goal

pub returns : goal.returns
returns c =
    c.unwrap_or.ensures
    ∙ length-before_zeros c.args.bytes.now c.position.result
    (position_from_yields_List (λ b. b == 0) _ _ c.position.result c.position.ensures.ran (YieldsList-from_slice c.args.bytes.now c.iter.ensures.rest) (λ x b q k. search (rules, tests)))
