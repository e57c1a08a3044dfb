use Rattle.std.proofs.Common.{◌≡◌, ◌∙◌, sym, refl, Bool, true, false, not}
use Rattle.pana_client.proofs.OneLine.{none_one}
use Rattle.pana_client.proofs.call_writing.is_one_line.Goals as goal

none : (b : Bool) → not b ≡ true → b ≡ false
none true is = absurd (cc)
none false is = refl

pub returns : goal.returns
returns c = λ is. none_one c.args.bytes.now (sym c.contains.ensures.value ∙ none c.contains.result is)
