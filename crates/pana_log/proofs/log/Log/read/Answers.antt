use Rattle.std.proofs.Common.{◌≡◌, List, ℕ, length, take, ◌∙◌, ap}
use Rattle.pana_log.specs.Lines.{recovered, text_of}
use Rattle.pana_log.proofs.Ends.{cut_done}
use Rattle.pana_log.proofs.log.Log.read.Goals as goal

pub returns-clause-text : goal.returns-clause-text
returns-clause-text g c known =
    let file = g.D.Device.seen c.args.self.now.device in
    let end : ℕ = c.whole_length-end.result in
    let is_end : end ≡ length (text_of (recovered file)) = c.whole_length-end.ensures.length ∙ ap (λ (f : List ℕ). length (text_of (recovered f))) (c.deref.ensures.value ∙ c.in_ok-text.ensures.bytes known) in
    c.truncate.ensures.items ∙ ap (λ (f : List ℕ). take end f) (c.in_ok-text.ensures.bytes known) ∙ cut_done file end is_end
