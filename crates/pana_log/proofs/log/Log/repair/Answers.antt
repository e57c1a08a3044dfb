use Rattle.std.proofs.Common.{◌≡◌, List, ℕ, sym, ◌∙◌, ap}
use Rattle.pana_log.specs.Lines.{recovered, text_of}
use Rattle.pana_log.proofs.Ends.{recovered-text_of}
use Rattle.pana_log.proofs.Moments.{then_on}
use Rattle.pana_log.proofs.Recovered.{are_recovered}
use Rattle.pana_log.proofs.log.Log.repair.Goals as goal

pub close-requires-clause-bare : goal.close-requires-clause-bare
close-requires-clause-bare g c known =
    let file = g.D.Device.seen c.args.self.now.device in
    let same : recovered (g.D.Device.seen c.cut.new.self.device) ≡ recovered file = ap recovered (c.in_ok-cut.ensures.cut known) ∙ recovered-text_of (recovered file) (are_recovered file) in
    c.in_ok-cut.ensures.cut known ∙ ap text_of (sym same)

pub returns-clause-same : goal.returns-clause-same
returns-clause-same g c known =
    let file = g.D.Device.seen c.args.self.now.device in
    c.in_ok-close.ensures.same known ∙ ap recovered (c.in_ok-cut.ensures.cut known) ∙ recovered-text_of (recovered file) (are_recovered file)

pub returns-clause-any_moment : goal.returns-clause-any_moment
returns-clause-any_moment g c known =
    let file = g.D.Device.seen c.args.self.now.device in
    let same : recovered (g.D.Device.seen c.cut.new.self.device) ≡ recovered file = ap recovered (c.in_ok-cut.ensures.cut known) ∙ recovered-text_of (recovered file) (are_recovered file) in
    let P : List ℕ → Type 0 = λ f. recovered f ≡ recovered file in
    let Q : List ℕ → Type 0 = λ f. recovered f ≡ recovered (g.D.Device.seen c.cut.new.self.device) in
    then_on g.D.Device.moment g.D.Device.left_since _ _ _ P Q P (c.cut.ensures.any_moment known) (c.close.ensures.any_moment known) (λ f p. p) (λ f q. q ∙ same)

pub returns-in_err-close-clause-any_moment : goal.returns-in_err-close-clause-any_moment
returns-in_err-close-clause-any_moment g c known =
    let file = g.D.Device.seen c.args.self.now.device in
    let same : recovered (g.D.Device.seen c.cut.new.self.device) ≡ recovered file = ap recovered (c.in_ok-cut.ensures.cut known) ∙ recovered-text_of (recovered file) (are_recovered file) in
    let P : List ℕ → Type 0 = λ f. recovered f ≡ recovered file in
    let Q : List ℕ → Type 0 = λ f. recovered f ≡ recovered (g.D.Device.seen c.cut.new.self.device) in
    then_on g.D.Device.moment g.D.Device.left_since _ _ _ P Q P (c.cut.ensures.any_moment known) (c.close.ensures.any_moment known) (λ f p. p) (λ f q. q ∙ same)
