use Rattle.std.proofs.Common.{◌∙◌, ℕ, List, [], ◌∷◌, ◌++◌, sym, ap, refl}
use Rattle.std.proofs.lemmas.Result.{on_ok_weaker}
use Rattle.pana_log.specs.Lines.{recovered, header}
use Rattle.pana_log.proofs.Begun.{no_lines, begins, not_begun}
use Rattle.pana_log.proofs.log.Log.begin.Goals as goal

pub returns-in_err-stage-clause-any_moment : goal.returns-in_err-stage-clause-any_moment
returns-in_err-stage-clause-any_moment g c known =
    let file = g.D.Device.seen c.args.self.now.device in
    let none = no_lines (recovered file) (sym (c.requires.settled known).is_end ∙ c.requires.short) in
    not_begun g.D.Device.moment g.D.Device.left_since c.args.self.now.device c.stage.new.self.device file none (c.stage.ensures.any_moment known)

pub returns-clause-begun : goal.returns-clause-begun
returns-clause-begun g c =
    let file = g.D.Device.seen c.args.self.now.device in
    on_ok_weaker c.commit.result
    (λ added known.
    let none = no_lines (recovered file) (sym (c.requires.settled known).is_end ∙ c.requires.short) in
    added known ∙ ap (λ (ls : List (List ℕ)). ls ++ header ∷ []) (c.stage.ensures.same known ∙ none))
    c.commit.ensures.added

pub returns-clause-any_moment : goal.returns-clause-any_moment
returns-clause-any_moment g c known =
    let file = g.D.Device.seen c.args.self.now.device in
    let none = no_lines (recovered file) (sym (c.requires.settled known).is_end ∙ c.requires.short) in
    begins g.D.Device.moment g.D.Device.left_since c.args.self.now.device c.stage.new.self.device c.commit.new.self.device file (g.D.Device.seen c.stage.new.self.device) (header ++ 10 ∷ []) none (c.stage.ensures.same known) refl
    (c.stage.ensures.any_moment known) (c.commit.ensures.any_moment known)
