use Rattle.std.proofs.Common.{◌≡◌, List, ℕ, ◌∙◌, ap, subst, arith}
use Rattle.pana_log.specs.Device.{IsCut}
use Rattle.pana_log.specs.Lines.{recovered}
use Rattle.pana_log.proofs.Ends.{cut_keeps, cut_done, lines_within}
use Rattle.pana_log.proofs.Moments.{started, goes_on}
use Rattle.pana_log.proofs.log.Log.cut.Goals as goal

pub cut-requires-clause-within : goal.cut-requires-clause-within
cut-requires-clause-within g c known =
    let file = g.D.Device.seen c.args.self.now.device in
    omega (arith, c.requires.end known, lines_within file)

pub returns-in_err-cut-clause-any_moment : goal.returns-in_err-cut-clause-any_moment
returns-in_err-cut-clause-any_moment g c known =
    let file = g.D.Device.seen c.args.self.now.device in
    let d = c.requires.durable known in
    let P : List ℕ → Type 0 = λ f. recovered f ≡ recovered file in
    let start = started g.D.Device.moment g.D.Device.left_since c.args.self.now.device P (λ f left. ap recovered (d.only f (g.met.D.Device.only_now c.args.self.now.device f left))) in
    let after : (f : List ℕ) → g.D.Device.may_leave c.cut.new.self f → P f = λ f left.
    let from = c.cut.ensures.crash known f left in
    cut_keeps file c.args.self.now.end (c.requires.end known) f (subst (λ (old : List ℕ). IsCut c.args.self.now.end old f) (d.only from.0 from.1) from.2) in
    let first = goes_on g.D.Device.moment g.D.Device.left_since _ _ c.cut.new.self P (g.D.Device.may_leave c.cut.new.self) start (c.cut.ensures.time known) after in
    first

pub returns-in_err-sync-clause-any_moment : goal.returns-in_err-sync-clause-any_moment
returns-in_err-sync-clause-any_moment g c known =
    let file = g.D.Device.seen c.args.self.now.device in
    let d = c.requires.durable known in
    let P : List ℕ → Type 0 = λ f. recovered f ≡ recovered file in
    let start = started g.D.Device.moment g.D.Device.left_since c.args.self.now.device P (λ f left. ap recovered (d.only f (g.met.D.Device.only_now c.args.self.now.device f left))) in
    let after : (f : List ℕ) → g.D.Device.may_leave c.cut.new.self f → P f = λ f left.
    let from = c.cut.ensures.crash known f left in
    cut_keeps file c.args.self.now.end (c.requires.end known) f (subst (λ (old : List ℕ). IsCut c.args.self.now.end old f) (d.only from.0 from.1) from.2) in
    let first = goes_on g.D.Device.moment g.D.Device.left_since _ _ c.cut.new.self P (g.D.Device.may_leave c.cut.new.self) start (c.cut.ensures.time known) after in
    goes_on g.D.Device.moment g.D.Device.left_since _ _ c.sync.new.self P (g.D.Device.may_leave c.sync.new.self) first (c.sync.ensures.time known) (λ f left. after f (c.sync.ensures.crash known f left))

pub returns-clause-any_moment : goal.returns-clause-any_moment
returns-clause-any_moment g c known =
    let file = g.D.Device.seen c.args.self.now.device in
    let d = c.requires.durable known in
    let P : List ℕ → Type 0 = λ f. recovered f ≡ recovered file in
    let start = started g.D.Device.moment g.D.Device.left_since c.args.self.now.device P (λ f left. ap recovered (d.only f (g.met.D.Device.only_now c.args.self.now.device f left))) in
    let after : (f : List ℕ) → g.D.Device.may_leave c.cut.new.self f → P f = λ f left.
    let from = c.cut.ensures.crash known f left in
    cut_keeps file c.args.self.now.end (c.requires.end known) f (subst (λ (old : List ℕ). IsCut c.args.self.now.end old f) (d.only from.0 from.1) from.2) in
    let first = goes_on g.D.Device.moment g.D.Device.left_since _ _ c.cut.new.self P (g.D.Device.may_leave c.cut.new.self) start (c.cut.ensures.time known) after in
    goes_on g.D.Device.moment g.D.Device.left_since _ _ c.sync.new.self P (g.D.Device.may_leave c.sync.new.self) first (c.sync.ensures.time known) (λ f left. after f (c.sync.ensures.crash known f left))

pub returns-clause-cut : goal.returns-clause-cut
returns-clause-cut g c known =
    c.sync.ensures.seen known ∙ c.in_ok-cut.ensures.cut known ∙ cut_done (g.D.Device.seen c.args.self.now.device) c.args.self.now.end (c.requires.end known)
