use Rattle.std.proofs.Common.{◌≡◌, List, [], ◌∷◌, ℕ, length, sym, ◌∙◌, ap, subst}
use Rattle.pana_log.specs.Device.{Holds, Torn}
use Rattle.pana_log.specs.Lines.{recovered, text_of, closed, Begins}
use Rattle.pana_log.proofs.Ends.{torn_end, written_end}
use Rattle.pana_log.proofs.Moments.{started, goes_on}
use Rattle.pana_log.proofs.Recovered.{are_recovered}
use Rattle.pana_log.proofs.Settled.{recovered_same, settled_at}
use Rattle.pana_log.proofs.log.Log.close.Goals as goal

pub returns-in_err-write_at-clause-any_moment : goal.returns-in_err-write_at-clause-any_moment
returns-in_err-write_at-clause-any_moment g c known =
    let file = g.D.Device.seen c.args.self.now.device in
    let d = c.requires.durable known in
    let P : List ℕ → Type 0 = λ f. recovered f ≡ recovered file in
    let start = started g.D.Device.moment g.D.Device.left_since c.args.self.now.device P (λ f left. ap recovered (d.only f (g.met.D.Device.only_now c.args.self.now.device f left))) in
    let is_end : c.args.self.now.end ≡ length (text_of (recovered file)) = c.requires.end known ∙ ap length (c.requires.bare known) in
    let after : (f : List ℕ) → g.D.Device.may_leave c.write_at.new.self f → P f = λ f left.
    let from = c.write_at.ensures.crash known f left in
    torn_end file c.args.self.now.end is_end f (subst (λ (old : List ℕ). Torn c.args.self.now.end 1 old f) (d.only from.0 from.1 ∙ c.requires.bare known) from.2) in
    let first = goes_on g.D.Device.moment g.D.Device.left_since _ _ c.write_at.new.self P (g.D.Device.may_leave c.write_at.new.self) start (c.write_at.ensures.time known) after in
    first

pub returns-in_err-sync-clause-any_moment : goal.returns-in_err-sync-clause-any_moment
returns-in_err-sync-clause-any_moment g c known =
    let file = g.D.Device.seen c.args.self.now.device in
    let d = c.requires.durable known in
    let P : List ℕ → Type 0 = λ f. recovered f ≡ recovered file in
    let start = started g.D.Device.moment g.D.Device.left_since c.args.self.now.device P (λ f left. ap recovered (d.only f (g.met.D.Device.only_now c.args.self.now.device f left))) in
    let is_end : c.args.self.now.end ≡ length (text_of (recovered file)) = c.requires.end known ∙ ap length (c.requires.bare known) in
    let after : (f : List ℕ) → g.D.Device.may_leave c.write_at.new.self f → P f = λ f left.
    let from = c.write_at.ensures.crash known f left in
    torn_end file c.args.self.now.end is_end f (subst (λ (old : List ℕ). Torn c.args.self.now.end 1 old f) (d.only from.0 from.1 ∙ c.requires.bare known) from.2) in
    let first = goes_on g.D.Device.moment g.D.Device.left_since _ _ c.write_at.new.self P (g.D.Device.may_leave c.write_at.new.self) start (c.write_at.ensures.time known) after in
    goes_on g.D.Device.moment g.D.Device.left_since _ _ c.sync.new.self P (g.D.Device.may_leave c.sync.new.self) first (c.sync.ensures.time known) (λ f left. after f (c.sync.ensures.crash known f left))

pub returns-clause-any_moment : goal.returns-clause-any_moment
returns-clause-any_moment g c known =
    let file = g.D.Device.seen c.args.self.now.device in
    let d = c.requires.durable known in
    let P : List ℕ → Type 0 = λ f. recovered f ≡ recovered file in
    let start = started g.D.Device.moment g.D.Device.left_since c.args.self.now.device P (λ f left. ap recovered (d.only f (g.met.D.Device.only_now c.args.self.now.device f left))) in
    let is_end : c.args.self.now.end ≡ length (text_of (recovered file)) = c.requires.end known ∙ ap length (c.requires.bare known) in
    let after : (f : List ℕ) → g.D.Device.may_leave c.write_at.new.self f → P f = λ f left.
    let from = c.write_at.ensures.crash known f left in
    torn_end file c.args.self.now.end is_end f (subst (λ (old : List ℕ). Torn c.args.self.now.end 1 old f) (d.only from.0 from.1 ∙ c.requires.bare known) from.2) in
    let first = goes_on g.D.Device.moment g.D.Device.left_since _ _ c.write_at.new.self P (g.D.Device.may_leave c.write_at.new.self) start (c.write_at.ensures.time known) after in
    goes_on g.D.Device.moment g.D.Device.left_since _ _ c.sync.new.self P (g.D.Device.may_leave c.sync.new.self) first (c.sync.ensures.time known) (λ f left. after f (c.sync.ensures.crash known f left))

pub returns-clause-same : goal.returns-clause-same
returns-clause-same g c known =
    let file = g.D.Device.seen c.args.self.now.device in
    let is_end : c.args.self.now.end ≡ length (text_of (recovered file)) = c.requires.end known ∙ ap length (c.requires.bare known) in
    let written : Holds (text_of (recovered file)) c.args.self.now.end (0 ∷ []) (g.D.Device.seen c.write_at.new.self) = subst (λ (f : List ℕ). Holds f c.args.self.now.end (0 ∷ []) (g.D.Device.seen c.write_at.new.self)) (c.requires.bare known) (c.in_ok-write_at.ensures.written known) in
    let stands = written_end file c.args.self.now.end is_end _ written in
    let here : Begins (closed (recovered file)) (g.D.Device.seen c.sync.new.self) = subst (Begins (closed (recovered file))) (sym (c.sync.ensures.seen known)) stands in
    recovered_same file _ here

pub returns-clause-settled : goal.returns-clause-settled
returns-clause-settled g c known =
    let file = g.D.Device.seen c.args.self.now.device in
    let is_end : c.args.self.now.end ≡ length (text_of (recovered file)) = c.requires.end known ∙ ap length (c.requires.bare known) in
    let written : Holds (text_of (recovered file)) c.args.self.now.end (0 ∷ []) (g.D.Device.seen c.write_at.new.self) = subst (λ (f : List ℕ). Holds f c.args.self.now.end (0 ∷ []) (g.D.Device.seen c.write_at.new.self)) (c.requires.bare known) (c.in_ok-write_at.ensures.written known) in
    let stands = written_end file c.args.self.now.end is_end _ written in
    let here : Begins (closed (recovered file)) (g.D.Device.seen c.sync.new.self) = subst (Begins (closed (recovered file))) (sym (c.sync.ensures.seen known)) stands in
    let only = c.in_ok-sync.ensures.durable known in
    settled_at g.D.Device.seen g.D.Device.may_leave g.D.Device.is_usable (recovered file) _ (are_recovered file) is_end here (λ f left. subst (Begins (closed (recovered file))) (sym (only f left)) stands) (c.in_ok-sync.ensures.usable known)
