use Rattle.std.proofs.Common.{inl, ◌++◌, List, ℕ, length, sym, ap, subst, arith, length-append}
use Rattle.pana_log.specs.Lines.{recovered, text_of, closed, Begins, IsBeforeOrAfter}
use Rattle.pana_log.proofs.Moments.{started, goes_on}
use Rattle.pana_log.proofs.Recovered.{recovered-closed, are_recovered}
use Rattle.pana_log.proofs.Settled.{begins_opened, gate_crash, recovered-staged, settled_at, text_of-append, AreLines-append}
use Rattle.pana_log.proofs.log.Log.commit.Goals as goal

pub returns-in_err-write_at-clause-any_moment : goal.returns-in_err-write_at-clause-any_moment
returns-in_err-write_at-clause-any_moment g c known =
    let s = c.requires.staged known in
    let file = g.D.Device.seen c.args.self.now.device in
    let text = c.args.text.now in
    let P = IsBeforeOrAfter (recovered file) (recovered text) in
    let start = started g.D.Device.moment g.D.Device.left_since c.args.self.now.device P (λ f left. inl (recovered-staged file text f (s.durable f (g.met.D.Device.only_now c.args.self.now.device f left)))) in
    let opened : (f : List ℕ) → g.D.Device.may_leave c.write_at.new.self f → P f = λ f left. let from = c.write_at.ensures.crash known f left in gate_crash file text from.0 f c.args.self.now.end c.requires.whole s.is_end (s.durable from.0 from.1) from.2 in
    let first = goes_on g.D.Device.moment g.D.Device.left_since _ _ c.write_at.new.self P (g.D.Device.may_leave c.write_at.new.self) start (c.write_at.ensures.time known) opened in
    first

pub returns-in_err-sync-clause-any_moment : goal.returns-in_err-sync-clause-any_moment
returns-in_err-sync-clause-any_moment g c known =
    let s = c.requires.staged known in
    let file = g.D.Device.seen c.args.self.now.device in
    let text = c.args.text.now in
    let P = IsBeforeOrAfter (recovered file) (recovered text) in
    let start = started g.D.Device.moment g.D.Device.left_since c.args.self.now.device P (λ f left. inl (recovered-staged file text f (s.durable f (g.met.D.Device.only_now c.args.self.now.device f left)))) in
    let opened : (f : List ℕ) → g.D.Device.may_leave c.write_at.new.self f → P f = λ f left. let from = c.write_at.ensures.crash known f left in gate_crash file text from.0 f c.args.self.now.end c.requires.whole s.is_end (s.durable from.0 from.1) from.2 in
    let first = goes_on g.D.Device.moment g.D.Device.left_since _ _ c.write_at.new.self P (g.D.Device.may_leave c.write_at.new.self) start (c.write_at.ensures.time known) opened in
    goes_on g.D.Device.moment g.D.Device.left_since _ _ c.sync.new.self P (g.D.Device.may_leave c.sync.new.self) first (c.sync.ensures.time known) (λ f left. opened f (c.sync.ensures.crash known f left))

pub returns-clause-any_moment : goal.returns-clause-any_moment
returns-clause-any_moment g c known =
    let s = c.requires.staged known in
    let file = g.D.Device.seen c.args.self.now.device in
    let text = c.args.text.now in
    let P = IsBeforeOrAfter (recovered file) (recovered text) in
    let start = started g.D.Device.moment g.D.Device.left_since c.args.self.now.device P (λ f left. inl (recovered-staged file text f (s.durable f (g.met.D.Device.only_now c.args.self.now.device f left)))) in
    let opened : (f : List ℕ) → g.D.Device.may_leave c.write_at.new.self f → P f = λ f left. let from = c.write_at.ensures.crash known f left in gate_crash file text from.0 f c.args.self.now.end c.requires.whole s.is_end (s.durable from.0 from.1) from.2 in
    let first = goes_on g.D.Device.moment g.D.Device.left_since _ _ c.write_at.new.self P (g.D.Device.may_leave c.write_at.new.self) start (c.write_at.ensures.time known) opened in
    goes_on g.D.Device.moment g.D.Device.left_since _ _ c.sync.new.self P (g.D.Device.may_leave c.sync.new.self) first (c.sync.ensures.time known) (λ f left. opened f (c.sync.ensures.crash known f left))

pub returns-clause-added : goal.returns-clause-added
returns-clause-added g c known =
    let s = c.requires.staged known in
    let file = g.D.Device.seen c.args.self.now.device in
    let text = c.args.text.now in
    let lines = recovered file ++ recovered text in
    let are = AreLines-append (recovered file) (recovered text) (are_recovered file) (are_recovered text) in
    let stands = begins_opened (recovered file) text _ _ c.args.self.now.end c.requires.whole s.is_end s.file (c.in_ok-write_at.ensures.written known) in
    let here = subst (Begins (closed lines)) (sym (c.sync.ensures.seen known)) stands in
    recovered-closed lines _ are here

pub returns-clause-acknowledged : goal.returns-clause-acknowledged
returns-clause-acknowledged g c known =
    let s = c.requires.staged known in
    let file = g.D.Device.seen c.args.self.now.device in
    let text = c.args.text.now in
    let lines = recovered file ++ recovered text in
    let are = AreLines-append (recovered file) (recovered text) (are_recovered file) (are_recovered text) in
    let stands = begins_opened (recovered file) text _ _ c.args.self.now.end c.requires.whole s.is_end s.file (c.in_ok-write_at.ensures.written known) in
    let here = subst (Begins (closed lines)) (sym (c.sync.ensures.seen known)) stands in
    let only = c.in_ok-sync.ensures.durable known in
    settled_at g.D.Device.seen g.D.Device.may_leave g.D.Device.is_usable lines _ are
    (omega (arith, s.is_end, ap length (text_of-append (recovered file) (recovered text)), length-append (text_of (recovered file)) (text_of (recovered text)), ap length c.requires.whole.same)) here
    (λ f left. subst (Begins (closed lines)) (sym (only f left)) stands) (c.in_ok-sync.ensures.usable known)
