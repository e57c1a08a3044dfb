-- One write behind the gate.
use Rattle.std.proofs.Common.{◌+◌, List, ℕ, arith}
use Rattle.pana_log.specs.Lines.{recovered}
use Rattle.pana_log.proofs.Kept.{keeps_start, keeps_torn, keeps_same, keeps_settled}
use Rattle.pana_log.proofs.Settled.{length-closed}
use Rattle.pana_log.proofs.log.Log.reserve.Goals as goal

pub returns-then-bytes-gt-LONGEST-clause-any_moment : goal.returns-then-bytes-gt-LONGEST-clause-any_moment
returns-then-bytes-gt-LONGEST-clause-any_moment g c known =
    let s = c.requires.settled known in
    let k0 = keeps_start g.D.Device.seen g.D.Device.may_leave g.D.Device.is_usable g.D.Device.moment g.D.Device.left_since c.args.self.now s (g.met.D.Device.only_now c.args.self.now.device) in
    k0.so_far

pub returns-clause-settled : goal.returns-clause-settled
returns-clause-settled g c known =
    let s = c.requires.settled known in
    let k0 = keeps_start g.D.Device.seen g.D.Device.may_leave g.D.Device.is_usable g.D.Device.moment g.D.Device.left_since c.args.self.now s (g.met.D.Device.only_now c.args.self.now.device) in
    let k1 = keeps_torn k0 c.write_at.new.self (c.args.self.now.end + 1 + c.args.at) _ (omega (arith, s.is_end, length-closed (recovered (g.D.Device.seen c.args.self.now.device)))) (c.write_at.ensures.others known) (c.write_at.ensures.crash known) (c.write_at.ensures.usable known) (c.write_at.ensures.time known) in
    keeps_settled _ k1 s.is_end

pub returns-clause-same : goal.returns-clause-same
returns-clause-same g c known =
    let s = c.requires.settled known in
    let k0 = keeps_start g.D.Device.seen g.D.Device.may_leave g.D.Device.is_usable g.D.Device.moment g.D.Device.left_since c.args.self.now s (g.met.D.Device.only_now c.args.self.now.device) in
    let k1 = keeps_torn k0 c.write_at.new.self (c.args.self.now.end + 1 + c.args.at) _ (omega (arith, s.is_end, length-closed (recovered (g.D.Device.seen c.args.self.now.device)))) (c.write_at.ensures.others known) (c.write_at.ensures.crash known) (c.write_at.ensures.usable known) (c.write_at.ensures.time known) in
    keeps_same k1

pub returns-clause-any_moment : goal.returns-clause-any_moment
returns-clause-any_moment g c known =
    let s = c.requires.settled known in
    let k0 = keeps_start g.D.Device.seen g.D.Device.may_leave g.D.Device.is_usable g.D.Device.moment g.D.Device.left_since c.args.self.now s (g.met.D.Device.only_now c.args.self.now.device) in
    let k1 = keeps_torn k0 c.write_at.new.self (c.args.self.now.end + 1 + c.args.at) _ (omega (arith, s.is_end, length-closed (recovered (g.D.Device.seen c.args.self.now.device)))) (c.write_at.ensures.others known) (c.write_at.ensures.crash known) (c.write_at.ensures.usable known) (c.write_at.ensures.time known) in
    k1.so_far
