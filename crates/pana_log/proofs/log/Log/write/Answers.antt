use Rattle.std.proofs.Common.{◌≡◌, ◌+◌, ◌-◌, List, ℕ, length, take, drop, subst, arith}
use Rattle.std.proofs.lemmas.List.{take_all}
use Rattle.std.specs.Prelude.{Result, Ok, Err, OnErr, IsTrue}
use Rattle.pana_log.specs.Device.{Holds}
use Rattle.pana_log.specs.Log.{IsSettled}
use Rattle.pana_log.specs.Lines.{recovered}
use Rattle.pana_log.proofs.Kept.{keeps_start, keeps_torn, keeps_same, keeps_settled}
use Rattle.pana_log.proofs.Settled.{length-closed, length_of, begins_written, written_at}
use Rattle.pana_log.proofs.log.Log.write.Goals as goal

on_err : {A E : Type 0} (r : Result A E) (P : Type 0) → P → OnErr r P
on_err (Ok x) P p = tt
on_err (Err e) P p = p

pub returns-then-text-gt-LONGEST-clause-any_moment : goal.returns-then-text-gt-LONGEST-clause-any_moment
returns-then-text-gt-LONGEST-clause-any_moment g c known =
    let s = c.requires.settled known in
    let k0 = keeps_start g.D.Device.seen g.D.Device.may_leave g.D.Device.is_usable g.D.Device.moment g.D.Device.left_since c.args.self.now s (g.met.D.Device.only_now c.args.self.now.device) in
    k0.so_far

pub returns-in_err-write_at-clause-same : goal.returns-in_err-write_at-clause-same
returns-in_err-write_at-clause-same g c known =
    let s = c.requires.settled known in
    let k0 = keeps_start g.D.Device.seen g.D.Device.may_leave g.D.Device.is_usable g.D.Device.moment g.D.Device.left_since c.args.self.now s (g.met.D.Device.only_now c.args.self.now.device) in
    let k1 = keeps_torn k0 c.write_at.new.self (c.args.self.now.end + 1) _ (omega (arith, s.is_end, length-closed (recovered (g.D.Device.seen c.args.self.now.device)))) (c.write_at.ensures.others known) (c.write_at.ensures.crash known) (c.write_at.ensures.usable known) (c.write_at.ensures.time known) in
    keeps_same k1

pub returns-in_err-write_at-clause-any_moment : goal.returns-in_err-write_at-clause-any_moment
returns-in_err-write_at-clause-any_moment g c known =
    let s = c.requires.settled known in
    let k0 = keeps_start g.D.Device.seen g.D.Device.may_leave g.D.Device.is_usable g.D.Device.moment g.D.Device.left_since c.args.self.now s (g.met.D.Device.only_now c.args.self.now.device) in
    let k1 = keeps_torn k0 c.write_at.new.self (c.args.self.now.end + 1) _ (omega (arith, s.is_end, length-closed (recovered (g.D.Device.seen c.args.self.now.device)))) (c.write_at.ensures.others known) (c.write_at.ensures.crash known) (c.write_at.ensures.usable known) (c.write_at.ensures.time known) in
    k1.so_far

pub returns-in_err-write_at-2-clause-same : goal.returns-in_err-write_at-2-clause-same
returns-in_err-write_at-2-clause-same g c known =
    let s = c.requires.settled known in
    let k0 = keeps_start g.D.Device.seen g.D.Device.may_leave g.D.Device.is_usable g.D.Device.moment g.D.Device.left_since c.args.self.now s (g.met.D.Device.only_now c.args.self.now.device) in
    let k1 = keeps_torn k0 c.write_at.new.self (c.args.self.now.end + 1) _ (omega (arith, s.is_end, length-closed (recovered (g.D.Device.seen c.args.self.now.device)))) (c.write_at.ensures.others known) (c.write_at.ensures.crash known) (c.write_at.ensures.usable known) (c.write_at.ensures.time known) in
    let k2 = keeps_torn k1 c.write_at-2.new.self (c.args.self.now.end + length c.args.text.now) _ (omega (arith, s.is_end, length_of c.args.text.now c.requires.whole, length-closed (recovered (g.D.Device.seen c.args.self.now.device)))) (c.write_at-2.ensures.others known) (c.write_at-2.ensures.crash known) (c.write_at-2.ensures.usable known) (c.write_at-2.ensures.time known) in
    keeps_same k2

pub returns-in_err-write_at-2-clause-any_moment : goal.returns-in_err-write_at-2-clause-any_moment
returns-in_err-write_at-2-clause-any_moment g c known =
    let s = c.requires.settled known in
    let k0 = keeps_start g.D.Device.seen g.D.Device.may_leave g.D.Device.is_usable g.D.Device.moment g.D.Device.left_since c.args.self.now s (g.met.D.Device.only_now c.args.self.now.device) in
    let k1 = keeps_torn k0 c.write_at.new.self (c.args.self.now.end + 1) _ (omega (arith, s.is_end, length-closed (recovered (g.D.Device.seen c.args.self.now.device)))) (c.write_at.ensures.others known) (c.write_at.ensures.crash known) (c.write_at.ensures.usable known) (c.write_at.ensures.time known) in
    let k2 = keeps_torn k1 c.write_at-2.new.self (c.args.self.now.end + length c.args.text.now) _ (omega (arith, s.is_end, length_of c.args.text.now c.requires.whole, length-closed (recovered (g.D.Device.seen c.args.self.now.device)))) (c.write_at-2.ensures.others known) (c.write_at-2.ensures.crash known) (c.write_at-2.ensures.usable known) (c.write_at-2.ensures.time known) in
    k2.so_far

pub returns-in_err-write_at-clause-refused : goal.returns-in_err-write_at-clause-refused
returns-in_err-write_at-clause-refused g c =
    let P : Type 0 = IsTrue g.D.Device.is_known → IsSettled g.D.Device.seen g.D.Device.may_leave g.D.Device.is_usable (record { device = c.write_at.new.self; end = c.args.self.now.end; state = c.args.self.now.state }) in
    let settled : P = λ known.
    let s = c.requires.settled known in
    let k0 = keeps_start g.D.Device.seen g.D.Device.may_leave g.D.Device.is_usable g.D.Device.moment g.D.Device.left_since c.args.self.now s (g.met.D.Device.only_now c.args.self.now.device) in
    let k1 = keeps_torn k0 c.write_at.new.self (c.args.self.now.end + 1) _ (omega (arith, s.is_end, length-closed (recovered (g.D.Device.seen c.args.self.now.device)))) (c.write_at.ensures.others known) (c.write_at.ensures.crash known) (c.write_at.ensures.usable known) (c.write_at.ensures.time known) in
    keeps_settled _ k1 s.is_end in
    on_err _ P settled

pub returns-in_err-write_at-2-clause-refused : goal.returns-in_err-write_at-2-clause-refused
returns-in_err-write_at-2-clause-refused g c =
    let P : Type 0 = IsTrue g.D.Device.is_known → IsSettled g.D.Device.seen g.D.Device.may_leave g.D.Device.is_usable (record { device = c.write_at-2.new.self; end = c.args.self.now.end; state = c.args.self.now.state }) in
    let settled : P = λ known.
    let s = c.requires.settled known in
    let k0 = keeps_start g.D.Device.seen g.D.Device.may_leave g.D.Device.is_usable g.D.Device.moment g.D.Device.left_since c.args.self.now s (g.met.D.Device.only_now c.args.self.now.device) in
    let k1 = keeps_torn k0 c.write_at.new.self (c.args.self.now.end + 1) _ (omega (arith, s.is_end, length-closed (recovered (g.D.Device.seen c.args.self.now.device)))) (c.write_at.ensures.others known) (c.write_at.ensures.crash known) (c.write_at.ensures.usable known) (c.write_at.ensures.time known) in
    let k2 = keeps_torn k1 c.write_at-2.new.self (c.args.self.now.end + length c.args.text.now) _ (omega (arith, s.is_end, length_of c.args.text.now c.requires.whole, length-closed (recovered (g.D.Device.seen c.args.self.now.device)))) (c.write_at-2.ensures.others known) (c.write_at-2.ensures.crash known) (c.write_at-2.ensures.usable known) (c.write_at-2.ensures.time known) in
    keeps_settled _ k2 s.is_end in
    on_err _ P settled

pub returns-clause-same : goal.returns-clause-same
returns-clause-same g c known =
    let s = c.requires.settled known in
    let k0 = keeps_start g.D.Device.seen g.D.Device.may_leave g.D.Device.is_usable g.D.Device.moment g.D.Device.left_since c.args.self.now s (g.met.D.Device.only_now c.args.self.now.device) in
    let k1 = keeps_torn k0 c.write_at.new.self (c.args.self.now.end + 1) _ (omega (arith, s.is_end, length-closed (recovered (g.D.Device.seen c.args.self.now.device)))) (c.write_at.ensures.others known) (c.write_at.ensures.crash known) (c.write_at.ensures.usable known) (c.write_at.ensures.time known) in
    let k2 = keeps_torn k1 c.write_at-2.new.self (c.args.self.now.end + length c.args.text.now) _ (omega (arith, s.is_end, length_of c.args.text.now c.requires.whole, length-closed (recovered (g.D.Device.seen c.args.self.now.device)))) (c.write_at-2.ensures.others known) (c.write_at-2.ensures.crash known) (c.write_at-2.ensures.usable known) (c.write_at-2.ensures.time known) in
    keeps_same k2

pub returns-clause-any_moment : goal.returns-clause-any_moment
returns-clause-any_moment g c known =
    let s = c.requires.settled known in
    let k0 = keeps_start g.D.Device.seen g.D.Device.may_leave g.D.Device.is_usable g.D.Device.moment g.D.Device.left_since c.args.self.now s (g.met.D.Device.only_now c.args.self.now.device) in
    let k1 = keeps_torn k0 c.write_at.new.self (c.args.self.now.end + 1) _ (omega (arith, s.is_end, length-closed (recovered (g.D.Device.seen c.args.self.now.device)))) (c.write_at.ensures.others known) (c.write_at.ensures.crash known) (c.write_at.ensures.usable known) (c.write_at.ensures.time known) in
    let k2 = keeps_torn k1 c.write_at-2.new.self (c.args.self.now.end + length c.args.text.now) _ (omega (arith, s.is_end, length_of c.args.text.now c.requires.whole, length-closed (recovered (g.D.Device.seen c.args.self.now.device)))) (c.write_at-2.ensures.others known) (c.write_at-2.ensures.crash known) (c.write_at-2.ensures.usable known) (c.write_at-2.ensures.time known) in
    k2.so_far

pub returns-clause-written : goal.returns-clause-written
returns-clause-written g c known =
    let s = c.requires.settled known in
    let k0 = keeps_start g.D.Device.seen g.D.Device.may_leave g.D.Device.is_usable g.D.Device.moment g.D.Device.left_since c.args.self.now s (g.met.D.Device.only_now c.args.self.now.device) in
    let k1 = keeps_torn k0 c.write_at.new.self (c.args.self.now.end + 1) _ (omega (arith, s.is_end, length-closed (recovered (g.D.Device.seen c.args.self.now.device)))) (c.write_at.ensures.others known) (c.write_at.ensures.crash known) (c.write_at.ensures.usable known) (c.write_at.ensures.time known) in
    let k2 = keeps_torn k1 c.write_at-2.new.self (c.args.self.now.end + length c.args.text.now) _ (omega (arith, s.is_end, length_of c.args.text.now c.requires.whole, length-closed (recovered (g.D.Device.seen c.args.self.now.device)))) (c.write_at-2.ensures.others known) (c.write_at-2.ensures.crash known) (c.write_at-2.ensures.usable known) (c.write_at-2.ensures.time known) in
    let text = c.args.text.now in
    let long = length_of text c.requires.whole in
    let rest_is : take (length text - 1) (drop 1 text) ≡ drop 1 text = take_all (length text - 1) (drop 1 text) (omega (arith, long)) in
    let w1 = subst (λ (l : List ℕ). Holds (g.D.Device.seen c.args.self.now.device) (c.args.self.now.end + 1) l (g.D.Device.seen c.write_at.new.self)) rest_is (c.in_ok-write_at.ensures.written known) in
    let file = begins_written (recovered (g.D.Device.seen c.args.self.now.device)) text _ _ _ c.args.self.now.end c.requires.whole s.is_end s.file w1 (c.in_ok-write_at-2.ensures.written known) in
    written_at g.D.Device.seen g.D.Device.may_leave g.D.Device.is_usable (g.D.Device.seen c.args.self.now.device) text _ (keeps_same k2) s.is_end file k2.durable k2.usable
