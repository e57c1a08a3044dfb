use Rattle.pana_hall.proofs.Words.{◌≡◌, length, ap, arith}
use Rattle.std.proofs.lemmas.Result.{IfOk-weaker}
use Rattle.pana_hall.proofs.Listed.{not_register, position_within, ready_at, still_there, step_set}
use Rattle.pana_hall.proofs.recording.prepare_step.Goals as goal

pub index_mut-it-requires : goal.index_mut-it-requires
index_mut-it-requires c =
    let within = position_within c.args.list.now.items c.requires.ready (not_register c.args.report.now c.in_default.not-Register) in
    let same : length c.as_slice.result.now ≡ length c.args.list.now.items = ap length c.as_slice.ensures.value in
    omega (arith, c.as_slice.ensures.len)

pub prepare_family-requires-clause-ready : goal.prepare_family-requires-clause-ready
prepare_family-requires-clause-ready c = ready_at c.args.list.now.items c.requires.ready (not_register c.args.report.now c.in_default.not-Register) c.index_mut-it.result.now c.index_mut-it.result.now c.index_mut-it.ensures.value

pub returns-in_default-clause-same : goal.returns-in_default-clause-same
returns-in_default-clause-same c =
    still_there c.args.list.now.items c.requires.ready (not_register c.args.report.now c.in_default.not-Register) c.index_mut-it.result.now c.index_mut-it.result.now c.prepare_family.new.it c.index_mut-it.ensures.value c.prepare_family.ensures.same

pub returns-in_default-clause-step : goal.returns-in_default-clause-step
returns-in_default-clause-step c =
    IfOk-weaker c.prepare_family.result _ _
    (λ step is. step_set c.args.list.now.items c.requires.ready (not_register c.args.report.now c.in_default.not-Register) _ _ _ _ c.prepare_family.new.it step is) c.prepare_family.ensures.step
