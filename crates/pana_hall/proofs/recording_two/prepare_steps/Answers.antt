use Rattle.pana_hall.proofs.Words.{◌≡◌, length, ap, arith, is_register}
use Rattle.std.proofs.lemmas.Result.{IfOk-weaker}
use Rattle.pana_hall.proofs.Listed.{found_set, position_within, ready_at, still_there}
use Rattle.pana_hall.proofs.recording_two.prepare_steps.Goals as goal

pub index_mut-it-requires : goal.index_mut-it-requires
index_mut-it-requires c =
    let within = position_within c.args.list.now.items c.requires.ready (ap is_register c.requires.two.first_is) in
    let same : length c.as_slice.result.now ≡ length c.args.list.now.items = ap length c.as_slice.ensures.value in
    omega (arith, c.as_slice.ensures.len)

pub prepare_edits-requires-clause-ready : goal.prepare_edits-requires-clause-ready
prepare_edits-requires-clause-ready c = ready_at c.args.list.now.items c.requires.ready (ap is_register c.requires.two.first_is) c.index_mut-it.result.now c.index_mut-it.result.now c.index_mut-it.ensures.value

pub returns-clause-same : goal.returns-clause-same
returns-clause-same c =
    still_there c.args.list.now.items c.requires.ready (ap is_register c.requires.two.first_is) c.index_mut-it.result.now c.index_mut-it.result.now c.prepare_edits.new.it c.index_mut-it.ensures.value c.prepare_edits.ensures.same

pub returns-clause-first : goal.returns-clause-first
returns-clause-first c =
    IfOk-weaker c.prepare_edits.result _ _
    (λ steps is. record { it = c.prepare_edits.new.it; found = found_set c.args.list.now.items c.requires.ready (ap is_register c.requires.two.first_is) c.prepare_edits.new.it; is = is }) c.prepare_edits.ensures.first

pub returns-clause-second : goal.returns-clause-second
returns-clause-second c =
    IfOk-weaker c.prepare_edits.result _ _
    (λ steps is. record { it = c.prepare_edits.new.it; found = found_set c.args.list.now.items c.requires.ready (ap is_register c.requires.two.first_is) c.prepare_edits.new.it; is = is }) c.prepare_edits.ensures.second
