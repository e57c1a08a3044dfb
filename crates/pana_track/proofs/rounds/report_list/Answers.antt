use Rattle.std.proofs.Common.{◌++◌, List, length, map, subst, sym, ap, ◌∙◌, arith}
use Rattle.pana_calls.specs.Session.{AddsAll, AddsSome}
use Rattle.pana_calls.specs.declared.answer.Answer.{Answer}
use Rattle.pana_track.specs.Reports.{moved}
use Rattle.pana_track.proofs.ByRounds.{broken_list, made_list}
use Rattle.pana_track.proofs.Listed.{map_length, messages_len, no_more}
use Rattle.pana_track.proofs.Reported.{if_err, was_ok}
use Rattle.pana_track.proofs.rounds.report_list.Goals as goal

pub take_answers-unkept-requires-clause-few : goal.take_answers-unkept-requires-clause-few
take_answers-unkept-requires-clause-few g c =
    let few = no_more g.S.Session.step g.S.Session.fails c.call_all-made.result c.args.session.now c.in-Ok.messages.items c.in-Ok-with_capacity.answers.items c.call_all-made.new.answers.items c.call_all-made.new.self c.in-Ok-with_capacity.ensures.items
    c.call_all-made.ensures.step c.call_all-made.ensures.fails in
    omega (arith, few, ap length c.in-Ok.ensures, messages_len c.args.device.now (map (λ notice. notice.now) c.args.notices.now), map_length (λ notice. notice.now) c.args.notices.now, ap length c.as_slice.ensures.value)

pub take_answers-unkept-requires-clause-room : goal.take_answers-unkept-requires-clause-room
take_answers-unkept-requires-clause-room g c =
    let few = no_more g.S.Session.step g.S.Session.fails c.call_all-made.result c.args.session.now c.in-Ok.messages.items c.in-Ok-with_capacity.answers.items c.call_all-made.new.answers.items c.call_all-made.new.self c.in-Ok-with_capacity.ensures.items
    c.call_all-made.ensures.step c.call_all-made.ensures.fails in
    let room = was_ok c.reserve.result _ c.reserve.ensures.ok (sym c.is_err.ensures.value ∙ c.if-is_err.false) in
    omega (arith, few, room, c.reserve.ensures.len, ap length c.in-Ok.ensures, messages_len c.args.device.now (map (λ notice. notice.now) c.args.notices.now), map_length (λ notice. notice.now) c.args.notices.now, ap length c.as_slice.ensures.value)

pub returns-in_err-made-clause-fails : goal.returns-in_err-made-clause-fails
returns-in_err-made-clause-fails g c =
    if_err c.from_residual.result _
    (broken_list g.S.Session.step c.args.device.now (map (λ notice. notice.now) c.args.notices.now) c.args.session.now c.call_all-made.new.self c.args.tally.now c.take_answers-unkept.new.tally c.in-Ok.messages.items c.in-Ok-with_capacity.answers.items
    c.as_slice.result.now c.in-Ok.ensures c.in-Ok-with_capacity.ensures.items (c.take_answers-unkept.ensures.tally c.args.device.now) g.S.Session.fails
    (subst (λ (xs : List Answer). AddsSome g.S.Session.step g.S.Session.fails c.args.session.now c.in-Ok.messages.items c.in-Ok-with_capacity.answers.items xs c.call_all-made.new.self) (sym c.as_slice.ensures.value) c.in_err-made.ensures.fails))

pub returns-clause-ok : goal.returns-clause-ok
returns-clause-ok g c =
    made_list g.S.Session.step c.args.device.now (map (λ notice. notice.now) c.args.notices.now) c.args.session.now c.call_all-made.new.self c.args.tally.now c.take_answers-unkept.new.tally c.in-Ok.messages.items c.in-Ok-with_capacity.answers.items
    c.as_slice.result.now c.in-Ok.ensures c.in-Ok-with_capacity.ensures.items (c.take_answers-unkept.ensures.tally c.args.device.now) (map (λ notice. notice.now) c.args.left.now.items) (map (λ notice. notice.now) c.take_answers-unkept.new.left.items)
    c.stop_behind.result c.take_answers-unkept.result (subst (λ (xs : List Answer). AddsAll g.S.Session.step c.args.session.now c.in-Ok.messages.items c.in-Ok-with_capacity.answers.items xs c.call_all-made.new.self) (sym c.as_slice.ensures.value) c.in_ok-made.ensures.step)
    (c.take_answers-unkept.ensures.left ∙ ap (λ xs. map (λ notice. notice.now) xs ++ moved (map (λ notice. notice.now) c.args.notices.now) c.as_slice.result.now) c.reserve.ensures.items) c.take_answers-unkept.ensures.unkept c.stop_behind.ensures
