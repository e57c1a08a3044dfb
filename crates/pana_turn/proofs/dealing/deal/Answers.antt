use Rattle.std.proofs.Common.{◌≡◌, ◌+◌, ◌<◌, [], ◌∷◌, ◌++◌, length, arith, ap, sym, ◌∙◌, subst}
use Rattle.std.proofs.lemmas.List.FromFn.{length-map-range_with_len}
use Rattle.atomic_table.specs.Table.{Splits}
use Rattle.pana_turn.specs.declared.view.Stage.TheVariants.{Idle}
use Rattle.pana_turn.specs.declared.view.View.{View}
use Rattle.pana_turn.specs.History.{calls_of}
use Rattle.pana_turn.specs.Passes.{DeskId, new_pass, new_passes}
use Rattle.pana_turn.specs.Rule.{Keeps}
use Rattle.pana_turn.specs.inner.Views.{dealt, kept, pass, view}
use Rattle.pana_turn.proofs.Opening.{accounts_more, deals_next, pass_with, passes_push}
use Rattle.pana_turn.proofs.dealing.deal.Goals as goal

pub split_seat-requires : goal.split_seat-requires
split_seat-requires g c =
    let key = c.args.shared.now.key in
    let keeps = c.loop-number.invariant in
    let less : c.loop-number.number < key.seats = (let all = c.requires.seats in omega arith) in
    let asks : View _ _ _ → Type 0 = λ v. Splits (Keeps g.M.Machine.step key) c.loop-number.seat.id v (kept v) (dealt v) in (
      keeps.seat_of,
      (let words = c.requires.table.0 in omega arith),
      subst asks (sym (ap (λ me. me.0) keeps.me)) (deals_next key.begun key.seats key c.loop-number.seat.id c.loop-number.number less),
    )

pub invariant_of-push_reserved : goal.invariant_of-push_reserved
invariant_of-push_reserved g c =
    let key = c.args.shared.now.key in
    let number = c.loop-number.number in
    let less : number < key.seats = (let all = c.requires.seats in omega arith) in
    let me_is : c.split_seat.result.me ≡ (pass key.begun number [] [] Idle, [])
    = c.split_seat.ensures.4 ∙ ap (λ me. (dealt me.0, [])) c.loop-number.invariant.me ∙ ap (λ accounts. (dealt (view accounts [] [] Idle), [])) (accounts_more _ _ key.begun number key.seats less) in
    let key_is = c.of.ensures ∙ c.requires.key in
    me_is ∙ ap (λ begun. (pass begun number [] [] Idle, [])) (sym (ap (λ key. key.begun) key_is))
    ∙ ap (λ seen. (pass c.of.result.value.begun number (calls_of number seen) seen Idle, [])) (sym (ap (λ me. me.0.seen) me_is))

pub push_reserved-requires : goal.push_reserved-requires
push_reserved-requires g c =
    let key = c.args.shared.now.key in
    let keeps = c.loop-number.invariant in
    let desk : DeskId _ = record { table = c.args.shared.now.table_id; begun = key.begun } in
    let long = ap length keeps.dealt ∙ length-map-range_with_len (new_pass desk) 0 c.loop-number.number in
    omega (arith, c.loop-number.passes.ok.0, long, keeps.room)

pub loop-number-preserved : goal.loop-number-preserved
loop-number-preserved g c =
    let key = c.args.shared.now.key in
    let keeps = c.loop-number.invariant in
    let number = c.loop-number.number in
    let less : number < key.seats = (let all = c.requires.seats in omega arith) in
    let desk : DeskId _ = record { table = c.args.shared.now.table_id; begun = key.begun } in
    let split = c.split_seat.ensures in
    let place = c.split_seat.result in
    let seen_is = ap (λ me. me.0.seen) split.4 ∙ ap (λ me. (dealt me.0).seen) keeps.me in
    let table_is = split.3 ∙ keeps.seat_of in
    let pass_is : pass_with place.table_id c.of.result.value number place.me.0.seen ≡ new_pass desk number
    = ap (λ t. pass_with t c.of.result.value number place.me.0.seen) table_is ∙ ap (λ key. pass_with c.args.shared.now.table_id key number place.me.0.seen) (c.of.ensures ∙ c.requires.key)
    ∙ ap (λ seen. record { desk = desk; number = number; seen = seen }) seen_is in record {
      seat_of = split.0 ∙ keeps.seat_of;
      me = split.2 ∙ ap (λ me. (kept me.0, me.1)) keeps.me ∙ ap (λ accounts. (kept (view accounts [] [] Idle), [])) (accounts_more _ _ key.begun number key.seats less);
      dealt = c.push_reserved.ensures.items ∙ ap (λ items. items ++ pass_with place.table_id c.of.result.value number place.me.0.seen ∷ []) keeps.dealt
          ∙ ap (λ pass. new_passes desk number ++ pass ∷ []) pass_is ∙ sym (passes_push _ _ desk number);
      room = omega (arith, keeps.room, c.push_reserved.ensures.capacity);
    }
