use Rattle.std.proofs.Common.{◌≡◌, refl, ◌+◌, ◌%◌, ◌^◌, [], ◌∷◌, ◌++◌, map, Some, arith, ap, sym, ◌∙◌, subst}
use Rattle.atomic_table.specs.Table.{Allows, rest}
use Rattle.pana_turn.specs.declared.finished_call.FinishedCall.{FinishedCall}
use Rattle.pana_turn.specs.declared.view.Stage.TheVariants.{Idle, Turn}
use Rattle.pana_turn.specs.History.{calls_of}
use Rattle.pana_turn.specs.Rule.{Keeps}
use Rattle.pana_turn.specs.inner.Views.{pass, view}
use Rattle.pana_turn.specs.inner.Steps.{Holds, Finishes, with_calls}
use Rattle.pana_turn.proofs.Finishing.{finishes, own_finished, run_finished}
use Rattle.pana_turn.proofs.turn.give_turn.Goals as goal

pub fetch_add-requires : goal.fetch_add-requires
fetch_add-requires g c =
    let put = c.exchange.ensures in
    let begun = c.args.shared.now.key.begun in
    let seen = c.args.seat.now.me.0.seen in
    let mine = calls_of c.args.number seen in
    let finished : FinishedCall _ _ _ = record { pass = c.args.number; call = c.args.call.value; reply = c.args.reply.now; left = c.args.machine } in
    let me_is : c.exchange.new.seat.me ≡ (pass begun c.args.number mine seen Turn, (0, Some c.args.machine) ∷ []) = put.3 ∙ ap (λ me. (me.0, (0, Some c.args.machine) ∷ rest me.1)) c.requires.seat.1 in
    let asks : Holds _ _ _ → Type 0 = λ me. Allows (Keeps g.M.Machine.step c.args.shared.now.key) c.args.shared.now.table_id.slots c.exchange.new.seat.id me 1 (λ n. (n + 1) % 2 ^ 64) (Finishes g.M.Machine.step g.N.Naming.finished me) in (
      put.0 ∙ c.requires.seat.0,
      (let words = c.requires.table.0 in omega arith),
      subst asks (sym me_is)
          (subst
          (λ f. Allows (Keeps g.M.Machine.step c.args.shared.now.key) c.args.shared.now.table_id.slots c.exchange.new.seat.id (pass begun c.args.number mine seen Turn, (0, Some c.args.machine) ∷ []) 1 (λ n. (n + 1) % 2 ^ 64) (Finishes g.M.Machine.step f (pass begun c.args.number mine seen Turn, (0, Some c.args.machine) ∷ [])))
          (sym c.requires.named)
          (finishes c.args.shared.now.key c.args.shared.now.table_id.slots c.exchange.new.seat.id c.args.number begun mine seen finished refl c.requires.stepped)),
    )

pub returns-clause-finished : goal.returns-clause-finished
returns-clause-finished g c =
    let me_is = c.exchange.ensures.3 ∙ ap (λ me. (me.0, (0, Some c.args.machine) ∷ rest me.1)) c.requires.seat.1 in
    c.fetch_add.ensures.2.is ∙ ap (λ (me : Holds _ _ _). (view (map (with_calls g.N.Naming.finished) me.0.accounts) (me.0.seen ++ g.N.Naming.finished) [] Idle, rest me.1)) me_is

pub returns-clause-own : goal.returns-clause-own
returns-clause-own g c = own_finished g.N.Naming.finished _ _ _ _ _ _ (ap (λ me. me.0) c.exchange.ensures.3 ∙ ap (λ me. me.0) c.requires.seat.1) c.fetch_add.ensures.2

pub returns-clause-run : goal.returns-clause-run
returns-clause-run g c = run_finished g.N.Naming.finished _ _ _ _ _ _ (ap (λ me. me.0) c.exchange.ensures.3 ∙ ap (λ me. me.0) c.requires.seat.1) c.fetch_add.ensures.2
