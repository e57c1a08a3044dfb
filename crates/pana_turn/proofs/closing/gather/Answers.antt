use Rattle.std.proofs.Common.{◌≡◌, suc, [], ◌∷◌, ◌++◌, map, All, arith, ap, sym, ◌∙◌, subst, append_assoc}
use Rattle.atomic_table.specs.Table.{Joins}
use Rattle.pana_turn.specs.declared.view.Stage.TheVariants.{Idle}
use Rattle.pana_turn.specs.declared.view.View.{View}
use Rattle.pana_turn.specs.History.{calls_of}
use Rattle.pana_turn.specs.Passes.{PassView}
use Rattle.pana_turn.specs.Rule.{Keeps}
use Rattle.pana_turn.specs.inner.Views.{account_of, gathered, pass, spent, view}
use Rattle.pana_turn.specs.inner.Steps.{Holds}
use Rattle.pana_turn.proofs.Joining.{gathers}
use Rattle.pana_turn.proofs.closing.gather.Goals as goal

pub join_seat-requires : goal.join_seat-requires
join_seat-requires g c =
    let keeps = c.loop-pass.invariant in
    let given = λ (p : PassView _ _ _). p.desk.table ≡ c.args.shared.now.table_id in
    let all : All given (c.in-Some.pass ∷ c.next.new.self.rest.items) = subst (All given) c.in-Some.ensures.steps.0 keeps.6 in
    let v = c.loop-pass.seat.me.0 in
    let asks : View _ _ _ → Type 0 = λ w. Joins (Keeps g.M.Machine.step c.args.shared.now.key) c.loop-pass.seat.id v c.pass.inside.seat.id w (gathered v w) spent in
    let seen = c.pass.inside.seat.me.0.seen in (
      keeps.2 ∙ c.requires.seat.0,
      ap (λ p. p.desk.table) c.pass.view_is ∙ all 0 c.in-Some.pass (omega arith),
      ap (λ me. me.1) c.pass.invariant,
      (let words = c.requires.table.0 in omega arith),
      subst asks (sym (ap (λ me. me.0) c.pass.invariant)) (gathers _ _ _ v c.pass.inside.key.value.begun c.pass.inside.number (calls_of c.pass.inside.number seen) seen (ap (λ me. me.0.stage) keeps.4)),
    )

pub loop-pass-preserved : goal.loop-pass-preserved
loop-pass-preserved g c =
    let keeps = c.loop-pass.invariant in
    let given = λ (p : PassView _ _ _). p.desk.table ≡ c.args.shared.now.table_id in
    let all : All given (c.in-Some.pass ∷ c.next.new.self.rest.items) = subst (All given) c.in-Some.ensures.steps.0 keeps.6 in
    let joined = c.join_seat.ensures in
    let accounts = c.loop-pass.seat.me.0.accounts in
    let past = c.args.seat.now.me.0.seen in
    let seen = c.pass.inside.seat.me.0.seen in
    let other : Holds _ _ _ = (pass c.pass.inside.key.value.begun c.pass.inside.number (calls_of c.pass.inside.number seen) seen Idle, []) in
    let here : Holds _ _ _ = (view accounts past [] Idle, []) in
    let me_is : c.join_seat.new.seat.me ≡ (view (accounts ++ account_of c.in-Some.pass ∷ []) past [] Idle, [])
    = joined.2 ∙ ap (λ me. (gathered me.0 c.pass.inside.seat.me.0, me.1)) keeps.4 ∙ ap (λ me. (gathered here.0 me.0, here.1)) c.pass.invariant
    ∙ ap (λ p. (view (accounts ++ account_of p ∷ []) past [] Idle, [])) c.pass.view_is in (
      tt,
      tt,
      joined.0 ∙ keeps.2,
      joined.1 ∙ keeps.3,
      me_is ∙ ap (λ a. (view a past [] Idle, [])) (sym (ap (λ me. me.0.accounts) me_is)),
      ap (λ me. me.0.accounts ++ map account_of c.next.new.self.rest.items) me_is ∙ append_assoc accounts (account_of c.in-Some.pass ∷ []) (map account_of c.next.new.self.rest.items)
          ∙ ap (λ passes. accounts ++ map account_of passes) (sym c.in-Some.ensures.steps.0) ∙ keeps.5,
      (λ k d within. all (suc k) d (omega arith)),
    )
