use Rattle.std.proofs.Common.{◌≡◌, List, [], ◌∷◌, ◌++◌, Option, Some, ap, sym, ◌∙◌, subst}
use Rattle.atomic_table.specs.Table.{opening}
use Rattle.pana_turn.specs.Rule.{DeskKey, Keeps}
use Rattle.pana_turn.specs.inner.Views.{first}
use Rattle.pana_turn.proofs.Opening.{opens}
use Rattle.pana_turn.proofs.desk.Desk.open.Goals as goal

pub new-requires : goal.new-requires
new-requires g c =
    let key : DeskKey _ = record { seats = c.args.seats; begun = c.of.result.value } in
    let keeps : List (Option _) → Type 0 = λ slots. Keeps g.M.Machine.step key (opening (0 ∷ 0 ∷ []) slots (first key)) in
    let one : c.push_reserved.new.self.items ≡ Some key.begun ∷ []
    = c.push_reserved.ensures.items ∙ ap (λ slots. slots ++ Some c.args.machine ∷ []) c.in_ok-slots.ensures.items ∙ ap (λ machine. Some machine ∷ []) (sym c.of.ensures) in
    subst keeps (sym one) (opens key c.requires.1)
