use Rattle.std.proofs.Common.{rules, ap}
use Rattle.pana_event.specs.Event.{Event}
use Rattle.pana_id.specs.Node.{tree as id_of}
use Rattle.pana_id.proofs.Nodes.{other_node}
use Rattle.pana_stamp.proofs.Fills.{fill_right, fill_both}
use Rattle.pana_stamp.proofs.filling.+walk.Goals as goal

pub fill_halves-returns-in_ok-left-in_default-One : goal.fill_halves-returns-in_ok-left-in_default-One
fill_halves-returns-in_ok-left-in_default-One t c =
    let is = λ (l r : Event). fill_right (id_of c.args.ids.now.left) (id_of c.args.ids.now.right) c.in-Fork.number l r (other_node _ c.in_default-One.not-One-0) (ap id_of c.in_default-One.is-1) in
    search rules

pub fill_halves-returns-in_ok-right-in_default : goal.fill_halves-returns-in_ok-right-in_default
fill_halves-returns-in_ok-right-in_default t c =
    let is = λ (l r : Event). fill_both (id_of c.args.ids.now.left) (id_of c.args.ids.now.right) c.in-Fork.number l r (other_node _ c.in_default.not-One-0) (other_node _ c.in_default.not-One-1) in
    search rules
