use Rattle.pana_hall.proofs.Words.{nat_tests, arith, List, ◌∷◌, take, earlier_of, sym, ap, subst, ◌∙◌, StampRow, RoomyFamily, history, kept_rows, reported_kept, undone, IsPreparedIn}
use Rattle.pana_hall.proofs.Histories.{kept_pushed, pushed}
use Rattle.pana_hall.proofs.kept_family.KeptFamily.apply.Goals as goal

pub apply-back-requires : goal.apply-back-requires
apply-back-requires c = subst (IsPreparedIn c.args.entry c.args.report c.args.change) (sym c.self.view_is) c.requires

pub invariant_of-self : goal.invariant_of-self
invariant_of-self c = grind (arith, nat_tests, kept_pushed)

pub returns-clause-kept : goal.returns-clause-kept
returns-clause-kept c =
    let old = c.self.inside.undo.items in
    let before = earlier_of c.args.before in
    ap (λ u. kept_rows c.self.inside.number c.apply-back.new.self.rows u)
    (pushed c.self.inside.family.rows c.apply-back.new.self.rows old c.push_front.new.self (record { entry = c.args.entry; back = c.apply-back.result; before = c.args.before }) c.self.inside.undo.capacity c.self.invariant.0 c.push_front.ensures.items
    c.apply-back.ensures.back.rows)
    ∙ ap (λ (r : List StampRow). kept_rows c.self.inside.number r (take 8 (undone c.args.entry c.self.inside.family.rows before ∷ history c.self.inside.family.rows old))) c.apply-back.ensures.rows
    ∙ ap (λ (k : RoomyFamily). reported_kept c.args.entry c.args.report before k.kept) c.self.view_is
