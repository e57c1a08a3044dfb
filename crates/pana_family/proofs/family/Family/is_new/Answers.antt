use Rattle.pana_family.proofs.Words.{ap, sym, subst, ◌∙◌, ◌≡◌, AreBefore, RowList}
use Rattle.pana_family.proofs.family.Family.is_new.Goals as goal

pub returns : goal.returns
returns c =
    let same : c.deref.result.now ≡ c.args.self.now.rows = c.deref.ensures.value ∙ (ap (λ (v : RowList). v.rows) c.self.view_is) in
    ((λ t. subst (AreBefore c.args.entry) same (c.are_before.ensures.0 t)), λ b. c.are_before.ensures.1 (subst (AreBefore c.args.entry) (sym same) b))
