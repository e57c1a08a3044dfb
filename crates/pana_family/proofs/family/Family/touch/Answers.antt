use Rattle.pana_family.proofs.Words.{arith, ◌≡◌, sym, subst, ◌∙◌, ap, List, StampRow, StandsFor, In, touch_in, RowList}
use Rattle.pana_family.proofs.{Members.one_row, Written.IsRowAt, Written.row_at, Changes.touch_found}
use Rattle.pana_family.proofs.family.Family.touch.Goals as goal

pub returns-clause-touch : goal.returns-clause-touch
returns-clause-touch c = λ table st.
    let rows : List StampRow = c.self.inside.items.items in
    let here : IsRowAt rows c.index_of.result c.args.copy c.index.result.now =
    row_at _ _ _ _ _ c.deref.ensures.value c.index_of.ensures.within c.index_of.ensures.here c.index_of.ensures.free c.index.ensures in
    let stands : StandsFor rows table = subst (λ (l : List StampRow). StandsFor l table) (sym (ap (λ (v : RowList). v.rows) c.self.view_is)) st in
    sym (touch_found 0 rows table c.index.result.now c.self.invariant.0.rising stands.same here.row) ∙ ap (touch_in table) here.named

pub returns-clause-levels : goal.returns-clause-levels
returns-clause-levels c = λ row i named.
    let rows : List StampRow = c.self.inside.items.items in
    let here : IsRowAt rows c.index_of.result c.args.copy c.index.result.now =
    row_at _ _ _ _ _ c.deref.ensures.value c.index_of.ensures.within c.index_of.ensures.here c.index_of.ensures.free c.index.ensures in
    let j : In row rows = subst (In row) (sym (ap (λ (v : RowList). v.rows) c.self.view_is)) i in
    let same : row ≡ c.index.result.now = one_row 0 rows row c.index.result.now c.self.invariant.0.rising j here.row (named ∙ sym here.named) in
    omega (arith, c.self.invariant.0.levels row j, ap (λ (r : StampRow). r.touch) same)
