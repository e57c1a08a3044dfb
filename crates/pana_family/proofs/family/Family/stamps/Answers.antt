use Rattle.pana_family.proofs.Words.{arith, nat_tests, sym, subst, ◌∙◌, List, ap, map, filter, StampRow, is_copy, In, StandsFor, text_of, row_text, RowList}
use Rattle.pana_family.proofs.Texts.{stamps_answer}
use Rattle.pana_family.proofs.family.Family.stamps.Goals as goal

pub returns-clause-stands : goal.returns-clause-stands
returns-clause-stands c = λ table st.
    let rows : List StampRow = c.self.inside.items.items in
    stamps_answer rows table c.self.invariant.0.rising (subst (λ (l : List StampRow). StandsFor l table) (sym (ap (λ (v : RowList). v.rows) c.self.view_is)) st)
    (λ r i. c.all_valid.ensures r (subst (In r) (sym c.deref.ensures.value) i)) (map text_of c.from_vec.result)
    (ap (map text_of) c.from_vec.ensures ∙ c.in_ok-stamps.ensures ∙ ap (λ (l : List StampRow). map row_text (filter (λ row. is_copy row.holder) l)) c.deref-2.ensures.value)

pub returns-clause-exact : goal.returns-clause-exact
returns-clause-exact c = grind (arith, nat_tests)
