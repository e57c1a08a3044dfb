use Rattle.std.proofs.Common.{rules, ◌≡◌, ◌∙◌, ◌+◌, List, ◌++◌, ◌∷◌, [], ap, sym, drop, take, append_assoc, take-append-drop}
use Rattle.std.proofs.lemmas.List.{drop_more, take_more}
use Rattle.pana_journal.specs.declared.entry.Entry.{Entry}
use Rattle.pana_shared.specs.declared.record.Record.{Record}
use Rattle.pana_shared_store.specs.Store.{entries_in}
use Rattle.pana_shared_store.proofs.Followed.{entries_both}
use Rattle.pana_shared_store.proofs.following.follow_all.Goals as goal

pub returns-in_err-follow-clause-err : goal.returns-in_err-follow-clause-err
returns-in_err-follow-clause-err c =
    let page = c.args.page.now in
    let i = c.loop-found.found-index in
    let next : drop i page ≡ c.found-item.result ∷ drop (i + 1) page = drop_more page i c.found-item.result c.loop-found-test.true ∙ ap (λ (r : Record). r ∷ drop (i + 1) page) (sym c.found-item.is) in
    let fact : (taken : List Entry) × (left : List Entry) × (c.follow.new.hall ≡ c.args.hall.now ++ taken) × (entries_in page ≡ taken ++ left) = (
      entries_in (take i page),
      entries_in (c.found-item.result ∷ drop (i + 1) page),
      c.in_err-follow.ensures.err ∙ c.loop-found.invariant,
      ap entries_in (sym (take-append-drop i page) ∙ ap (λ (l : List Record). take i page ++ l) next) ∙ entries_both (take i page) (c.found-item.result ∷ drop (i + 1) page),
    ) in
    search (rules, fact)

pub loop-found-preserved : goal.loop-found-preserved
loop-found-preserved c =
    let page = c.args.page.now in
    let i = c.loop-found.found-index in
    c.in_ok-follow.ensures.ok ∙ ap (λ (l : List Entry). l ++ c.found-item.result.entry ∷ []) c.loop-found.invariant ∙ append_assoc c.args.hall.now (entries_in (take i page)) (c.found-item.result.entry ∷ [])
    ∙ ap (λ (l : List Entry). c.args.hall.now ++ l) (sym (entries_both (take i page) (c.found-item.result ∷ [])))
    ∙ ap (λ (l : List Record). c.args.hall.now ++ entries_in l) (sym (take_more page i c.found-item.result c.loop-found-test.true ∙ ap (λ (r : Record). take i page ++ r ∷ []) (sym c.found-item.is)))
