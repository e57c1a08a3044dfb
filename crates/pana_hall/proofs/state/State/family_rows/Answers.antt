use Rattle.pana_hall.proofs.Words.{arith, nat_tests, ◌≡◌, ◌+◌, ◌<◌, List, [], ◌∷◌, ◌++◌, map, take, true, false, cond, length, nat_lt, slice_index_or, list_any, sym, ap, ◌∙◌, subst, append-nil}
use Rattle.pana_hall.proofs.Words.{take_all, map-append, KeptRows, listed, ListedFamily, is_of, living, family_row, sets_at, copy_rows, family_of, take_more}
use Rattle.pana_hall.proofs.Answered.{rows_of_families, rows_push, lives_is, each_get, each_own, numbers_own, stands_of}
use Rattle.pana_hall.proofs.Shown.{row_is}
use Rattle.pana_hall.proofs.state.State.family_rows.Goals as goal
use Rattle.pana_hall.proofs.state.State.family_rows.Goals.{then-has_copies+in_ok-family_row+in_ok-push, else-has_copies}

pub loop-it-preserved : goal.loop-it-preserved
loop-it-preserved c =
    let journal = c.args.self.now.journal.entries in
    let list = c.args.self.now.families.list.items in
    let i = c.loop-it.it-index in
    let it = c.it-item.result in
    let items : c.as_slice-families.result.now ≡ list = c.as_slice-families.ensures in
    let same : it ≡ slice_index_or list i it = c.it-item.is ∙ ap (λ (l : List ListedFamily). slice_index_or l i it) items in
    let within : i < length list = subst (λ (l : List ListedFamily). i < length l) items c.loop-it-test.true in
    let own : listed it ≡ family_of journal (listed it).number =
    subst (λ (k : ListedFamily). listed k ≡ family_of journal (listed k).number) (sym same)
    (each_get (λ (k : ListedFamily). listed k ≡ family_of journal (listed k).number) list i it (each_own journal list c.requires.kept.listed) within) in
    let n = (listed it).number in
    let more : take (i + 1) list ≡ take i list ++ it ∷ [] = take_more list i it within ∙ ap (λ e. take i list ++ e ∷ []) (sym same) in
    let copies = living journal in
    let step : rows_of_families copies (map (λ k. (listed k).number) (take (i + 1) list)) ≡ rows_of_families copies (map (λ k. (listed k).number) (take i list)) ++ cond (list_any (is_of n) copies) (family_row copies n ∷ []) [] =
    ap (λ (l : List ListedFamily). rows_of_families copies (map (λ k. (listed k).number) l)) more
    ∙ ap (rows_of_families copies) (map-append (λ (k : ListedFamily). (listed k).number) (take i list) (it ∷ []))
    ∙ rows_push copies (map (λ k. (listed k).number) (take i list)) n in
    let lives : c.has_copies.result ≡ list_any (is_of n) copies = c.has_copies.ensures ∙ ap (λ (k : KeptRows). nat_lt 0 (length (copy_rows k.rows))) own ∙ lives_is journal n c.requires.kept.accepted in
    let numbers = map (λ (k : ListedFamily). (listed k).number) (take i list) in
    elim c.if-has_copies.branch [
      | then-has_copies+in_ok-family_row+in_ok-push w ↦
          let some : list_any (is_of n) copies ≡ true = sym lives ∙ w.if-has_copies.true in
          let row : w.in_ok-family_row.field-0 ≡ family_row copies n = w.in_ok-family_row.ensures (sets_at 0 n journal) (stands_of journal n (listed it) c.requires.kept.accepted own) ∙ row_is journal n c.requires.kept.accepted in
          ap (λ r. r.items) w.rows-is ∙ w.in_ok-push.ensures.items
          ∙ ap (λ l. l ++ w.in_ok-family_row.field-0 ∷ []) c.loop-it.invariant
          ∙ ap (λ r. rows_of_families copies numbers ++ r ∷ []) row
          ∙ sym (step ∙ ap (λ b. rows_of_families copies numbers ++ cond b (family_row copies n ∷ []) []) some)
      | else-has_copies w ↦
          let none : list_any (is_of n) copies ≡ false = sym lives ∙ w.if-has_copies.false in
          ap (λ r. r.items) w.rows-is ∙ c.loop-it.invariant
          ∙ sym (step ∙ ap (λ b. rows_of_families copies numbers ++ cond b (family_row copies n ∷ []) []) none ∙ append-nil (rows_of_families copies numbers))
    ]

pub returns : goal.returns
returns c = grind (arith, nat_tests, take_all, rows_of_families, numbers_own, c.as_slice-families.ensures, c.loop-it-test.false, c.loop-it.invariant, c.requires.kept.listed)
