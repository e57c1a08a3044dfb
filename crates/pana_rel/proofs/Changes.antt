-- What the calls that change a table leave.
use Rattle.std.proofs.Common.{◌≡◌, ℕ, ◌+◌, ◌<◌, ◌≤◌, List, [], length, get_or, refl, ap, sym, subst, ◌∙◌, inl, inr, arith}
use Rattle.std.specs.Prelude.{slice_set, Contains}
use Rattle.std.specs.List.{insert, remove}
use Rattle.std.proofs.lemmas.Bool.{cases_eq, eq-eqb, ne_eqb}
use Rattle.std.proofs.lemmas.List.{get_or_read, get_or-set_same, get_or-set_other, length-set}
use Rattle.std.proofs.lemmas.List.Edits.{length-insert, length-remove, get_or-insert_at}
use Rattle.pana_event.specs.declared.rel.Rel.{Rel}
use Rattle.pana_event.specs.declared.rel.Rel.TheVariants.{Equal}
use Rattle.pana_event.specs.Relation.{reverse_of}
use Rattle.pana_rel.specs.Pairs.{Table, edited_rel, edited_row, liked_row, place_of, rel_at, rel_of, with_row, without}
use Rattle.pana_rel.specs.inner.Square.{Relations, rel_in, row_in, table_of, up, IsKept, IsWide}
use Rattle.pana_rel.proofs.Orders.{contains_remove, others_at, rising_remove, without_is}
use Rattle.pana_rel.proofs.Places.{place_reads, place_within, same_place, up_remove, up_within}
use Rattle.pana_rel.proofs.Tables.{HoldsIn, at_table, with_row_own, with_row_to, with_row_else, with_row_mirrored, with_row_itself, kept_from, AreMirrored, holds_mirrored, AreDropped, holds_dropped}

-- one row was written, and then it was mirrored
pub mirrored_from : (rows slice new : List Relations) (at : ℕ) (row : Relations) → at < length rows → slice ≡ slice_set rows at row → length new ≡ length slice
    → (row_in new at).items ≡ (row_in slice at).items
    → ((i : ℕ) → i < length slice → ¬ (i ≡ at) → (row_in new i).items ≡ slice_set (row_in slice i).items at (reverse_of (get_or (row_in slice at).items i Equal)))
    → AreMirrored rows new at row.items
mirrored_from rows slice new at row within same tall own others =
    let long : length slice ≡ length rows = ap length same ∙ length-set rows at row in
    let here : row_in slice at ≡ row = ap (λ r. row_in r at) same ∙ get_or-set_same rows at row (record { items = []; room = 0 }) within in
    record {
      tall = tall ∙ long;
      own = own ∙ ap (λ r. r.items) here;
      others = λ i h apart.
          let there : row_in slice i ≡ row_in rows i = ap (λ r. row_in r i) same ∙ get_or-set_other rows at i row (record { items = []; room = 0 }) apart in
          others i (omega (arith, h, long)) apart ∙ ap (λ r. slice_set r.items at (reverse_of (get_or (row_in slice at).items i Equal))) there
          ∙ ap (λ r. slice_set (row_in rows i).items at (reverse_of (get_or r.items i Equal))) here;
    }

wide_mirrored : (rows new : List Relations) (at : ℕ) (given : List Rel) → IsWide rows → length given ≡ length rows → AreMirrored rows new at given → IsWide new
wide_mirrored rows new at given wide long m i h =
    let inside : i < length rows = omega (arith, h, m.tall) in
    elim (cases_eq i at) [
      | inl same ↦ ap (λ k. length (row_in new k).items) same ∙ ap length m.own ∙ long ∙ sym m.tall
      | inr other ↦
          ap length (m.others i inside other) ∙ length-set (row_in rows i).items at (reverse_of (get_or given i Equal)) ∙ wide i inside ∙ sym m.tall
    ]

-- a table whose copy got another row is kept, and holds it
pub record IsReplaced (cs : List ℕ) (new : List Relations) (copy : ℕ) (row : ℕ → Rel) (rel : ℕ → ℕ → Rel) : Type 0 where
  pub kept : IsKept cs new
  pub holds : HoldsIn cs new (with_row copy row rel)

replaced : (cs : List ℕ) (rows new : List Relations) (copy : ℕ) (given : List Rel) → IsKept cs rows → Contains cs copy → length given ≡ length cs
    → get_or given (place_of copy cs) Equal ≡ Equal → AreMirrored rows new (place_of copy cs) given → IsReplaced cs new copy (rel_at cs given) (rel_in cs rows)
replaced cs rows new copy given kept here long itself m =
    let rel = rel_in cs rows in
    let row = rel_at cs given in
    let holds = holds_mirrored cs rows new copy given kept.tall kept.wide here m in
    let wide = wide_mirrored rows new (place_of copy cs) given kept.wide (long ∙ sym kept.tall) m in
    record {
      kept = kept_from cs new (with_row copy row rel) kept.rising (m.tall ∙ kept.tall) wide holds
          (λ a b ina inb. with_row_mirrored copy row rel cs itself kept.mirrored a b (λ other. ina) (λ other. inb))
          (λ a ina. with_row_itself copy row rel cs itself kept.itself a (λ other. ina));
      holds = holds;
    }

-- a row that says the same of all copies is as good
pub holds_row : (cs : List ℕ) (rows : List Relations) (copy : ℕ) (row other : ℕ → Rel) (rel : ℕ → ℕ → Rel) → HoldsIn cs rows (with_row copy row rel)
    → ((b : ℕ) → Contains cs b → row b ≡ other b) → HoldsIn cs rows (with_row copy other rel)
holds_row cs rows copy row other rel holds same a b ina inb =
    holds a b ina inb ∙ (elim (cases_eq a copy) [
      | inl own ↦ with_row_own copy row rel a b own ∙ same b inb ∙ sym (with_row_own copy other rel a b own)
      | inr apart ↦ elim (cases_eq b copy) [
        | inl to ↦ with_row_to copy row rel a b apart to ∙ ap reverse_of (same a ina) ∙ sym (with_row_to copy other rel a b apart to)
        | inr none ↦ with_row_else copy row rel a b apart none ∙ sym (with_row_else copy other rel a b apart none)
      ]
    ])

-- what an edit leaves
abbrev pub Edits : List ℕ → List Relations → ℕ → ℕ → List ℕ → (ℕ → ℕ → Rel) → Type 0
Edits cs final copy at copies rel = Contains copies copy → at ≡ place_of copy copies → IsReplaced cs final copy (edited_row copy (rel copy)) rel

pub edited_call : (cs : List ℕ) (rows slice new final : List Relations) (room : ℕ) (now : Table) (copy at : ℕ) (old row : Relations) → IsKept cs rows → table_of cs rows room ≡ now
    → old ≡ get_or rows at old
    → length row.items ≡ length old.items → get_or row.items at Equal ≡ get_or old.items at Equal
    → ((k : ℕ) → k < length old.items → ¬ (k ≡ at) → get_or row.items k Equal ≡ edited_rel (get_or old.items k Equal))
    → slice ≡ slice_set rows at row → length new ≡ length slice → (row_in new at).items ≡ (row_in slice at).items
    → ((i : ℕ) → i < length slice → ¬ (i ≡ at) → (row_in new i).items ≡ slice_set (row_in slice i).items at (reverse_of (get_or (row_in slice at).items i Equal)))
    → final ≡ new → Edits cs final copy at now.copies (rel_of now)
edited_call cs rows slice new final room now copy at old row kept view read long itself others same tall own rest end =
    at_table cs rows room now (Edits cs final copy at) view (λ here place.
    let rel = rel_in cs rows in
    let within : at < length rows = omega (arith, place, kept.tall, place_within cs copy here) in
    let old_is : old ≡ row_in rows (place_of copy cs) = get_or_read rows at old within read _ ∙ ap (λ k. row_in rows k) place in
    let wide : length old.items ≡ length cs = ap (λ r. length r.items) old_is ∙ kept.wide (place_of copy cs) (omega (arith, within, place)) ∙ kept.tall in
    let m : AreMirrored rows final (place_of copy cs) row.items =
    subst (λ k. AreMirrored rows final k row.items) place (subst (λ r. AreMirrored rows r at row.items) (sym end) (mirrored_from rows slice new at row within same tall own rest)) in
    let old_rel : (b : ℕ) → get_or old.items (place_of b cs) Equal ≡ rel copy b = λ b. ap (λ r. get_or r.items (place_of b cs) Equal) old_is in
    let equal : get_or row.items (place_of copy cs) Equal ≡ Equal =
    ap (λ k. get_or row.items k Equal) (sym place) ∙ itself ∙ ap (λ k. get_or old.items k Equal) place ∙ old_rel copy ∙ kept.itself copy here in
    let done = replaced cs rows final copy row.items kept here (long ∙ wide) equal m in
    let alike : (b : ℕ) → Contains cs b → rel_at cs row.items b ≡ edited_row copy (rel copy) b =
    λ b there. (elim (cases_eq b copy) [
      | inl one ↦ ap (λ c. get_or row.items (place_of c cs) Equal) one ∙ equal ∙ sym (rw (eq-eqb b copy one) refl)
      | inr two ↦
          others (place_of b cs) (omega (arith, wide, place_within cs b there)) (λ p. two (same_place cs b copy there here (p ∙ place)))
          ∙ ap edited_rel (old_rel b) ∙ sym (rw (ne_eqb b copy two) refl)
    ]) in
    record { kept = done.kept; holds = holds_row cs final copy (rel_at cs row.items) (edited_row copy (rel copy)) rel done.holds alike })

-- what other relations of a copy leave
abbrev pub Fills : List ℕ → List Relations → ℕ → ℕ → List Rel → List ℕ → (ℕ → ℕ → Rel) → Type 0
Fills cs final copy at rels copies rel =
    Contains copies copy → length rels + 1 ≡ length copies → at ≡ place_of copy copies → IsReplaced cs final copy (rel_at (without copy copies) rels) rel

pub filled_call : (cs : List ℕ) (rows slice new final : List Relations) (room : ℕ) (now : Table) (copy at : ℕ) (rels : List Rel) (row : Relations) → IsKept cs rows → table_of cs rows room ≡ now
    → row.items ≡ insert rels at Equal
    → slice ≡ slice_set rows at row → length new ≡ length slice → (row_in new at).items ≡ (row_in slice at).items
    → ((i : ℕ) → i < length slice → ¬ (i ≡ at) → (row_in new i).items ≡ slice_set (row_in slice i).items at (reverse_of (get_or (row_in slice at).items i Equal)))
    → final ≡ new → Fills cs final copy at rels now.copies (rel_of now)
filled_call cs rows slice new final room now copy at rels row kept view filled same tall own rest end =
    at_table cs rows room now (Fills cs final copy at rels) view (λ here long place.
    let rel = rel_in cs rows in
    let within : at < length rows = omega (arith, place, kept.tall, place_within cs copy here) in
    let fits : at ≤ length rels = omega (arith, within, kept.tall, long) in
    let m : AreMirrored rows final (place_of copy cs) row.items =
    subst (λ k. AreMirrored rows final k row.items) place (subst (λ r. AreMirrored rows r at row.items) (sym end) (mirrored_from rows slice new at row within same tall own rest)) in
    let row_long : length row.items ≡ length cs = ap length filled ∙ length-insert rels at Equal fits ∙ long in
    let equal : get_or row.items (place_of copy cs) Equal ≡ Equal =
    ap (λ k. get_or row.items k Equal) (sym place) ∙ ap (λ r. get_or r at Equal) filled ∙ get_or-insert_at rels at Equal Equal fits in
    let done = replaced cs rows final copy row.items kept here row_long equal m in
    let alike : (b : ℕ) → Contains cs b → rel_at cs row.items b ≡ rel_at (without copy cs) rels b =
    λ b there. ap (λ r. get_or r (place_of b cs) Equal) filled ∙ ap (λ k. get_or (insert rels k Equal) (place_of b cs) Equal) place
    ∙ sym (others_at cs rels copy b kept.rising here long there) in
    record { kept = done.kept; holds = holds_row cs final copy (rel_at cs row.items) (rel_at (without copy cs) rels) rel done.holds alike })

-- what a copy that was made like another leaves
abbrev pub Likens : List ℕ → List Relations → ℕ → ℕ → ℕ → ℕ → List ℕ → (ℕ → ℕ → Rel) → Type 0
Likens cs final source copy from at copies rel =
    Contains copies source → Contains copies copy → from ≡ place_of source copies → at ≡ place_of copy copies → IsReplaced cs final copy (liked_row copy (rel source)) rel

pub likened_call : (cs : List ℕ) (rows slice new final : List Relations) (room : ℕ) (now : Table) (source copy from at : ℕ) → IsKept cs rows → table_of cs rows room ≡ now
    → slice ≡ rows → length new ≡ length slice → (row_in new at).items ≡ slice_set (row_in slice from).items at Equal
    → ((i : ℕ) → i < length slice → ¬ (i ≡ at) → (row_in new i).items ≡ slice_set (row_in slice i).items at (reverse_of (get_or (row_in slice from).items i Equal)))
    → final ≡ new → Likens cs final source copy from at now.copies (rel_of now)
likened_call cs rows slice new final room now source copy from at kept view same tall own others end =
    at_table cs rows room now (Likens cs final source copy from at) view (λ there here from_is place.
    let rel = rel_in cs rows in
    let given : List Rel = slice_set (row_in rows from).items at Equal in
    let within : at < length rows = omega (arith, place, kept.tall, place_within cs copy here) in
    let wide : length (row_in rows from).items ≡ length rows = kept.wide from (omega (arith, from_is, kept.tall, place_within cs source there)) in
    let m : AreMirrored rows final at given = record {
      tall = ap length end ∙ tall ∙ ap length same;
      own = ap (λ r. (row_in r at).items) end ∙ own ∙ ap (λ r. slice_set (row_in r from).items at Equal) same;
      others = λ i h apart. ap (λ r. (row_in r i).items) end ∙ others i (omega (arith, h, ap length same)) apart
          ∙ ap (λ r. slice_set (row_in r i).items at (reverse_of (get_or (row_in r from).items i Equal))) same
          ∙ ap (λ x. slice_set (row_in rows i).items at (reverse_of x)) (sym (get_or-set_other (row_in rows from).items at i Equal Equal apart));
    } in
    let equal : get_or given (place_of copy cs) Equal ≡ Equal =
    ap (λ k. get_or given k Equal) (sym place) ∙ get_or-set_same (row_in rows from).items at Equal Equal (omega (arith, within, wide)) in
    let long : length given ≡ length cs = length-set (row_in rows from).items at Equal ∙ wide ∙ kept.tall in
    let done = replaced cs rows final copy given kept here long equal (subst (λ k. AreMirrored rows final k given) place m) in
    let alike : (b : ℕ) → Contains cs b → rel_at cs given b ≡ liked_row copy (rel source) b =
    λ b inb. (elim (cases_eq b copy) [
      | inl one ↦ ap (λ c. get_or given (place_of c cs) Equal) one ∙ equal ∙ sym (rw (eq-eqb b copy one) refl)
      | inr two ↦
          get_or-set_other (row_in rows from).items at (place_of b cs) Equal Equal (λ p. two (same_place cs b copy inb here (p ∙ place)))
          ∙ ap (λ k. get_or (row_in rows k).items (place_of b cs) Equal) from_is ∙ sym (rw (ne_eqb b copy two) refl)
    ]) in
    record { kept = done.kept; holds = holds_row cs final copy (rel_at cs given) (liked_row copy (rel source)) rel done.holds alike })

-- a copy's row has Equal in its own place
abbrev pub Owns : ℕ → ℕ → Relations → List ℕ → (ℕ → ℕ → Rel) → Type 0
Owns copy at old copies rel = Contains copies copy → at ≡ place_of copy copies → get_or old.items at Equal ≡ Equal

pub own_equal : (cs : List ℕ) (rows : List Relations) (room : ℕ) (now : Table) (copy at : ℕ) (old : Relations) → IsKept cs rows → table_of cs rows room ≡ now → old ≡ get_or rows at old
    → Owns copy at old now.copies (rel_of now)
own_equal cs rows room now copy at old kept view read =
    at_table cs rows room now (Owns copy at old) view (λ here place.
    let within : at < length rows = omega (arith, place, kept.tall, place_within cs copy here) in
    let old_is : old ≡ row_in rows (place_of copy cs) = get_or_read rows at old within read _ ∙ ap (λ k. row_in rows k) place in
    ap (λ k. get_or old.items k Equal) place ∙ ap (λ r. get_or r.items (place_of copy cs) Equal) old_is ∙ kept.itself copy here)

-- a copy's column and row are gone
pub record IsDropped (cs' : List ℕ) (final : List Relations) (copy : ℕ) (copies : List ℕ) (rel : ℕ → ℕ → Rel) : Type 0 where
  pub kept : IsKept cs' final
  pub copies_are : cs' ≡ without copy copies
  pub holds : HoldsIn cs' final rel

abbrev pub Drops : List ℕ → List Relations → ℕ → ℕ → List ℕ → (ℕ → ℕ → Rel) → Type 0
Drops cs' final copy at copies rel =
    Contains copies copy → at ≡ place_of copy copies → IsDropped cs' final copy copies rel

pub dropped_call : (cs cs' : List ℕ) (rows slice new final : List Relations) (room : ℕ) (now : Table) (copy at : ℕ) → IsKept cs rows → table_of cs rows room ≡ now
    → cs' ≡ remove cs at → slice ≡ remove rows at → length new ≡ length slice
    → ((i : ℕ) → i < length slice → (row_in new i).items ≡ remove (row_in slice i).items at)
    → final ≡ new → Drops cs' final copy at now.copies (rel_of now)
dropped_call cs cs' rows slice new final room now copy at kept view gone same tall others end =
    at_table cs rows room now (Drops cs' final copy at) view (λ here place.
    let rel = rel_in cs rows in
    let within : at < length cs = omega (arith, place, place_within cs copy here) in
    let inside : at < length rows = omega (arith, within, kept.tall) in
    let long : length slice + 1 ≡ length rows = ap (λ r. length r + 1) same ∙ length-remove rows at inside in
    let final_long : length final ≡ length slice = ap length end ∙ tall in
    let m : AreDropped rows final at = record {
      tall = ap (λ n. n + 1) final_long ∙ long;
      others = λ i h. ap (λ r. (row_in r i).items) end ∙ others i (omega (arith, h, final_long))
          ∙ ap (λ r. remove (row_in r i).items at) same ∙ ap (λ r. remove r.items at) (up_remove rows at i (record { items = []; room = 0 }));
    } in
    let wide : IsWide final = λ i h.
    let bound = up_within at i (length final) h in
    let old : length (row_in rows (up at i)).items ≡ length rows = kept.wide (up at i) (omega (arith, bound, m.tall)) in
    let less = length-remove (row_in rows (up at i)).items at (omega (arith, old, inside)) in
    ap length (m.others i h) ∙ omega (arith, less, old, m.tall) in
    let holds = holds_dropped cs rows final at kept.rising kept.tall within m in
    let all : length final ≡ length (remove cs at) = omega (arith, m.tall, kept.tall, length-remove cs at within) in
    let kept' = kept_from (remove cs at) final rel (rising_remove cs at kept.rising within) all wide holds
    (λ a b ina inb. kept.mirrored a b (contains_remove cs at a kept.rising within ina).0 (contains_remove cs at b kept.rising within inb).0)
    (λ a ina. kept.itself a (contains_remove cs at a kept.rising within ina).0) in
    let copy_is : get_or cs at 0 ≡ copy = ap (λ k. get_or cs k 0) place ∙ place_reads copy cs 0 (place_within cs copy here) in
    record {
      kept = subst (λ c. IsKept c final) (sym gone) kept';
      copies_are = gone ∙ sym (without_is cs at kept.rising within) ∙ ap (λ c. without c cs) copy_is;
      holds = subst (λ c. HoldsIn c final rel) (sym gone) holds;
    })
