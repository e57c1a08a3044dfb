use Rattle.pana_hall.proofs.Words.{refl, ◌≡◌, List, filter, count_by, Option, unwrap_or, ap, ap₂, ◌∙◌, sym, Copy, is_of, all_known, living}
use Rattle.pana_event.specs.declared.rel.Rel.{Rel}
use Rattle.pana_event.specs.declared.rel.Rel.TheVariants as rels
use Rattle.pana_rel.specs.Board.{relates}
use Rattle.pana_family.specs.Board.{known_relation, number_of as board_number}
use Rattle.pana_hall.specs.Status.{copy_relation, family_copies, placed, standing_of, state_among, status_row, with_of}
use Rattle.pana_calls.specs.declared.standing.{CopyState.CopyState, StatusRow.StatusRow}
use Rattle.pana_calls.specs.declared.standing.CopyState.TheVariants.{Newest, Obsolete, Conflict}
use Rattle.pana_hall.proofs.{Lists.each_of, Lists.filter_twice, Related.count_alike, Tables.table_living}
use Rattle.pana_hall.proofs.laws.standings_come_from_tables.Goals as goal

standing_same : (copies : List Copy) (copy : Copy) → standing_of (filter (is_of copy.family) copies) copy ≡ standing_of copies copy
unfolding standing_of
standing_same copies copy = rw (filter_twice (is_of copy.family) copies) refl

row_same : (copies : List Copy) (copy : Copy) → status_row (filter (is_of copy.family) copies) copy ≡ status_row copies copy
unfolding status_row
row_same copies copy =
    let state : state_among (filter (is_of copy.family) copies) copy ≡ state_among copies copy = rw (filter_twice (is_of copy.family) copies) refl in
    ap₂ row_of state (ap (with_of (filter (is_of copy.family) copies) copy) state ∙ with_same (state_among copies copy))
  where
    row_of : CopyState → Option Copy → StatusRow
    row_of state with = record { copy = copy.known.copy; place = copy.place; state = state; with = placed (unwrap_or with copy) }

    with_same : (state : CopyState) → with_of (filter (is_of copy.family) copies) copy state ≡ with_of copies copy state
    with_same Obsolete = rw (filter_twice (is_of copy.family) copies) refl
    with_same Conflict = rw (filter_twice (is_of copy.family) copies) refl
    with_same Newest = refl

count_same : (wanted : Rel) (copies : List Copy) (copy : Copy)
    → count_by (relates board_number known_relation wanted copy.known) (all_known copies) ≡ count_by (relates (λ c. c.known.copy) copy_relation wanted copy) copies
count_same wanted copies copy = count_alike (relates board_number known_relation wanted copy.known) (relates (λ c. c.known.copy) copy_relation wanted copy) (λ c. c.known) copies (each_of _ (λ c. refl) copies)

pub returns : goal.returns
returns c = record {
  standing = λ journal copy. ap (λ l. standing_of l copy) (sym (table_living 8 copy.family journal)) ∙ standing_same (living journal) copy;
  row = λ journal copy. ap (λ l. status_row l copy) (sym (table_living 8 copy.family journal)) ∙ row_same (living journal) copy;
  counts = λ copies copy. let own = family_copies copies copy in cc (count_same rels.Newer own copy, count_same rels.Older own copy, count_same rels.Equal own copy, count_same rels.Conflict own copy);
}
