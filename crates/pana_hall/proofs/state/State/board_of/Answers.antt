use Rattle.pana_hall.proofs.Words.{IsSome, map, AllByRecursion, sym, ap, ◌∙◌, subst, kept, CopyCounts, placed_row}
use Rattle.pana_hall.proofs.{Answered.begun_at, Answered.own_begun, Answered.stands_of, Shown.board_is, Shown.rows_kept}
use Rattle.pana_hall.proofs.state.State.board_of.Goals as goal

pub family-requires-clause-has : goal.family-requires-clause-has
family-requires-clause-has c = let begun = begun_at c.args.self.now.journal.entries c.args.family c.requires.kept.accepted c.requires.free in (begun.0, begun.1)

pub board_rows-requires : goal.board_rows-requires
board_rows-requires c =
    let journal = c.args.self.now.journal.entries in
    let stands = stands_of journal c.args.family _ c.requires.kept.accepted (own_begun journal c.args.family _ c.requires.kept.accepted c.requires.free c.family.ensures) in
    subst (AllByRecursion (λ (row : CopyCounts). IsSome (kept c.args.self.now.copies row.copy))) (sym (c.as_slice.ensures ∙ c.in_ok-board.ensures.rows _ stands)) (rows_kept journal c.args.family c.args.self.now.copies c.requires.kept.accepted c.requires.kept.spots)

pub returns : goal.returns
returns c =
    let journal = c.args.self.now.journal.entries in
    let stands = stands_of journal c.args.family _ c.requires.kept.accepted (own_begun journal c.args.family _ c.requires.kept.accepted c.requires.free c.family.ensures) in
    board_is journal c.args.family c.from_vec.result c.in_ok-board.board.newest c.in_ok-board.board.split c.args.self.now.copies c.requires.kept.accepted c.requires.kept.spots
    (c.from_vec.ensures ∙ c.in_ok-rows.ensures ∙ ap (map (placed_row c.args.self.now.copies)) (c.as_slice.ensures ∙ c.in_ok-board.ensures.rows _ stands))
    (c.in_ok-board.ensures.newest _ stands) (c.in_ok-board.ensures.split _ stands)
