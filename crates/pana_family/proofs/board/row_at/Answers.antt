use Rattle.std.proofs.Common.{◌≡◌, ◌∙◌, ap, ap₂, get_or}
use Rattle.std.proofs.lemmas.List.{get_or-map}
use Rattle.pana_rel.specs.declared.counts.Counts.{Counts}
use Rattle.pana_rel.specs.Board.{counts_of}
use Rattle.pana_rel.specs.Pairs.{own_number, rel_of}
use Rattle.pana_family.specs.Board.{row_of}
use Rattle.pana_family.proofs.board.row_at.Goals as goal

pub returns : goal.returns
returns c =
    let copies = c.args.pairs.now.copies in
    let at = c.args.at in
    let count = counts_of own_number (rel_of c.args.pairs.now) copies in
    let none : Counts = record { above = 0; below = 0; equal = 0; conflict = 0 } in
    let own : get_or c.args.counts.now at none ≡ count (get_or copies at 0) = ap (λ l. get_or l at none) c.requires.counts ∙ get_or-map count copies at 0 none c.requires.within in
    ap₂ row_of (ap (λ l. get_or l at 0) c.copies.ensures.copies) own
