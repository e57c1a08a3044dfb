use Rattle.pana_family.proofs.Words.{ap, arith, greatest, greatest-joined, Stamp}
use Rattle.pana_family.proofs.reporting.both_stamp.Goals as goal

pub returns-clause-room : goal.returns-clause-room
returns-clause-room c =
    let w = c.requires in
    let r = c.row_of.result.now in
    let q = c.row_of-2.result.now in
    omega (
      arith,
      w.fits,
      ap (λ (s : Stamp). greatest s.event) c.in_ok-whole.ensures.joined,
      greatest-joined r.stamp.event q.stamp.event,
      w.kept.levels r c.row_of.ensures.there,
      (w.before r c.row_of.ensures.there).1,
      w.kept.levels q c.row_of-2.ensures.there,
      (w.before q c.row_of-2.ensures.there).1,
    )
