use Rattle.pana_family.proofs.Words.{None, ap, subst, sym, ◌∙◌, Id, is_single, Stamp, row_in, CanGather}
use Rattle.pana_family.proofs.{Keeps.two_rows, Shares.parts_gather, Shares.whole_is}
use Rattle.pana_family.proofs.reporting.share_change.Goals as goal

pub into_halves-requires : goal.into_halves-requires
into_halves-requires c =
    let rows = c.args.rows.now in
    let two = two_rows rows c.args.a c.args.b c.requires.ready.kept.rising c.requires.ready.able.0 c.requires.ready.able.1 c.requires.ready.able.2 in
    ap (λ (i : Id). is_single i 256) c.requires.whole ∙ (whole_is rows c.args.a c.args.b (row_in rows c.args.a) (row_in rows c.args.b) c.requires.ready.kept c.requires.ready.sound two).divides

pub settle_change-requires-clause-can : goal.settle_change-requires-clause-can
settle_change-requires-clause-can c =
    let rows = c.args.rows.now in
    let two = two_rows rows c.args.a c.args.b c.requires.ready.kept.rising c.requires.ready.able.0 c.requires.ready.able.1 c.requires.ready.able.2 in
    subst (λ (p : Stamp × Stamp). CanGather None rows c.args.a p.0 × CanGather None rows c.args.b p.1) (sym c.in_ok-first.ensures)
    (parts_gather rows c.args.a c.args.b (row_in rows c.args.a) (row_in rows c.args.b) c.args.whole c.requires.ready.kept c.requires.ready.sound two c.requires.whole)
