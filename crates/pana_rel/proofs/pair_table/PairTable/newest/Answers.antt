use Rattle.std.proofs.Common.{◌<◌, ◌≡◌, ◌∙◌, ap, sym, arith, length, get_or, ◌++◌, ◌∷◌, []}
use Rattle.std.proofs.lemmas.Bool.{eq-eqb, ne_eqb}
use Rattle.std.proofs.lemmas.List.{get_or_read}
use Rattle.pana_rel.specs.Pairs.{rel_of}
use Rattle.pana_rel.proofs.Boards.{none_newer}
use Rattle.pana_rel.proofs.Calls.{newest_more, newest_same}
use Rattle.pana_rel.proofs.Counted.{newest_counted}
use Rattle.pana_rel.proofs.pair_table.PairTable.newest.Goals.{then-counts-at-eq0+in_ok-push, else-counts-at-eq0}
use Rattle.pana_rel.proofs.pair_table.PairTable.newest.Goals as goal

pub loop-at-preserved : goal.loop-at-preserved
loop-at-preserved c =
    let copies = c.args.self.now.copies in
    let rel = rel_of c.args.self.now in
    let at = c.loop-at.at in
    let own : c.self.inside.copies.items ≡ copies = ap (λ t. t.copies) c.self.view_is in
    let within : at < length copies = omega (arith, c.loop-at-test.true, c.len-at-end.ensures, ap length own) in
    let test = newest_counted rel copies c.args.counts.now at c.requires within in
    elim c.if-counts-at-eq0.branch [
      | then-counts-at-eq0+in_ok-push w ↦
          let copy_is : w.index.result.now ≡ get_or copies at 0 =
          get_or_read c.self.inside.copies.items at w.index.result.now (omega (arith, within, ap length own)) w.index.ensures 0 ∙ ap (λ l. get_or l at 0) own in
          ap (λ v. v.items) w.newest-is ∙ w.in_ok-push.ensures.items ∙ ap (λ x. c.loop-at.newest.items ++ x ∷ []) copy_is
          ∙ newest_more (none_newer rel copies) copies c.loop-at.newest.items at within (sym test ∙ eq-eqb _ 0 w.if-counts-at-eq0.true) c.loop-at.invariant
      | else-counts-at-eq0 w ↦ ap (λ v. v.items) w.newest-is ∙ newest_same (none_newer rel copies) copies c.loop-at.newest.items at within (sym test ∙ ne_eqb _ 0 w.if-counts-at-eq0.false) c.loop-at.invariant
    ]
