use Rattle.std.proofs.Common.{refl, sym, ap, ◌∙◌, map, ◌++◌}
use Rattle.pana_wire.specs.Lines.{lines_of}
use Rattle.pana_wire.proofs.Cut.{one_line_more, no_line_more}
use Rattle.pana_wire.proofs.cutting.split_lines.Goals as goal

pub loop-line-preserved : goal.loop-line-preserved
loop-line-preserved c =
    one_line_more (λ line. line.now) c.loop-line.lines.items c.in-Some.line _ _ _ c.loop-line.invariant c.in-Some.ensures.line
    ∙ ap (λ items. map (λ line. line.now) items ++ lines_of c.in-Some.later.now) (sym c.in_ok-push.ensures.items)

pub returns : goal.returns
returns c = no_line_more (λ line. line.now) c.loop-line.lines.items _ _ c.loop-line.invariant (c.in_default.ensures.empty refl)
