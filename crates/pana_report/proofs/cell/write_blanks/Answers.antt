use Rattle.std.proofs.Common.{◌≡◌, ◌++◌, ◌-◌, ap, subst, ◌∙◌, arith, replicate, string_bytes, OnOk}
use Rattle.std.specs.List.{slice_range}
use Rattle.std.proofs.lemmas.Str.{IsCharBoundary-from_ascii}
use Rattle.pana_report.proofs.Blanks.{blanks-IsAscii, blanks_behind, pushed_on_ok, some_behind}
use Rattle.pana_report.proofs.cell.write_blanks.Goals as goal

pub loop-left-preserved : goal.loop-left-preserved
loop-left-preserved c =
    let left = c.loop-left.left in
    let text = c.in_ok-push_str.ensures.bytes ∙ ap (λ text. text ++ replicate 32 32) c.loop-left.invariant.1
    ∙ blanks_behind (string_bytes c.args.text.now) (c.args.count - left) 32 (c.args.count - (left - 32)) (omega (arith, c.loop-left.invariant.0, c.loop-left-test.true)) in
    (omega (arith, c.loop-left.invariant.0), text)

pub range-requires-clause-end_boundary : goal.range-requires-clause-end_boundary
range-requires-clause-end_boundary c = IsCharBoundary-from_ascii (replicate 32 32) c.loop-left.left (blanks-IsAscii 32) (omega (arith, c.loop-left-test.false))

pub returns : goal.returns
returns c =
    let left = c.loop-left.left in
    let whole = ap (λ more. string_bytes c.loop-left.text ++ more) c.range.ensures.value
    ∙ ap (λ text. text ++ slice_range (replicate 32 32) 0 left) c.loop-left.invariant.1
    ∙ some_behind (string_bytes c.args.text.now) (c.args.count - left) left c.args.count (omega (arith, c.loop-left.invariant.0)) (omega (arith, c.loop-left-test.false)) in
    subst (λ text. OnOk c.push_str-2.result (string_bytes c.push_str-2.new.self ≡ text)) whole (pushed_on_ok c.push_str-2.result _ _ _ c.push_str-2.ensures.bytes)
