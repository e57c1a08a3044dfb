use Rattle.std.proofs.Common.{ℕ, List, ◌++◌, codes, string_bytes, ap, ap₂, ◌∙◌}
use Rattle.pana_history.specs.Svg.{height_of, svg_head, width_of}
use Rattle.pana_history.proofs.Pictured.{three}
use Rattle.pana_history.proofs.svg.svg_text.Goals as goal

pub returns : goal.returns
returns c =
    let head = c.in_ok-text.ensures ∙ ap₂ svg_head c.width_of.ensures c.height_of.ensures in
    let rows = c.as_str.ensures.value ∙ c.in_ok-row_groups.ensures in
    three (string_bytes c.in_ok-text.text) (string_bytes c.push_str.new.self) (string_bytes c.push_str-2.new.self) (string_bytes c.push_str-3.new.self) c.style.result.now c.as_str.result.now (codes "</svg>\n")
    c.in_ok-push_str.ensures.bytes c.in_ok-push_str-2.ensures.bytes c.in_ok-push_str-3.ensures.bytes
    ∙ ap (λ (h : List ℕ). h ++ (c.style.result.now ++ (c.as_str.result.now ++ codes "</svg>\n"))) head
    ∙ ap₂ (λ (s r : List ℕ). svg_head (width_of c.args.rows.now) (height_of c.args.rows.now) ++ (s ++ (r ++ codes "</svg>\n"))) c.style.ensures rows
