use Rattle.std.proofs.Common.{ℕ, Bool, List, ◌++◌, codes, string_bytes, ap, ap₂, ◌∙◌}
use Rattle.pana_history.specs.Svg.{group_head, line_paths, sign_shapes, text_element}
use Rattle.pana_history.proofs.Pictured.{six}
use Rattle.pana_history.proofs.svg.row_group.Goals as goal

pub returns : goal.returns
returns c =
    let row = c.args.row.now in
    let head = c.in_ok-text.ensures ∙ ap (λ (b : Bool). group_head c.args.y b) c.is_struck.ensures in
    let lines = c.as_str.ensures.value ∙ c.in_ok-line_paths.ensures ∙ ap (line_paths 16) c.marks.ensures in
    let shapes = c.as_str-2.ensures.value ∙ c.in_ok-sign_shapes.ensures ∙ ap (sign_shapes 16) c.marks-2.ensures in
    let words = c.as_str-3.ensures.value ∙ c.in_ok-text_element.ensures ∙ ap₂ text_element c.text_x.ensures c.text.ensures in
    six (string_bytes c.in_ok-text.text) (string_bytes c.push_str.new.self) (string_bytes c.push_str-2.new.self) (string_bytes c.push_str-3.new.self) (string_bytes c.push_str-4.new.self) (string_bytes c.push_str-5.new.self) (string_bytes c.push_str-6.new.self)
    (codes "<path d=\"") c.as_str.result.now (codes "\"/>") c.as_str-2.result.now c.as_str-3.result.now (codes "</g>\n")
    c.in_ok-push_str.ensures.bytes c.in_ok-push_str-2.ensures.bytes c.in_ok-push_str-3.ensures.bytes c.in_ok-push_str-4.ensures.bytes c.in_ok-push_str-5.ensures.bytes c.in_ok-push_str-6.ensures.bytes
    ∙ ap (λ (h : List ℕ). h ++ (codes "<path d=\"" ++ (c.as_str.result.now ++ (codes "\"/>" ++ (c.as_str-2.result.now ++ (c.as_str-3.result.now ++ codes "</g>\n")))))) head
    ∙ ap (λ (l : List ℕ). group_head c.args.y row.is_struck ++ (codes "<path d=\"" ++ (l ++ (codes "\"/>" ++ (c.as_str-2.result.now ++ (c.as_str-3.result.now ++ codes "</g>\n")))))) lines
    ∙ ap₂ (λ (s w : List ℕ). group_head c.args.y row.is_struck ++ (codes "<path d=\"" ++ (line_paths 16 row.marks ++ (codes "\"/>" ++ (s ++ (w ++ codes "</g>\n")))))) shapes words
