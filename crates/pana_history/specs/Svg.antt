-- Rows as a picture in SVG. Lanes stand 16 units apart, and rows stand 20 units apart.
use Rattle.std.specs.Prelude.{ℕ, ◌+◌, ◌*◌, ◌==◌, ◌||◌, max, Bool, true, false, List, [], ◌∷◌, ◌++◌, fold, length, chars, codes, decimal, encode_utf8, if◌then◌else◌}
use Rattle.std.specs.List.{flat_map}
use Rattle.pana_terminal.specs.Shown.{shown}
use Rattle.pana_history.specs.declared.mark.Mark.{Mark}
use Rattle.pana_history.specs.declared.mark.Sign.{Sign}
use Rattle.pana_history.specs.declared.mark.Sign.TheVariants.{Named, Plain, Struck, Touched}
use Rattle.pana_history.specs.Row.{Drawn}

-- ---- texts

-- a character as it stands between tags; two that no document may have are replaced
abbrev pub xml_char : ℕ → List ℕ
xml_char c =
    if c == 38 then codes "&amp;" else if c == 60 then codes "&lt;" else if c == 62 then codes "&gt;" else if c == 34 then codes "&quot;"
    else if (c == 0xFFFE) || (c == 0xFFFF) then encode_utf8 0xFFFD else encode_utf8 c

-- a text between tags, with codes for the characters that a terminal doesn't get either
abbrev pub xml_text : List ℕ → List ℕ
xml_text text = flat_map xml_char (chars (shown text))

-- ---- marks

-- a lane's line from the row's top, where its copy lives before it, and to the row's bottom, where it lives behind it
abbrev pub line_by : Bool → Bool → ℕ → List ℕ
line_by true true x = codes "M" ++ (decimal x ++ codes " 0v20")
line_by true false x = codes "M" ++ (decimal x ++ codes " 0v10")
line_by false true x = codes "M" ++ (decimal x ++ codes " 10v10")
line_by false false x = []

abbrev pub line_path : ℕ → Mark → List ℕ
line_path x mark = line_by mark.lives_before mark.lives_after x

abbrev pub sign_shape : Sign → ℕ → List ℕ
sign_shape Plain x = []
sign_shape Named x = codes "<circle class=\"n\" cx=\"" ++ (decimal x ++ codes "\" cy=\"10\" r=\"4\"/>")
sign_shape Touched x = codes "<circle cx=\"" ++ (decimal x ++ codes "\" cy=\"10\" r=\"5\"/>")
sign_shape Struck x = codes "<path class=\"x\" d=\"M" ++ (decimal x ++ codes " 10m-5-5l10 10m0-10l-10 10\"/>")

-- the lines and the shapes of a row's marks, the first at this distance from the left
abbrev pub line_paths : ℕ → List Mark → List ℕ
line_paths x [] = []
line_paths x (mark ∷ marks) = line_path x mark ++ line_paths (x + 16) marks

abbrev pub sign_shapes : ℕ → List Mark → List ℕ
sign_shapes x [] = []
sign_shapes x (mark ∷ marks) = sign_shape mark.sign x ++ sign_shapes (x + 16) marks

-- ---- rows

abbrev pub row_class : Bool → List ℕ
row_class true = codes " class=\"w\""
row_class false = []

-- how far the text of a row stands from the left
abbrev pub text_x : Drawn → ℕ
text_x row = 16 * length row.marks + 20

-- how the group of a row begins, at this distance from the top
abbrev pub group_head : ℕ → Bool → List ℕ
group_head y is_struck = codes "<g" ++ (row_class is_struck ++ (codes " transform=\"translate(0 " ++ (decimal y ++ codes ")\">")))

-- a row's text, at this distance from the left
abbrev pub text_element : ℕ → List ℕ → List ℕ
text_element x text = codes "<text x=\"" ++ (decimal x ++ (codes "\" y=\"14\">" ++ (xml_text text ++ codes "</text>")))

-- a row at this distance from the top: the lines of its lanes, the shapes over them, and its text
abbrev pub row_group : ℕ → Drawn → List ℕ
row_group y row =
    group_head y row.is_struck ++ (codes "<path d=\"" ++ (line_paths 16 row.marks ++ (codes "\"/>" ++ (sign_shapes 16 row.marks ++ (text_element (text_x row) row.text ++ codes "</g>\n")))))

abbrev pub row_groups : ℕ → List Drawn → List ℕ
row_groups y [] = []
row_groups y (row ∷ rows) = row_group y row ++ row_groups (y + 20) rows

-- ---- the picture

-- how wide a row is at most, a character being 9 units wide
abbrev pub row_width : Drawn → ℕ
row_width row = 16 * length row.marks + 9 * length row.text + 40

abbrev pub width_of : List Drawn → ℕ
width_of rows = fold (λ width row. max width (row_width row)) 0 rows

abbrev pub height_of : List Drawn → ℕ
height_of rows = 20 * length rows

-- the colours, in the light and in the dark, and the ground
abbrev pub style : List ℕ
style = codes "<style>rect{fill:#ffffff}text{font:14px monospace;white-space:pre;fill:#1f2328}path{fill:none;stroke:#59636e;stroke-width:2}circle{fill:#0969da}.n{fill:none;stroke:#59636e;stroke-width:2}.x{stroke:#d1242f}.w text{fill:#59636e;text-decoration:line-through}@media (prefers-color-scheme:dark){rect{fill:#0d1117}text{fill:#f0f6fc}path,.n{stroke:#9198a1}circle{fill:#4493f8}.n{fill:none}.x{stroke:#f85149}.w text{fill:#9198a1}}</style>\n<rect width=\"100%\" height=\"100%\"/>\n"

-- how the picture begins, so wide and so high
abbrev pub svg_head : ℕ → ℕ → List ℕ
svg_head width height = codes "<svg xmlns=\"http://www.w3.org/2000/svg\" width=\"" ++ (decimal width ++ (codes "\" height=\"" ++ (decimal height ++ codes "\">\n")))

abbrev pub svg_text : List Drawn → List ℕ
svg_text rows = svg_head (width_of rows) (height_of rows) ++ (style ++ (row_groups 0 rows ++ codes "</svg>\n"))
