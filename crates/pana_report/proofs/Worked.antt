-- Worked examples of the definitions, by computation.
use Rattle.std.specs.Prelude.{◌≡◌, ℕ, true, false, List, [], ◌∷◌, ◌++◌, codes, encode_utf8_all, None, Some}
use Rattle.std.proofs.Common.{refl}
use Rattle.std.specs.Fmt.{digits}
use Rattle.unicode_width.proofs.Computing.{unicode_width}
use Rattle.pana_calls.specs.declared.board.BoardRow.{BoardRow}
use Rattle.pana_calls.specs.declared.board.BoardView.{BoardView}
use Rattle.pana_report.specs.Columns.{cell, head_line, row_line, newline}
use Rattle.pana_report.specs.Fitted.{fitted}
use Rattle.pana_report.specs.Table.{columns, family_line, table_text}

abbrev row_of : ℕ → List ℕ → List ℕ → (newer older equal conflict : ℕ) → BoardRow
row_of copy device path newer older equal conflict =
    record { copy = copy; place = record { device = device; path = path }; newer = newer; older = older; equal = equal; conflict = conflict }

-- a board with no copy: two lines
empty_board : table_text None (record { family = 7; rows = []; newest = []; split = false })
    ≡ codes "family 7: copies 0, newest 0, split no" ++ newline
    ++ (codes "COPY  PLACE  STATE     NEWER  OLDER  EQUAL  CONFLICT" ++ newline)
unfolding unicode_width digits fitted cell columns head_line row_line family_line table_text
empty_board = refl

-- a path with two wide characters, each of three bytes
abbrev wide : BoardView
wide = record {
  family = 1;
  rows = row_of 1 (codes "a") (encode_utf8_all (codes "日本")) 0 0 1 0 ∷ row_of 2 (codes "b") (codes "x") 0 0 1 0 ∷ [];
  newest = 1 ∷ 2 ∷ [];
  split = false;
}

wide_path : table_text None wide
    ≡ codes "family 1: copies 2, newest 2, split no" ++ newline
    ++ (codes "COPY  PLACE   STATE     NEWER  OLDER  EQUAL  CONFLICT" ++ newline)
    ++ (encode_utf8_all (codes "   1  a:日本  newest        0      0      1         0") ++ newline)
    ++ (codes "   2  b:x     newest        0      0      1         0" ++ newline)
unfolding unicode_width digits fitted cell columns head_line row_line family_line table_text
wide_path = refl

-- two copies in conflict
conflict : table_text None (record {
  family = 1;
  rows = row_of 1 (codes "laptop") (codes "plan.txt") 0 0 0 1 ∷ row_of 2 (codes "usb") (codes "plan.txt") 0 0 0 1 ∷ [];
  newest = 1 ∷ 2 ∷ [];
  split = true;
}) ≡ codes "family 1: copies 2, newest 2, split yes" ++ newline
    ++ (codes "COPY  PLACE            STATE     NEWER  OLDER  EQUAL  CONFLICT" ++ newline)
    ++ (codes "   1  laptop:plan.txt  conflict      0      0      0         1" ++ newline)
    ++ (codes "   2  usb:plan.txt     conflict      0      0      0         1" ++ newline)
unfolding unicode_width digits fitted cell columns head_line row_line family_line table_text
conflict = refl

-- a path that would turn the direction of writing shows its code, which counts in the column
turned : row_line (columns None (row_of 1 (codes "a") (encode_utf8_all (120 ∷ 0x202E ∷ 121 ∷ [])) 0 0 0 0 ∷ [])) (row_of 1 (codes "a") (encode_utf8_all (120 ∷ 0x202E ∷ 121 ∷ [])) 0 0 0 0)
    ≡ codes "   1  a:x\\u{202e}y  newest        0      0      0         0" ++ newline
unfolding unicode_width digits fitted cell columns row_line
turned = refl

-- a copy that is older than one and in conflict with another is obsolete; a number may be longer than its head
obsolete : row_line (columns None (row_of 12345 (codes "usb") (codes "p") 1 2 3 4 ∷ [])) (row_of 12345 (codes "usb") (codes "p") 1 2 3 4)
    ≡ codes "12345  usb:p  obsolete      1      2      3         4" ++ newline
unfolding unicode_width digits fitted cell columns row_line
obsolete = refl

-- a terminal of 60 columns, which leaves 13 for the places
narrow : table_text (Some 60) (record {
  family = 1;
  rows = row_of 1 (codes "laptop") (codes "photos/2024/beach.jpg") 0 0 1 0 ∷ row_of 2 (codes "usb") (codes "beach.jpg") 0 0 1 0 ∷ [];
  newest = 1 ∷ 2 ∷ [];
  split = false;
}) ≡ codes "family 1: copies 2, newest 2, split no" ++ newline
    ++ (codes "COPY  PLACE          STATE     NEWER  OLDER  EQUAL  CONFLICT" ++ newline)
    ++ (encode_utf8_all (codes "   1  laptop…ch.jpg  newest        0      0      1         0") ++ newline)
    ++ (codes "   2  usb:beach.jpg  newest        0      0      1         0" ++ newline)
unfolding unicode_width digits fitted cell columns head_line row_line family_line table_text
narrow = refl
