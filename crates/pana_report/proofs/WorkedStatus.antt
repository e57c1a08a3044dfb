-- Worked examples of the table of what is obsolete or in conflict, by computation.
use Rattle.std.specs.Prelude.{◌≡◌, ℕ, List, [], ◌∷◌, ◌++◌, codes, encode_utf8_all, None, Some}
use Rattle.std.proofs.Common.{refl}
use Rattle.std.specs.Fmt.{digits}
use Rattle.unicode_width.proofs.Computing.{unicode_width}
use Rattle.pana_copies.specs.declared.place.Place.{Place}
use Rattle.pana_calls.specs.declared.standing.CopyState.{CopyState}
use Rattle.pana_calls.specs.declared.standing.CopyState.TheVariants.{Newest, Obsolete, Conflict}
use Rattle.pana_calls.specs.declared.standing.StatusRow.{StatusRow}
use Rattle.pana_report.specs.Columns.{cell, head_line, row_line, newline}
use Rattle.pana_report.specs.Fitted.{fitted}
use Rattle.pana_report.specs.Status.{columns, newest_line, status_text}

abbrev at : List ℕ → List ℕ → Place
at device path = record { device = device; path = path }

abbrev row_of : CopyState → Place → Place → StatusRow
row_of state place other = record { copy = 2; place = place; state = state; with = record { copy = 1; place = other } }

-- no copy: no heads either
empty : status_text None [] [] ≡ []
unfolding status_text
empty = refl

-- an obsolete copy, and one in conflict
both : status_text None (row_of Obsolete (at (codes "usb") (codes "plan.txt")) (at (codes "laptop") (codes "plan.txt"))
    ∷ row_of Conflict (at (codes "usb") (codes "notes/today.txt")) (at (codes "laptop") (codes "notes/today.txt")) ∷ []) []
    ≡ codes "STATE     COPY                 WHAT TO DO" ++ newline
    ++ (codes "obsolete  usb:plan.txt         take laptop:plan.txt" ++ newline)
    ++ (codes "conflict  usb:notes/today.txt  merge with laptop:notes/today.txt" ++ newline)
unfolding unicode_width fitted cell columns head_line row_line status_text
both = refl

-- a path with two wide characters, each of three bytes
wide : status_text None (row_of Conflict (at (codes "a") (encode_utf8_all (codes "日本"))) (at (codes "b") (encode_utf8_all (codes "日本")))
    ∷ row_of Obsolete (at (codes "a") (codes "x")) (at (codes "b") (codes "x")) ∷ []) []
    ≡ codes "STATE     COPY    WHAT TO DO" ++ newline
    ++ (encode_utf8_all (codes "conflict  a:日本  merge with b:日本") ++ newline)
    ++ (codes "obsolete  a:x     take b:x" ++ newline)
unfolding unicode_width fitted cell columns head_line row_line status_text
wide = refl

-- a control character in a path shows its code, in both places, and that counts in the column
control : status_text None (row_of Obsolete (at (codes "a") (encode_utf8_all (120 ∷ 0x85 ∷ 121 ∷ []))) (at (codes "b") (encode_utf8_all (120 ∷ 0x85 ∷ 121 ∷ [])))
    ∷ row_of Newest (at (codes "a") (codes "z")) (at (codes "b") (codes "z")) ∷ []) []
    ≡ codes "STATE     COPY        WHAT TO DO" ++ newline
    ++ (codes "obsolete  a:x\\u{85}y  take b:x\\u{85}y" ++ newline)
    ++ (codes "newest    a:z         keep" ++ newline)
unfolding unicode_width digits fitted cell columns head_line row_line status_text
control = refl

-- a place shorter than its head
short : status_text None (row_of Obsolete (at (codes "a") (codes "z")) (at (codes "b") (codes "z")) ∷ []) []
    ≡ codes "STATE     COPY  WHAT TO DO" ++ newline
    ++ (codes "obsolete  a:z   take b:z" ++ newline)
unfolding unicode_width fitted cell columns head_line row_line status_text
short = refl

-- a newest copy stands behind what there is to do, with nothing right of it
newest : status_text None (row_of Obsolete (at (codes "usb") (codes "b")) (at (codes "desk") (codes "b")) ∷ []) (record { copy = 1; place = at (codes "desk") (codes "b") } ∷ [])
    ≡ codes "STATE     COPY    WHAT TO DO" ++ newline
    ++ (codes "obsolete  usb:b   take desk:b" ++ newline)
    ++ (codes "newest    desk:b" ++ newline)
unfolding unicode_width fitted cell columns head_line row_line newest_line status_text
newest = refl

-- a terminal of 60 columns, which leaves 37 for two places
narrow : status_text (Some 60) (row_of Conflict (at (codes "usb") (codes "photos/2024/beach.jpg")) (at (codes "laptop") (codes "photos/2024/beach.jpg")) ∷ []) []
    ≡ codes "STATE     COPY                WHAT TO DO" ++ newline
    ++ (encode_utf8_all (codes "conflict  usb:photo…each.jpg  merge with laptop:ph…each.jpg") ++ newline)
unfolding unicode_width fitted cell columns head_line row_line status_text
narrow = refl
