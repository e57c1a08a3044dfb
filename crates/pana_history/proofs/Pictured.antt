-- Rows and marks one behind the other, each further than the one before it.
use Rattle.std.proofs.Common.{◌≡◌, ℕ, ◌+◌, ◌*◌, List, [], ◌∷◌, ◌++◌, length, sym, ap, ◌∙◌, arith, append_assoc, append-nil}
use Rattle.pana_history.specs.declared.mark.Mark.{Mark}
use Rattle.pana_history.specs.Row.{Drawn}
use Rattle.pana_history.specs.Svg.{line_path, line_paths, row_group, row_groups, sign_shape, sign_shapes}

pub lines_push : (x : ℕ) (marks : List Mark) (mark : Mark) (k : ℕ) → k ≡ x + 16 * length marks → line_paths x (marks ++ mark ∷ []) ≡ line_paths x marks ++ line_path k mark
lines_push x [] mark k at = append-nil (line_path x mark) ∙ ap (λ n. line_path n mark) (let it : x ≡ k = omega arith in it)
lines_push x (first ∷ marks) mark k at = ap (λ l. line_path x first ++ l) (lines_push (x + 16) marks mark k (omega arith)) ∙ sym (append_assoc (line_path x first) (line_paths (x + 16) marks) (line_path k mark))

pub shapes_push : (x : ℕ) (marks : List Mark) (mark : Mark) (k : ℕ) → k ≡ x + 16 * length marks → sign_shapes x (marks ++ mark ∷ []) ≡ sign_shapes x marks ++ sign_shape mark.sign k
shapes_push x [] mark k at = append-nil (sign_shape mark.sign x) ∙ ap (λ n. sign_shape mark.sign n) (let it : x ≡ k = omega arith in it)
shapes_push x (first ∷ marks) mark k at = ap (λ l. sign_shape first.sign x ++ l) (shapes_push (x + 16) marks mark k (omega arith)) ∙ sym (append_assoc (sign_shape first.sign x) (sign_shapes (x + 16) marks) (sign_shape mark.sign k))

pub groups_push : (y : ℕ) (rows : List Drawn) (row : Drawn) (k : ℕ) → k ≡ y + 20 * length rows → row_groups y (rows ++ row ∷ []) ≡ row_groups y rows ++ row_group k row
groups_push y [] row k at = append-nil (row_group y row) ∙ ap (λ n. row_group n row) (let it : y ≡ k = omega arith in it)
groups_push y (first ∷ rows) row k at = ap (λ l. row_group y first ++ l) (groups_push (y + 20) rows row k (omega arith)) ∙ sym (append_assoc (row_group y first) (row_groups (y + 20) rows) (row_group k row))

-- one text more behind another
behind : (new old text rest : List ℕ) → new ≡ old ++ text → new ++ rest ≡ old ++ (text ++ rest)
behind new old text rest is = ap (λ l. l ++ rest) is ∙ append_assoc old text rest

-- three texts put one behind the other
pub three : (r0 r1 r2 r3 a b c : List ℕ) → r1 ≡ r0 ++ a → r2 ≡ r1 ++ b → r3 ≡ r2 ++ c → r3 ≡ r0 ++ (a ++ (b ++ c))
three r0 r1 r2 r3 a b c e1 e2 e3 = e3 ∙ behind r2 r1 b c e2 ∙ behind r1 r0 a (b ++ c) e1

-- and six
pub six : (r0 r1 r2 r3 r4 r5 r6 a b c d e f : List ℕ) → r1 ≡ r0 ++ a → r2 ≡ r1 ++ b → r3 ≡ r2 ++ c → r4 ≡ r3 ++ d → r5 ≡ r4 ++ e → r6 ≡ r5 ++ f → r6 ≡ r0 ++ (a ++ (b ++ (c ++ (d ++ (e ++ f)))))
six r0 r1 r2 r3 r4 r5 r6 a b c d e f e1 e2 e3 e4 e5 e6 =
    e6 ∙ behind r5 r4 e f e5 ∙ behind r4 r3 d (e ++ f) e4 ∙ behind r3 r2 c (d ++ (e ++ f)) e3 ∙ behind r2 r1 b (c ++ (d ++ (e ++ f))) e2 ∙ behind r1 r0 a (b ++ (c ++ (d ++ (e ++ f)))) e1
