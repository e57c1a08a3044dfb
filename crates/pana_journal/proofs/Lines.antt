-- Entries that are kept by lines, lists of names and of other reports.
use Rattle.std.specs.Prelude.{◌≡◌, ℕ, zero, suc, ◌+◌, ◌-◌, ◌==◌, ◌<◌, ◌≤◌, List, [], ◌∷◌, ◌++◌, if◌then◌else◌, length, get_or, Option, Some, None, slice_get, option_map, unwrap_or, take, drop}
use Rattle.std.proofs.Common.{refl, ap, arith, sym, ◌∙◌, subst}
use Rattle.std.proofs.lemmas.Bool.Decides.{nat_tests}
use Rattle.std.proofs.lemmas.Option.{unwrap_or-slice_get}
use Rattle.pana_journal.specs.declared.entry.Entry.{Entry}
use Rattle.pana_journal.specs.declared.report.Report.{Report}
use Rattle.pana_journal.specs.declared.report.Report.TheVariants as reports
use Rattle.pana_journal.specs.declared.line.Line.{Line}
use Rattle.pana_journal.specs.declared.line.Kept.{Kept}
use Rattle.pana_journal.specs.declared.line.Kept.TheVariants as kinds
use Rattle.pana_journal.specs.inner.Lines.{report_kept, entry_kept, entries_kept, IsThere, AreThere, Keeps}
use Rattle.pana_journal.specs.Entries.{IsNumbered, entry_at}

pub entries_count : (names : List (List ℕ)) (others : List Report) (n : ℕ) (lines : List Line) → length (entries_kept names others n lines) ≡ length lines
unfolding entries_kept
entries_count names others n [] = refl
entries_count names others n (line ∷ lines) = ap suc (entries_count names others (n + 1) lines)

-- the entry of each line
pub entry_get : (names : List (List ℕ)) (others : List Report) (n : ℕ) (lines : List Line) (i : ℕ)
    → slice_get (entries_kept names others n lines) i ≡ option_map (entry_kept names others (n + i)) (slice_get lines i)
unfolding entries_kept
entry_get names others n [] i = refl
entry_get names others n (line ∷ lines) zero = let same : n ≡ n + 0 = omega arith in ap (λ m. Some (entry_kept names others m line)) same
entry_get names others n (line ∷ lines) (suc i) =
    let same : n + 1 + i ≡ n + suc i = omega arith in
    entry_get names others (n + 1) lines i ∙ ap (λ m. option_map (entry_kept names others m) (slice_get lines i)) same

numbered_by : (names : List (List ℕ)) (others : List Report) (n : ℕ) (line : Option Line) (entry : Entry) → option_map (entry_kept names others n) line ≡ Some entry → entry.number ≡ n
numbered_by names others n None entry is = absurd (cc is)
numbered_by names others n (Some line) entry is = let same : entry ≡ entry_kept names others n line = cc is in ap (λ (e : Entry). e.number) same

pub kept_numbered : (names : List (List ℕ)) (others : List Report) (lines : List Line) → IsNumbered (entries_kept names others 1 lines)
kept_numbered names others lines i entry at =
    let is : entry.number ≡ 1 + i = numbered_by names others (1 + i) (slice_get lines i) entry (sym (entry_get names others 1 lines i) ∙ at) in
    omega (arith, is)

-- what stands in a list is found in a longer one too
pub keeps_or : {X : Type 0} (xs ys : List X) (i : ℕ) (d : X) → Keeps xs ys → i < length xs → get_or ys i d ≡ get_or xs i d
keeps_or xs ys i d keeps within = sym (unwrap_or-slice_get ys i d) ∙ ap (λ o. unwrap_or o d) (keeps i within) ∙ unwrap_or-slice_get xs i d

pub report_keeps : (others more : List Report) (kept : Kept) → Keeps others more → IsThere (length others) kept → report_kept more kept ≡ report_kept others kept
report_keeps others more (kinds.Other index) keeps there = keeps_or others more index (reports.Confirm 0) keeps there
report_keeps others more _ keeps there = refl

there_tail : (names : List (List ℕ)) (others : List Report) (line : Line) (lines : List Line) → AreThere names others (line ∷ lines) → AreThere names others lines
there_tail names others line lines there i other at = there (suc i) other at

pub entries_keep : (names : List (List ℕ)) (others : List Report) (all : List (List ℕ)) (more : List Report) (n : ℕ) (lines : List Line)
    → Keeps names all → Keeps others more → AreThere names others lines → entries_kept all more n lines ≡ entries_kept names others n lines
unfolding entries_kept
entries_keep names others all more n [] named keeps there = refl
entries_keep names others all more n (line ∷ lines) named keeps there =
    let own = there 0 line refl in
    let by = keeps_or names all line.by [] named own.0 in
    let report = report_keeps others more line.report keeps own.1 in
    let rest = entries_keep names others all more (n + 1) lines named keeps (there_tail names others line lines there) in
    ap (λ b. record { number = n; by = b; report = report_kept more line.report } ∷ entries_kept all more (n + 1) lines) by
    ∙ ap (λ r. record { number = n; by = get_or names line.by []; report = r } ∷ entries_kept all more (n + 1) lines) report
    ∙ ap (λ l. entry_kept names others n line ∷ l) rest

-- one line more
pub entries_push : (names : List (List ℕ)) (others : List Report) (n : ℕ) (lines : List Line) (line : Line)
    → entries_kept names others n (lines ++ line ∷ []) ≡ entries_kept names others n lines ++ entry_kept names others (n + length lines) line ∷ []
unfolding entries_kept
entries_push names others n [] line = let same : n ≡ n + length {A = Line} [] = omega arith in ap (λ m. entry_kept names others m line ∷ []) same
entries_push names others n (first ∷ lines) line =
    let same : n + 1 + length lines ≡ n + suc (length lines) = omega arith in
    ap (λ l. entry_kept names others n first ∷ l) (entries_push names others (n + 1) lines line ∙ ap (λ m. entries_kept names others (n + 1) lines ++ entry_kept names others m line ∷ []) same)

pub if_later : {X : Type 0} (k : ℕ) (x y : X) → (if suc k == 0 then x else y) ≡ y
if_later k x y = grind (arith, nat_tests)

line_there_later : (lines : List Line) (k : ℕ) (line : Option Line) (it : Line) → line ≡ (if suc k == 0 then None else slice_get lines (suc k - 1)) → line ≡ Some it → slice_get lines (suc k - 1) ≡ Some it
line_there_later lines k line it at some = sym (at ∙ if_later k None (slice_get lines (suc k - 1))) ∙ some

line_there : (names : List (List ℕ)) (others : List Report) (lines : List Line) (number : ℕ) (line : Option Line) (it : Line)
    → AreThere names others lines → line ≡ (if number == 0 then None else slice_get lines (number - 1)) → line ≡ Some it → (it.by < length names) × IsThere (length others) it.report
line_there names others lines zero line it there at some = absurd (cc (at, some))
line_there names others lines (suc k) line it there at some = there (suc k - 1) it (line_there_later lines k line it at some)

-- one more of what lies behind the first m
pub take_next : {X : Type 0} (xs : List X) (m j : ℕ) (x : X) → slice_get xs (m + j) ≡ Some x → take (suc j) (drop m xs) ≡ take j (drop m xs) ++ x ∷ []
take_next [] m j x at = absurd (cc at)
take_next {X = X} (y ∷ xs) zero zero x at = let same : y ≡ x = cc at in ap (λ z. z ∷ []) same
take_next {X = X} (y ∷ xs) zero (suc j) x at =
    let same : 0 + suc j ≡ suc (0 + j) = omega arith in
    ap (λ l. y ∷ l) (take_next xs zero j x (ap (slice_get (y ∷ xs)) (sym same) ∙ at))
take_next {X = X} (y ∷ xs) (suc m) j x at =
    let same : suc m + j ≡ suc (m + j) = omega arith in
    take_next xs m j x (ap (slice_get (y ∷ xs)) (sym same) ∙ at)

pub there_same : (names all : List (List ℕ)) (others more : List Report) (lines copies : List Line) → all ≡ names → more ≡ others → copies ≡ lines → AreThere names others lines → AreThere all more copies
there_same names all others more lines copies named few same there =
    subst (λ n. AreThere n more copies) (sym named) (subst (λ o. AreThere names o copies) (sym few) (subst (λ l. AreThere names others l) (sym same) there))

there_later : (n m : ℕ) (kept : Kept) → n ≤ m → IsThere n kept → IsThere m kept
there_later n m (kinds.Other index) more there = omega (arith, more, there)
there_later n m _ more there = there

-- one line more, whose name and report are there
pub there_pushed : (names all : List (List ℕ)) (others more : List Report) (lines : List Line) (line : Line)
    → length names ≤ length all → length others ≤ length more → AreThere names others lines → line.by < length all → IsThere (length more) line.report
    → AreThere all more (lines ++ line ∷ [])
there_pushed names all others more [] line longer most there by report zero it at = let same : line ≡ it = cc at in subst (λ l. (l.by < length all) × IsThere (length more) l.report) same (by, report)
there_pushed names all others more [] line longer most there by report (suc i) it at = absurd (cc at)
there_pushed names all others more (first ∷ lines) line longer most there by report zero it at =
    let own = there 0 it at in (omega (arith, own.0, longer), there_later (length others) (length more) it.report most own.1)
there_pushed names all others more (first ∷ lines) line longer most there by report (suc i) it at =
    there_pushed names all others more lines line longer most (there_tail names others first lines there) by report i it at

-- the entry with a number, by the line that stands there
pub entry_of : (names : List (List ℕ)) (others : List Report) (lines : List Line) (number : ℕ) (line : Option Line)
    → line ≡ (if number == 0 then None else slice_get lines (number - 1)) → entry_at (entries_kept names others 1 lines) number ≡ option_map (entry_kept names others number) line
entry_of names others lines zero line is = ap (option_map (entry_kept names others 0)) (sym is)
entry_of names others lines (suc k) line is =
    let before : suc k - 1 ≡ k = omega arith in
    let same : 1 + k ≡ suc k = omega arith in
    let at : slice_get lines k ≡ line = ap (slice_get lines) (sym before) ∙ sym (is ∙ if_later k None (slice_get lines (suc k - 1))) in
    if_later k None (slice_get (entries_kept names others 1 lines) (suc k - 1))
    ∙ ap (slice_get (entries_kept names others 1 lines)) before
    ∙ entry_get names others 1 lines k
    ∙ ap (λ m. option_map (entry_kept names others m) (slice_get lines k)) same
    ∙ ap (option_map (entry_kept names others (suc k))) at

-- what is found in a copy of the lines
abbrev IsLineAt : List Line → ℕ → Option Line → Type 0
IsLineAt lines number line = line ≡ (if number == 0 then None else slice_get lines (number - 1))

module _ (names : List (List ℕ)) (others : List Report) (lines : List Line) (number : ℕ) (given : List Line) (line : Option Line)
    (found : line ≡ (if number == 0 then None else slice_get given (number - 1))) (same : given ≡ lines) where
  at : line ≡ (if number == 0 then None else slice_get lines (number - 1))
  at = subst (λ l. IsLineAt l number line) same found

  -- no entry has the number where no line is found
  pub none_at : line ≡ None → entry_at (entries_kept names others 1 lines) number ≡ None
  none_at none = entry_of names others lines number line at ∙ ap (option_map (entry_kept names others number)) none

  -- the entry of the line that is found
  pub some_at : (it : Line) → line ≡ Some it → entry_at (entries_kept names others 1 lines) number ≡ Some (entry_kept names others number it)
  some_at it some = entry_of names others lines number line at ∙ ap (option_map (entry_kept names others number)) some

  -- its name and its report are there
  pub there_at : (it : Line) → line ≡ Some it → AreThere names others lines → (it.by < length names) × IsThere (length others) it.report
  there_at it some there = line_there names others lines number line it there at some
