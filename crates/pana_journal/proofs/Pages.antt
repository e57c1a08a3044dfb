-- A page of a list.
use Rattle.std.specs.Prelude.{◌≡◌, ℕ, suc, ◌+◌, ◌-◌, ◌≤◌, min, List, [], ◌∷◌, ◌++◌, length, take, drop, Some, None, slice_get, option_map}
use Rattle.std.proofs.Common.{ap, ◌∙◌, sym, arith}
use Rattle.std.proofs.lemmas.List.{drop_min, take_min, length-drop}
use Rattle.pana_journal.specs.declared.entry.Entry.{Entry}
use Rattle.pana_journal.specs.declared.report.Report.{Report}
use Rattle.pana_journal.specs.declared.line.Line.{Line}
use Rattle.pana_journal.specs.inner.Lines.{entries_kept, entry_kept}
use Rattle.pana_journal.specs.Entries.{entry_at, page}
use Rattle.pana_journal.proofs.Lines.{entry_get, if_later, take_next}

-- the entry behind the first so many
pub entry_behind : (entries : List Entry) (i : ℕ) → entry_at entries (i + 1) ≡ slice_get entries i
entry_behind entries i =
    let next : i + 1 ≡ suc i = omega arith in
    let before : suc i - 1 ≡ i = omega arith in
    ap (entry_at entries) next ∙ if_later i None (slice_get entries (suc i - 1)) ∙ ap (slice_get entries) before

-- what a loop has copied, and one more
pub page_next : (entries : List Entry) (first i : ℕ) (entry : Entry) → first ≤ i → entry_at entries (i + 1) ≡ Some entry
    → take (i - first) (drop first entries) ++ entry ∷ [] ≡ take (i + 1 - first) (drop first entries)
page_next entries first i entry within at =
    let same : first + (i - first) ≡ i = omega (arith, within) in
    let more : suc (i - first) ≡ i + 1 - first = omega (arith, within) in
    sym (take_next entries first (i - first) entry (ap (slice_get entries) same ∙ sym (entry_behind entries i) ∙ at)) ∙ ap (λ j. take j (drop first entries)) more

-- all that was copied is the page
pub page_is : (entries : List Entry) (from first count number : ℕ) → first ≡ min (from - 1) (length entries) → count ≡ min 100 (length entries - first) → number ≡ first + count
    → take (number - first) (drop first entries) ≡ page entries from
page_is entries from first count number begins counts ends =
    let rest : length (drop first entries) ≡ length entries - first = length-drop first entries in
    let all : number - first ≡ min 100 (length (drop first entries)) = omega (arith, rest, counts, ends) in
    ap (λ j. take j (drop first entries)) all
    ∙ take_min 100 (drop first entries)
    ∙ ap (take 100) (ap (λ j. drop j entries) begins ∙ drop_min (from - 1) entries)

-- the entry of a line
pub kept_behind : (names : List (List ℕ)) (others : List Report) (lines : List Line) (i : ℕ) (line : Line) → slice_get lines i ≡ Some line
    → entry_at (entries_kept names others 1 lines) (i + 1) ≡ Some (entry_kept names others (i + 1) line)
kept_behind names others lines i line at =
    let same : 1 + i ≡ i + 1 = omega arith in
    entry_behind (entries_kept names others 1 lines) i
    ∙ entry_get names others 1 lines i
    ∙ ap (option_map (entry_kept names others (1 + i))) at
    ∙ ap (λ n. Some (entry_kept names others n line)) same
