-- A hall that goes on.
use Rattle.std.proofs.Common.{◌≡◌, ◌≢◌, ◌≤◌, ◌+◌, Bool, inl, List, [], ◌∷◌, ◌++◌, length, refl, sym, ap, subst, ◌∙◌, append_assoc, append-nil, length-append}
use native.Mathlib.Omega.{arith}
use Rattle.std.specs.Prelude.{IsTrue}
use Rattle.pana_journal.specs.declared.entry.Entry.{Entry}
use Rattle.pana_shared.specs.declared.record.Record.{Record}
use Rattle.pana_shared.specs.Log.{Grows, HaveSome, IsAt, LogView, Reads}
use Rattle.pana_shared.proofs.Grown.{grows_on}
use Rattle.pana_shared.proofs.Splits.{same_front}
use Rattle.pana_shared_store.specs.Store.{AreFirst, entries_in}
use Rattle.pana_shared_store.specs.inner.{LooksOn}
use Rattle.pana_shared_store.proofs.Placed.{looked_on}

pub entries_both : (xs ys : List Record) → entries_in (xs ++ ys) ≡ entries_in xs ++ entries_in ys
entries_both [] ys = refl
entries_both (r ∷ xs) ys = ap (λ (l : List Entry). r.entry ∷ l) (entries_both xs ys)

pub length_entries : (xs : List Record) → length (entries_in xs) ≡ length xs
length_entries [] = refl
length_entries (r ∷ xs) = let e = length_entries xs in grind (arith, e)

-- entries that are the log's first ones still are once it has grown
pub still_first : (entries : List Entry) (old : LogView) (made records : List Record) → AreFirst entries old.records → Grows old made records → AreFirst entries records
still_first entries old made records (rest, is) grows =
    (rest ++ entries_in grows.more, ap entries_in grows.longer ∙ entries_both old.records grows.more ∙ ap (λ (l : List Entry). l ++ entries_in grows.more) is ∙ append_assoc entries rest (entries_in grows.more))

-- those of a page that begins behind them are the next
pub page_first : (entries taken left : List Entry) (page records : List Record) → AreFirst entries records → IsAt (length entries) page records → entries_in page ≡ taken ++ left → AreFirst (entries ++ taken) records
page_first entries taken left page records (rest, is) there parts =
    let whole : entries_in records ≡ entries_in there.before ++ (entries_in page ++ entries_in there.after) =
    ap entries_in there.whole ∙ entries_both there.before (page ++ there.after) ∙ ap (λ (l : List Entry). entries_in there.before ++ l) (entries_both page there.after) in
    let even : length (entries_in there.before) ≡ length entries = length_entries there.before ∙ there.behind in
    let same = same_front (entries_in there.before) entries (entries_in page ++ entries_in there.after) rest (sym whole ∙ is) even in (
      left ++ entries_in there.after,
      is ∙ ap (λ (l : List Entry). entries ++ l) (sym (same.1) ∙ ap (λ (l : List Entry). l ++ entries_in there.after) parts ∙ append_assoc taken left (entries_in there.after)) ∙ sym (append_assoc entries taken (left ++ entries_in there.after)),
    )

-- no more entries are followed than the log has
pub first_within : (entries : List Entry) (records : List Record) → AreFirst entries records → length entries ≤ length records
first_within entries records (rest, is) =
    let l : length (entries_in records) ≡ length (entries ++ rest) = ap length is in
    let parts : length (entries ++ rest) ≡ length entries + length rest = length-append entries rest in
    let even = length_entries records in
    omega (arith, l, parts, even)

-- what is read from one view to a later one, and on to a yet later one
pub reads_on : (old mid new : LogView) → HaveSome old.loose → Reads old mid → Reads mid new → Reads old new
reads_on old mid new some first second = record {
  grows = grows_on old mid new.records (looked_on old mid first) first.grows [] some second.grows;
  same = second.same ∙ ap (λ (v : LogView). record { records = new.records; writer = v.writer; at = v.at; loose = v.loose }) first.same;
}

pub reads_none : (view : LogView) → Reads view view
reads_none view = record {
  grows = record { more = []; longer = sym (append-nil view.records); landed = []; lands = inl refl; own = refl };
  same = refl;
}

-- nothing is looked at yet
pub looks_none : (is_known : Bool) (entries : List Entry) (view : LogView) → (IsTrue is_known → AreFirst entries view.records) → LooksOn is_known entries view entries view
looks_none is_known entries view first = record { goes_on = ([], sym (append-nil entries)); first = first; reads = λ known. reads_none view }

-- a page is looked at, and so many of its entries are followed
pub looks_page : (is_known : Bool) (old mid new : List Entry) (start seen later : LogView) (page : List Record) (taken left : List Entry) → (IsTrue is_known → HaveSome start.loose) → LooksOn is_known old start mid seen → (IsTrue is_known → Reads seen later)
    → (IsTrue is_known → page ≢ [] → IsAt (length mid) page later.records) → new ≡ mid ++ taken → entries_in page ≡ taken ++ left → LooksOn is_known old start new later
looks_page is_known old mid new start seen later page taken left some so_far reads there made parts = record {
  goes_on = (so_far.goes_on.0 ++ taken, made ∙ ap (λ (l : List Entry). l ++ taken) so_far.goes_on.1 ∙ append_assoc old so_far.goes_on.0 taken);
  first = λ known. subst (λ (l : List Entry). AreFirst l later.records) (sym made) (by_page page (there known) parts (still_first mid seen [] later.records (so_far.first known) (reads known).grows));
  reads = λ known. reads_on start seen later (some known) (so_far.reads known) (reads known);
} where
  by_page : (p : List Record) → (p ≢ [] → IsAt (length mid) p later.records) → entries_in p ≡ taken ++ left → AreFirst mid later.records → AreFirst (mid ++ taken) later.records
  by_page [] stands is first = subst (λ (l : List Entry). AreFirst l later.records) (sym (let none : taken ≡ [] = nothing taken is in ap (λ (l : List Entry). mid ++ l) none ∙ append-nil mid)) first where
    nothing : (t : List Entry) → [] ≡ t ++ left → t ≡ []
    nothing [] e = refl
    nothing (x ∷ t) e = absurd (cc)
  by_page (r ∷ rest) stands is first = page_first mid taken left (r ∷ rest) later.records first (stands (λ e. (let f : r ∷ rest ≡ [] = e in cc))) is

-- the log was looked at, and gave nothing to follow
pub looks_only : (is_known : Bool) (old mid : List Entry) (start seen later : LogView) → (IsTrue is_known → HaveSome start.loose) → LooksOn is_known old start mid seen → (IsTrue is_known → Reads seen later) → LooksOn is_known old start mid later
looks_only is_known old mid start seen later some so_far reads = looks_page is_known old mid mid start seen later [] [] [] some so_far reads (λ known no. absurd (no refl)) (sym (append-nil mid)) refl
