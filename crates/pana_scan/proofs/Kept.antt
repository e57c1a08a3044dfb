-- What is kept of a folder's entries, one after another.
use Rattle.std.specs.Prelude.{◌≡◌, ℕ, ◌+◌, ◌<◌, ◌≤◌, Bool, true, false, cond, List, [], ◌∷◌, ◌++◌, Option, Some, None, Ok, length, count_by, if◌then◌else◌}
use Rattle.std.specs.List.{filter_map, cons_option}
use Rattle.std.specs.Option.{option_to_list}
use Rattle.std.proofs.Common.{refl, sym, ap, ◌∙◌, subst, append_assoc, append-nil, length-append, arith}
use Rattle.std.proofs.lemmas.List.Elements.{filter_map-append}
use Rattle.std.proofs.lemmas.List.Sums.{sum_by-append, sum_by-cons}
use Rattle.pana_scan.specs.declared.entry.Entry.{Entry}
use Rattle.pana_scan.specs.declared.folder.Gathered.{Gathered}
use Rattle.pana_scan.specs.Disk.{Names, entries_after}
use Rattle.pana_scan.specs.Listing.{counted}
use Rattle.pana_scan.specs.Names.{file_in, is_skipped}
use Rattle.pana_scan.specs.Order.{Path}
use Rattle.pana_scan.specs.Tree.{inner_folder}
use Rattle.pana_scan.specs.inner.Walk.{Keeps}

-- so many entries were met, and kept; the others are to come
pub record IsListing (folder : Option Path) (levels : ℕ) (all left : Names) (entries : ℕ) (old : Gathered) (after : ℕ) (new : Gathered) : Type 0 where
  pub seen : List Entry
  pub split : all.entries ≡ seen ++ left.entries
  pub fails : all.fails ≡ left.fails
  pub keeps : Keeps folder levels seen old new
  pub met : after ≡ entries + length seen

-- ---- one entry more

one_kept : {A : Type 0} (o : Option A) → option_to_list o ≡ cons_option o []
one_kept None = refl
one_kept (Some x) = refl

kept_more : {A B : Type 0} (f : A → Option B) (seen : List A) (x : A) (old mid new : List B) → mid ≡ old ++ filter_map f seen → new ≡ mid ++ option_to_list (f x)
    → new ≡ old ++ filter_map f (seen ++ x ∷ [])
kept_more f seen x old mid new so_far more =
    more ∙ ap (λ l. l ++ option_to_list (f x)) so_far
    ∙ append_assoc old (filter_map f seen) (option_to_list (f x))
    ∙ ap (λ l. old ++ (filter_map f seen ++ l)) (one_kept (f x))
    ∙ ap (λ l. old ++ l) (sym (filter_map-append f seen (x ∷ [])))

counted_more : (old mid new n : ℕ) (skips : Bool) → (old + n < 18446744073709551616 → mid ≡ old + n) → new ≡ (if skips then counted mid 1 else mid)
    → old + (n + cond skips 1 0) < 18446744073709551616 → new ≡ old + (n + cond skips 1 0)
counted_more old mid new n true so_far more within =
    let here : mid ≡ old + n = so_far (omega (arith, within)) in
    omega (arith, here, more, within)
counted_more old mid new n false so_far more within =
    let here : mid ≡ old + n = so_far (omega (arith, within)) in
    omega (arith, here, more)

count_one : {A : Type 0} (p : A → Bool) (seen : List A) (x : A) → count_by p (seen ++ x ∷ []) ≡ count_by p seen + cond (p x) 1 0
count_one p seen x = omega (arith, sum_by-append (λ e. cond (p e) 1 0) seen (x ∷ []), sum_by-cons (λ e. cond (p e) 1 0) x [])

pub keeps_more : (folder : Option Path) (levels : ℕ) (seen : List Entry) (entry : Entry) (old mid new : Gathered) → Keeps folder levels seen old mid
    → new.folders.items ≡ mid.folders.items ++ option_to_list (inner_folder folder levels entry)
    → new.files.items ≡ mid.files.items ++ option_to_list (file_in folder entry)
    → new.skipped ≡ (if is_skipped folder entry then counted mid.skipped 1 else mid.skipped)
    → Keeps folder levels (seen ++ entry ∷ []) old new
keeps_more folder levels seen entry old mid new keeps folders files skipped = record {
  folders = kept_more (inner_folder folder levels) seen entry old.folders.items mid.folders.items new.folders.items keeps.folders folders;
  files = kept_more (file_in folder) seen entry old.files.items mid.files.items new.files.items keeps.files files;
  skipped = λ within.
      let one = count_one (is_skipped folder) seen entry in
      counted_more old.skipped mid.skipped new.skipped (count_by (is_skipped folder) seen) (is_skipped folder entry) keeps.skipped skipped
      (subst (λ n. old.skipped + n < 18446744073709551616) one within)
      ∙ ap (λ n. old.skipped + n) (sym one);
}

-- ---- a folder, from its begin to its end

pub listing_begins : (folder : Option Path) (levels : ℕ) (all left : Names) (entries : ℕ) (old : Gathered) (after : ℕ)
    → left ≡ all → after ≡ entries → IsListing folder levels all left entries old after old
listing_begins folder levels all left entries old after same none = record {
  seen = [];
  split = sym (ap (λ names. names.entries) same);
  fails = sym (ap (λ names. names.fails) same);
  keeps = record { folders = sym (append-nil old.folders.items); files = sym (append-nil old.files.items); skipped = λ within. omega arith };
  met = omega (arith, none);
}

pub listing_more : (folder : Option Path) (levels : ℕ) (all left left' : Names) (entries : ℕ) (old : Gathered) (before after : ℕ) (mid new : Gathered) (entry : Entry)
    → IsListing folder levels all left entries old before mid → (left.entries ≡ entry ∷ left'.entries) × (left.fails ≡ left'.fails) → after ≡ before + 1
    → ((seen : List Entry) → Keeps folder levels seen old mid → Keeps folder levels (seen ++ entry ∷ []) old new)
    → IsListing folder levels all left' entries old after new
listing_more folder levels all left left' entries old before after mid new entry so_far next one keeps = record {
  seen = so_far.seen ++ entry ∷ [];
  split = so_far.split ∙ ap (λ l. so_far.seen ++ l) next.0 ∙ sym (append_assoc so_far.seen (entry ∷ []) left'.entries);
  fails = so_far.fails ∙ next.1;
  keeps = keeps so_far.seen so_far.keeps;
  met = omega (arith, so_far.met, one, length-append so_far.seen (entry ∷ []));
}

-- one entry was given
pub one_given : (before after : ℕ) (given : Option Entry) (entry : Entry) → after ≡ entries_after before (Ok given) → given ≡ Some entry → before ≤ 1000000 → after ≡ before + 1
one_given before after given entry after_is is within =
    let more : after ≡ counted before 1 = after_is ∙ ap (λ (o : Option Entry). entries_after before (Ok o)) is in
    omega (arith, more, within)

pub length_more : {A : Type 0} (mid new : List A) (o : Option A) → new ≡ mid ++ option_to_list o → length new ≤ length mid + 1
length_more mid new None is = omega (arith, ap length is, length-append mid [])
length_more mid new (Some x) is = omega (arith, ap length is, length-append mid (x ∷ []))
