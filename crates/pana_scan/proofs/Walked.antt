-- The folders of a root, one after another.
use Rattle.std.specs.Prelude.{◌≡◌, ℕ, zero, suc, ◌+◌, ◌≤◌, Bool, true, false, ◌||◌, List, [], ◌∷◌, ◌++◌, Option, Some, None, Err, length, sum_by, count_by}
use Rattle.std.specs.List.{filter_map, flat_map, list_any, cons_option}
use Rattle.std.specs.Option.{option_map}
use Rattle.std.proofs.Common.{refl, sym, ap, ◌∙◌, append_assoc, append-nil, arith}
use Rattle.std.proofs.lemmas.Bool.{ne_eqb}
use Rattle.std.proofs.lemmas.Grind.{flat_map-append}
use Rattle.std.proofs.lemmas.List.Folds.{list_any-append}
use Rattle.std.proofs.lemmas.List.Sums.{sum_by-append, sum_by-cons, count_by-le-length}
use Rattle.pana_scan.specs.declared.entry.Entry.{Entry}
use Rattle.pana_scan.specs.declared.folder.FolderAt.{FolderAt}
use Rattle.pana_scan.specs.declared.folder.Gathered.{Gathered}
use Rattle.pana_scan.specs.declared.scan_fault.ScanFault.{ScanFault}
use Rattle.pana_scan.specs.declared.scan_fault.ScanFault.TheVariants.{Folder, TooMany, TooNested, OutOfMemory}
use Rattle.pana_scan.specs.Disk.{Tree}
use Rattle.pana_scan.specs.Names.{file_in, folder_in, is_skipped}
use Rattle.pana_scan.specs.Order.{Path}
use Rattle.pana_scan.specs.Scan.{HasFault}
use Rattle.pana_scan.specs.Tree.{entries_in, entries_of, fails_at, files_of, folders_from, folders_of, inner_folder, is_too_deep, last_first, skipped_of}
use Rattle.pana_scan.specs.inner.Walk.{IsListedTo, IsFolderRead}

abbrev all_from : Tree → Path → FolderAt → List FolderAt
all_from tree root folder = folders_from tree root folder.levels folder.path

-- some folders are listed, and those in the others are to come
pub record IsWalked (tree : Tree) (root : Path) (todo : List FolderAt) (files : List Path) (skipped entries : ℕ) : Type 0 where
  pub done : List FolderAt
  pub split : folders_of tree root ≡ done ++ last_first (all_from tree root) todo
  pub files_are : files ≡ files_of tree root done
  pub skipped_are : skipped ≡ skipped_of tree root done
  pub entries_are : entries ≡ entries_of tree root done
  pub fewer : skipped ≤ entries
  pub listed : list_any (fails_at tree root) done ≡ false
  pub reached : list_any is_too_deep done ≡ false

-- ---- what is to come

last_first-append : {A B : Type 0} (f : A → List B) (xs ys : List A) → last_first f (xs ++ ys) ≡ last_first f ys ++ last_first f xs
last_first-append f [] ys = sym (append-nil (last_first f ys))
last_first-append f (x ∷ xs) ys = ap (λ l. l ++ f x) (last_first-append f xs ys) ∙ append_assoc (last_first f ys) (last_first f xs) (f x)

one_inner : (tree : Tree) (root : Path) (levels : ℕ) (o : Option Path) (xs : List FolderAt)
    → last_first (λ inner. folders_from tree root levels inner.path) xs ≡ last_first (all_from tree root) xs
    → last_first (λ inner. folders_from tree root levels inner.path) (cons_option (option_map (λ path. record { path = Some path; levels = levels }) o) xs)
    ≡ last_first (all_from tree root) (cons_option (option_map (λ path. record { path = Some path; levels = levels }) o) xs)
one_inner tree root levels None xs same = same
one_inner tree root levels (Some path) xs same = ap (λ l. l ++ folders_from tree root levels (Some path)) same

same_levels : (tree : Tree) (root : Path) (folder : Option Path) (levels : ℕ) (entries : List Entry)
    → last_first (λ inner. folders_from tree root levels inner.path) (filter_map (inner_folder folder levels) entries)
    ≡ last_first (all_from tree root) (filter_map (inner_folder folder levels) entries)
same_levels tree root folder levels [] = refl
same_levels tree root folder levels (entry ∷ entries) =
    one_inner tree root levels (folder_in folder entry) (filter_map (inner_folder folder levels) entries) (same_levels tree root folder levels entries)

from_suc : (tree : Tree) (root : Path) (folder : Option Path) (levels : ℕ)
    → folders_from tree root (suc levels) folder
    ≡ record { path = folder; levels = suc levels } ∷ last_first (all_from tree root) (filter_map (inner_folder folder levels) (entries_in tree root folder))
unfolding folders_from
from_suc tree root folder levels = ap (λ l. record { path = folder; levels = suc levels } ∷ l) (same_levels tree root folder levels (entries_in tree root folder))

-- a folder that is listed is followed by those in it
all_listed : (tree : Tree) (root : Path) (folder : FolderAt) (levels : ℕ) → folder.levels ≡ levels + 1
    → all_from tree root folder ≡ folder ∷ last_first (all_from tree root) (filter_map (inner_folder folder.path levels) (entries_in tree root folder.path))
all_listed tree root folder levels is =
    let same : folder.levels ≡ suc levels = omega (arith, is) in
    ap (λ n. folders_from tree root n folder.path) same ∙ from_suc tree root folder.path levels
    ∙ ap (λ n. record { path = folder.path; levels = n } ∷ last_first (all_from tree root) (filter_map (inner_folder folder.path levels) (entries_in tree root folder.path))) (sym same)

-- it comes first in any case
first_from : (tree : Tree) (root : Path) (levels : ℕ) (folder : Option Path) → (rest : List FolderAt) × (folders_from tree root levels folder ≡ record { path = folder; levels = levels } ∷ rest)
unfolding folders_from
first_from tree root zero folder = ([], refl)
first_from tree root (suc levels) folder =
    (last_first (λ inner. folders_from tree root levels inner.path) (filter_map (inner_folder folder levels) (entries_in tree root folder)), refl)

module _ (tree : Tree) (root : Path) (todo rest : List FolderAt) (folder : FolderAt) (files : List Path) (skipped entries : ℕ)
    (walked : IsWalked tree root todo files skipped entries) (popped : todo ≡ rest ++ folder ∷ []) where
  split_at : folders_of tree root ≡ walked.done ++ (all_from tree root folder ++ last_first (all_from tree root) rest)
  split_at =
      walked.split ∙ ap (λ l. walked.done ++ last_first (all_from tree root) l) popped
      ∙ ap (λ l. walked.done ++ l) (last_first-append (all_from tree root) rest (folder ∷ []))

  -- the folder is one of those of the root
  pub is_there : (tail : List FolderAt) × (folders_of tree root ≡ walked.done ++ folder ∷ tail)
  is_there =
      let first = first_from tree root folder.levels folder.path in
      (first.0 ++ last_first (all_from tree root) rest, split_at ∙ ap (λ l. walked.done ++ (l ++ last_first (all_from tree root) rest)) first.1)

any_there : {A : Type 0} (p : A → Bool) (done tail : List A) (x : A) → p x ≡ true → list_any p (done ++ x ∷ tail) ≡ true
any_there p [] tail x is = ap (λ b. b || list_any p tail) is
any_there p (y ∷ done) tail x is = or_true (p y) (list_any p (done ++ x ∷ tail)) (any_there p done tail x is)
  where
    or_true : (a b : Bool) → b ≡ true → (a || b) ≡ true
    or_true true b is = refl
    or_true false b is = is

-- a fault at a folder is one of the root
pub walk_fails : (most : ℕ) (tree : Tree) (root : Path) (todo rest : List FolderAt) (folder : FolderAt) (files : List Path) (skipped entries : ℕ) (old : Gathered) (fault : ScanFault) (after : ℕ) (new : Gathered)
    → IsWalked tree root todo files skipped entries → todo ≡ rest ++ folder ∷ []
    → IsFolderRead {T = Unit {0}} most tree root folder entries old (Err fault) after new → HasFault most tree root fault
walk_fails most tree root todo rest folder files skipped entries old Folder after new walked popped is =
    let there = is_there tree root todo rest folder files skipped entries walked popped in
    ap (list_any (fails_at tree root)) there.1 ∙ any_there (fails_at tree root) walked.done there.0 folder is
walk_fails most tree root todo rest folder files skipped entries old TooNested after new walked popped is =
    let there = is_there tree root todo rest folder files skipped entries walked popped in
    ap (list_any is_too_deep) there.1 ∙ any_there is_too_deep walked.done there.0 folder is
walk_fails most tree root todo rest folder files skipped entries old TooMany after new walked popped is =
    let there = is_there tree root todo rest folder files skipped entries walked popped in
    let count : FolderAt → ℕ = λ f. length (entries_in tree root f.path) in
    omega (arith, is, walked.entries_are, ap (sum_by count) there.1, sum_by-append count walked.done (folder ∷ there.0), sum_by-cons count folder there.0)
walk_fails most tree root todo rest folder files skipped entries old OutOfMemory after new walked popped is = tt

or_none : (a b : Bool) → a ≡ false → b ≡ false → (a || (b || false)) ≡ false
or_none a b first second = ap (λ x. x || (b || false)) first ∙ ap (λ x. x || false) second

-- a folder was listed
pub walk_more : (tree : Tree) (root : Path) (todo rest : List FolderAt) (folder : FolderAt) (entries : ℕ) (old : Gathered) (after : ℕ) (new : Gathered)
    → IsWalked tree root todo old.files.items old.skipped entries → todo ≡ rest ++ folder ∷ [] → old.folders.items ≡ rest
    → IsListedTo tree root folder entries old after new → after ≤ 1000000
    → IsWalked tree root new.folders.items new.files.items new.skipped after
walk_more tree root todo rest folder entries old after new walked popped others read within =
    let here = entries_in tree root folder.path in
    let inner = filter_map (inner_folder folder.path read.levels) here in
    let few = count_by-le-length (is_skipped folder.path) here in
    let skips_here : new.skipped ≡ old.skipped + count_by (is_skipped folder.path) here = read.keeps.skipped (omega (arith, walked.fewer, few, read.met, within)) in
    let files : FolderAt → List Path = λ f. filter_map (file_in f.path) (entries_in tree root f.path) in
    let skips : FolderAt → ℕ = λ f. count_by (is_skipped f.path) (entries_in tree root f.path) in
    let counts : FolderAt → ℕ = λ f. length (entries_in tree root f.path) in
    let deep : is_too_deep folder ≡ false = ne_eqb folder.levels 0 (λ none. omega (arith, none, read.is)) in
    record {
      done = walked.done ++ folder ∷ [];
      split =
          split_at tree root todo rest folder old.files.items old.skipped entries walked popped
          ∙ ap (λ l. walked.done ++ (l ++ last_first (all_from tree root) rest)) (all_listed tree root folder read.levels read.is)
          ∙ sym (append_assoc walked.done (folder ∷ []) (last_first (all_from tree root) inner ++ last_first (all_from tree root) rest))
          ∙ ap (λ l. (walked.done ++ folder ∷ []) ++ l) (sym (last_first-append (all_from tree root) rest inner))
          ∙ ap (λ l. (walked.done ++ folder ∷ []) ++ last_first (all_from tree root) l) (sym (read.keeps.folders ∙ ap (λ l. l ++ inner) others));
      files_are =
          read.keeps.files ∙ ap (λ l. l ++ files folder) walked.files_are
          ∙ ap (λ l. flat_map files walked.done ++ l) (sym (append-nil (files folder)))
          ∙ sym (flat_map-append files walked.done (folder ∷ []));
      skipped_are = omega (arith, skips_here, walked.skipped_are, sum_by-append skips walked.done (folder ∷ []), sum_by-cons skips folder []);
      entries_are = omega (arith, read.met, walked.entries_are, sum_by-append counts walked.done (folder ∷ []), sum_by-cons counts folder []);
      fewer = omega (arith, skips_here, walked.fewer, few, read.met);
      listed = list_any-append (fails_at tree root) walked.done (folder ∷ []) ∙ or_none (list_any (fails_at tree root) walked.done) (fails_at tree root folder) walked.listed read.listed;
      reached = list_any-append is_too_deep walked.done (folder ∷ []) ∙ or_none (list_any is_too_deep walked.done) (is_too_deep folder) walked.reached deep;
    }
