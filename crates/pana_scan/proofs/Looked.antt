-- Files that are looked at, each once, and their rows in byte order.
use Rattle.std.specs.Prelude.{◌≡◌, ℕ, suc, ◌+◌, ◌≤◌, cond, Bool, true, false, ◌||◌, IsTrue, List, All, [], ◌∷◌, ◌++◌, Option, Result, Ok, Err, IfOk, length, map, sum_by, take, drop}
use Rattle.std.specs.List.{AllByRecursion, IsDistinct, dedup, dedup_from}
use Rattle.std.specs.List.Sorted.{IsPermutation, IsSorted, IsSortedBy, IsStrictlySortedBy}
use Rattle.std.specs.declared.cmp.Ordering.TheVariants.{Less, Equal, Greater}
use Rattle.std.specs.Ordering.{is_lt, is_eq}
use Rattle.std.specs.Cmp.Lexicographic.{nat_list_cmp_total, nat_list_eq_equiv, texts_ties}
use Rattle.std.specs.Str.{bytes_eq}
use Rattle.std.proofs.Common.{refl, sym, ap, ◌∙◌, subst, arith, append_assoc, length-append}
use Rattle.std.proofs.lemmas.Bool.{true≢false}
use Rattle.std.proofs.lemmas.List.{drop_at, map-append, take-append-drop}
use Rattle.std.proofs.lemmas.List.Elements.{All-append, All-cons, All-drop, All-head, All-nil, All-tail, All-take}
use Rattle.std.proofs.lemmas.List.Kept.{IsStrictlySortedBy-dedup}
use Rattle.std.proofs.lemmas.List.Sums.{sum_by-append, sum_by-cons}
use Rattle.std.proofs.lemmas.List.Sorted.{All-permutation, IsPermutation-append, IsPermutation-map, IsPermutation-middle, IsPermutation-push_more, IsPermutation-refl, IsPermutation-sym, IsPermutation-to_front, IsPermutation-trans, list_any-IsPermutation, sum_by-IsPermutation}
use Rattle.std.proofs.lemmas.Map.Keys.{IsDistinct-IsPermutation}
use native.Mathlib.Numerals.{unary_clauses}
use Rattle.pana_scan.specs.declared.listing.FoundRow.{FoundRow}
use Rattle.pana_scan.specs.declared.looking.Looked.{Looked}
use Rattle.pana_scan.specs.Disk.{Content, Tree}
use Rattle.pana_scan.specs.Listing.{Contents, RowsRise}
use Rattle.pana_scan.specs.Order.{Path, in_order, path_cmp}
use Rattle.pana_scan.specs.Scan.{HaveFiles, is_unreadable, listing_of, row_at, unreadable_count}
use Rattle.pana_scan.specs.Tree.{files_of, folders_of, skipped_of}
use Rattle.pana_scan.specs.inner.Look.{AreLookedAt, AreMerged, AreRows, paths_of}
use Rattle.pana_scan.proofs.Order.{IsBelow, Rise, below_chain, eq_is_same, has, in_order_has, in_order_rise, less_differs, same_paths, turned}

-- ---- sorted paths, each once

or_twice : (a r : Bool) → (a || r) ≡ (a || (a || r))
or_twice true r = refl
or_twice false r = refl

has_dedup_from : (k : Path) (paths : List Path) (q : Path) → has (dedup_from bytes_eq k paths) q ≡ has (k ∷ paths) q
has_dedup_from k [] q = refl
has_dedup_from k (path ∷ paths) q =
    elim (bytes_eq path k) as (λ b. bytes_eq path k ≡ b → has (cond b (dedup_from bytes_eq k paths) (k ∷ dedup_from bytes_eq path paths)) q ≡ (bytes_eq k q || (bytes_eq path q || has paths q))) [
      | true ↦ λ e.
          has_dedup_from k paths q ∙ or_twice (bytes_eq k q) (has paths q)
          ∙ ap (λ p. bytes_eq k q || (bytes_eq p q || has paths q)) (sym (eq_is_same path k e))
      | false ↦ λ e. ap (λ b. bytes_eq k q || b) (has_dedup_from path paths q)
    ] refl

has_dedup : (paths : List Path) (q : Path) → has (dedup bytes_eq paths) q ≡ has paths q
has_dedup [] q = refl
has_dedup (path ∷ paths) q = has_dedup_from path paths q

pub once_rise : (sorted : List Path) → IsSorted path_cmp sorted → Rise (dedup bytes_eq sorted)
once_rise sorted is = IsStrictlySortedBy-dedup nat_list_cmp_total texts_ties sorted is

-- the paths that were met, sorted and each once
pub once_in_order : (met sorted : List Path) → IsPermutation met sorted → IsSorted path_cmp sorted → dedup bytes_eq sorted ≡ in_order met
once_in_order met sorted moved is =
    same_paths (dedup bytes_eq sorted) (in_order met) (once_rise sorted is) (in_order_rise met)
    (λ q. has_dedup sorted q ∙ sym (list_any-IsPermutation (λ other. bytes_eq other q) met sorted moved) ∙ sym (in_order_has met q))

-- ---- rows of paths that rise, in any order, once they are sorted

abbrev path_of : FoundRow → Path
path_of row = row.path

abbrev pub precedes : FoundRow → FoundRow → Bool
precedes one other = is_lt (path_cmp one.path other.path)

below_differ : (path : Path) (paths : List Path) → IsBelow path paths → AllByRecursion (λ other. bytes_eq path other ≡ false) paths
below_differ path [] below = tt
below_differ path (other ∷ paths) below = (less_differs path other below.0, below_differ path paths below.1)

rise_distinct : (paths : List Path) → Rise paths → IsDistinct bytes_eq paths
unfolding IsDistinct IsStrictlySortedBy
rise_distinct [] rise = tt
rise_distinct (path ∷ paths) rise = (below_differ path paths rise.0, rise_distinct paths rise.1)

strictly : (p q : Path) → is_lt (path_cmp q p) ≡ false → bytes_eq p q ≡ false → path_cmp p q ≡ Less
strictly p q not_less differ = elim (path_cmp p q) as (λ o. path_cmp p q ≡ o → o ≡ Less) [
  | Less ↦ λ e. refl
  | Equal ↦ λ e. absurd (true≢false (sym (texts_ties p q ∙ ap is_eq e) ∙ differ))
  | Greater ↦ λ e. absurd (true≢false (sym (ap is_lt (turned p q Greater e)) ∙ not_less))
] refl

distinct_rise : (rows : List FoundRow) → IsDistinct bytes_eq (map path_of rows) → IsSortedBy precedes rows → RowsRise rows
unfolding IsDistinct IsStrictlySortedBy
distinct_rise [] distinct sorted = tt
distinct_rise (one ∷ []) distinct sorted = (tt, tt)
distinct_rise (one ∷ other ∷ rows) distinct sorted =
    let rest = distinct_rise (other ∷ rows) distinct.1 (λ k d low high. simp unary_clauses (simp unary_clauses at (sorted (suc k) d (omega arith) (omega (arith, high))))) in
    let less = strictly one.path other.path (sorted 0 one (omega arith) (omega arith)) distinct.0.0 in
    ((less, below_chain one.path other.path (map path_of rows) less rest.0), rest)

pub sorted_rise : (paths : List Path) (rows sorted : List FoundRow) → Rise paths → IsPermutation paths (paths_of rows) → IsPermutation rows sorted → IsSortedBy precedes sorted → RowsRise sorted
sorted_rise paths rows sorted rise each moved is =
    let moves = IsPermutation-trans paths (paths_of rows) (paths_of sorted) each (IsPermutation-map path_of rows sorted moved) in
    distinct_rise sorted (IsDistinct-IsPermutation bytes_eq nat_list_eq_equiv.symm paths (paths_of sorted) moves (rise_distinct paths rise)) is

sorted_paths : (paths : List Path) (rows sorted : List FoundRow) → Rise paths → IsPermutation paths (paths_of rows) → IsPermutation rows sorted → RowsRise sorted → paths_of sorted ≡ paths
sorted_paths paths rows sorted rise each moved rising =
    let moves = IsPermutation-trans paths (paths_of rows) (paths_of sorted) each (IsPermutation-map path_of rows sorted moved) in
    same_paths (paths_of sorted) paths rising rise (λ q. sym (list_any-IsPermutation (λ other. bytes_eq other q) paths (paths_of sorted) moves))

rows_are : (tree : Tree) (root : Path) (rows : List FoundRow) → AreRows tree root rows → rows ≡ map (row_at tree root) (paths_of rows)
rows_are tree root [] are = refl
rows_are tree root (row ∷ rows) are =
    let first = All-head (λ it. it ≡ row_at tree root it.path) row rows are in
    let rest = rows_are tree root rows (All-tail (λ it. it ≡ row_at tree root it.path) row rows are) in
    λ i. first i ∷ rest i

pub sorted_rows : (tree : Tree) (root : Path) (paths : List Path) (rows sorted : List FoundRow) → Rise paths → IsPermutation paths (paths_of rows) → IsPermutation rows sorted → RowsRise sorted
    → AreRows tree root rows → sorted ≡ map (row_at tree root) paths
sorted_rows tree root paths rows sorted rise each moved rising are =
    rows_are tree root sorted (All-permutation (λ it. it ≡ row_at tree root it.path) rows sorted moved are)
    ∙ ap (map (row_at tree root)) (sorted_paths paths rows sorted rise each moved rising)

pub sorted_count : (rows sorted : List FoundRow) → IsPermutation rows sorted → unreadable_count sorted ≡ unreadable_count rows
sorted_count rows sorted moved = sum_by-IsPermutation (λ row. cond (is_unreadable row.found) 1 0) rows sorted moved

-- ---- the listing of a root, from its parts

pub all_looked : (tree : Tree) (root : Path) (device : List ℕ) (paths : List Path) (listing : Contents) → paths ≡ in_order (files_of tree root (folders_of tree root))
    → listing.rows ≡ map (row_at tree root) paths → listing.device ≡ device → listing.skipped ≡ skipped_of tree root (folders_of tree root) → listing ≡ listing_of tree root device
all_looked tree root device paths listing whole looked by skipped =
    let rows = looked ∙ ap (map (row_at tree root)) whole in
    λ i. record { device = by i; rows = rows i; skipped = skipped i }

-- ---- by one disk, and by two halves of the disks

rows_at : (tree : Tree) (root : Path) (paths : List Path) → AreRows tree root (map (row_at tree root) paths)
rows_at tree root [] = All-nil (λ it. it ≡ row_at tree root it.path)
rows_at tree root (path ∷ paths) = All-cons (λ it. it ≡ row_at tree root it.path) (row_at tree root path) (map (row_at tree root) paths) refl (rows_at tree root paths)

count_both : (first second : List FoundRow) → unreadable_count (first ++ second) ≡ unreadable_count first + unreadable_count second
count_both first second = sum_by-append (λ row. cond (is_unreadable row.found) 1 0) first second

same_tree : (tree other : Tree) (root : Path) (paths : List Path) → tree.content ≡ other.content → map (row_at tree root) paths ≡ map (row_at other root) paths
same_tree tree other root paths same = ap (λ (content : Path → Option Content). map (row_at (record { names = tree.names; content = content }) root) paths) same

module _ {D : Type 0} (is_known : Bool) (tree_of : D → Tree) (faults : D → ℕ) (root : Path) where
  pub one_looks : (files : List Path) (disks front : List D) (disk after : D) (rows : List FoundRow) (left : List D) → disks ≡ front ++ disk ∷ [] → left ≡ front ++ after ∷ []
      → paths_of rows ≡ files → (IsTrue is_known → rows ≡ map (row_at (tree_of disk) root) files) → faults after ≤ faults disk + unreadable_count rows
      → AreLookedAt is_known tree_of faults root files disks rows left
  one_looks files disks front disk after rows left split left_is paths found unread = record {
    each = subst (λ l. IsPermutation files l) (sym paths) (IsPermutation-refl files);
    found = λ known tree have.
        let same : (tree_of disk).content ≡ tree.content = All-last (λ it. (tree_of it).content ≡ tree.content) front disk disks split have in
        subst (AreRows tree root) (sym (found known ∙ same_tree (tree_of disk) tree root files same)) (rows_at tree root files);
    kept = ap length left_is ∙ length-append front (after ∷ []) ∙ omega arith ∙ sym (length-append front (disk ∷ [])) ∙ ap length (sym split);
    unread =
        let before = ap (sum_by faults) split ∙ sum_by-append faults front (disk ∷ []) in
        let after_all = ap (sum_by faults) left_is ∙ sum_by-append faults front (after ∷ []) in
        omega (arith, unread, before, after_all, sum_by-cons faults disk [], sum_by-cons faults after []);
  }
    where
      All-last : {X : Type 0} (P : X → Type 0) (xs : List X) (x : X) (ys : List X) → ys ≡ xs ++ x ∷ [] → All P ys → P x
      All-last P xs x ys is all = All-head P x [] (subst (All P) (drop_at xs (x ∷ []) (length xs) refl) (All-drop P (length xs) (xs ++ x ∷ []) (subst (All P) is all)))

  pub halves_look : (files mine theirs : List Path) (n : ℕ) (disks front back : List D) (rows first second : List FoundRow) (left one other : List D) → IsPermutation files (mine ++ theirs)
      → front ≡ take n disks → back ≡ drop n disks → AreLookedAt is_known tree_of faults root mine front first one → AreLookedAt is_known tree_of faults root theirs back second other
      → rows ≡ first ++ second → left ≡ one ++ other → AreLookedAt is_known tree_of faults root files disks rows left
  halves_look files mine theirs n disks front back rows first second left one other dealt front_is back_is low high rows_is left_is =
      let cut : disks ≡ front ++ back = sym (take-append-drop n disks) ∙ ap (λ l. l ++ drop n disks) (sym front_is) ∙ ap (λ l. front ++ l) (sym back_is) in
      record {
        each =
            subst (λ l. IsPermutation files (paths_of l)) (sym rows_is)
            (subst (λ l. IsPermutation files l) (sym (map-append path_of first second))
            (IsPermutation-trans files (mine ++ theirs) (paths_of first ++ paths_of second) dealt
            (IsPermutation-append mine (paths_of first) theirs (paths_of second) low.each high.each)));
        found = λ known tree have.
            subst (AreRows tree root) (sym rows_is)
            (All-append (λ it. it ≡ row_at tree root it.path) first second
            (low.found known tree (subst (HaveFiles tree_of tree) (sym front_is) (All-take (λ it. (tree_of it).content ≡ tree.content) n disks have)))
            (high.found known tree (subst (HaveFiles tree_of tree) (sym back_is) (All-drop (λ it. (tree_of it).content ≡ tree.content) n disks have))));
        kept = ap length left_is ∙ length-append one other ∙ omega (arith, low.kept, high.kept) ∙ sym (length-append front back) ∙ ap length (sym cut);
        unread =
            let before = ap (sum_by faults) cut ∙ sum_by-append faults front back in
            let after_all = ap (sum_by faults) left_is ∙ sum_by-append faults one other in
            let count = ap unreadable_count rows_is ∙ count_both first second in
            omega (arith, low.unread, high.unread, before, after_all, count);
      }

  pub both_look : {E : Type 0} (files mine theirs : List Path) (n : ℕ) (disks front back : List D) (one other : Result (Looked D) E) (all : Looked D) → IsPermutation files (mine ++ theirs)
      → front ≡ take n disks → back ≡ drop n disks → IfOk one (λ it. AreLookedAt is_known tree_of faults root mine front it.rows.items it.disks.items)
      → IfOk other (λ it. AreLookedAt is_known tree_of faults root theirs back it.rows.items it.disks.items) → AreMerged one other all
      → AreLookedAt is_known tree_of faults root files disks all.rows.items all.disks.items
  both_look files mine theirs n disks front back (Ok one) (Ok other) all dealt front_is back_is low high merged =
      halves_look files mine theirs n disks front back all.rows.items one.rows.items other.rows.items all.disks.items one.disks.items other.disks.items dealt front_is back_is low high merged.0 merged.1
  both_look files mine theirs n disks front back (Ok one) (Err fault) all dealt front_is back_is low high merged = absurd merged
  both_look files mine theirs n disks front back (Err fault) other all dealt front_is back_is low high merged = absurd merged

-- ---- dealt out to two

pub dealt_one : (files one other : List Path) (path : Path) → IsPermutation files (one ++ other) → IsPermutation (files ++ path ∷ []) ((one ++ path ∷ []) ++ other)
dealt_one files one other path so_far =
    IsPermutation-push_more files (one ++ other) ((one ++ path ∷ []) ++ other) path so_far
    (subst (λ l. IsPermutation (path ∷ (one ++ other)) l) (sym (append_assoc one (path ∷ []) other)) (IsPermutation-sym _ _ (IsPermutation-middle one path other)))

pub dealt_other : (files one other : List Path) (path : Path) → IsPermutation files (one ++ other) → IsPermutation (files ++ path ∷ []) (one ++ other ++ path ∷ [])
dealt_other files one other path so_far =
    IsPermutation-push_more files (one ++ other) (one ++ other ++ path ∷ []) path so_far (IsPermutation-sym _ _ (IsPermutation-to_front (one ++ other) path))
