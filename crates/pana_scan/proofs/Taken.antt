-- Files and copies that are paired by their sums: what waits in a pool, and the pairs from either side.
use Rattle.std.specs.Prelude.{◌≡◌, ℕ, ◌+◌, ◌<◌, Bool, true, false, cond, not, ◌||◌, List, [], ◌∷◌, ◌++◌, length, slice_index_or, take, Option, Some, None, map, filter, find, option_map, is_some}
use Rattle.std.specs.List.{list_any, cons_option}
use Rattle.std.specs.Option.{option_to_list}
use Rattle.std.specs.Cmp.Lexicographic.{nat_list_eq_equiv}
use Rattle.std.specs.Str.{bytes_eq}
use Rattle.std.proofs.Common.{refl, sym, ap, ◌∙◌, subst, append-nil, Bor}
use Rattle.std.proofs.lemmas.Bool.{true≢false}
use Rattle.std.proofs.lemmas.List.{map-append, take_more}
use Rattle.std.proofs.lemmas.List.Elements.{filter-append, filter_more}
use Rattle.pana_calls.specs.declared.holding.Holding.{Holding}
use Rattle.pana_scan.specs.declared.notices.Notice.{Notice}
use Rattle.pana_scan.specs.declared.notices.Notice.TheVariants as notice
use Rattle.pana_scan.specs.declared.pool.Waiting.{Waiting}
use Rattle.pana_scan.specs.Notice.{File, holds, is_known, left, missing, renamed, without_first}
use Rattle.pana_scan.specs.declared.seen.SeenFile.{SeenFile}
use Rattle.pana_scan.specs.Order.{Path}
use Rattle.pana_scan.specs.inner.Seen.{all_files, file_of, new_files}
use Rattle.pana_scan.specs.inner.Pool.{first, rest, waiting}
use Rattle.pana_scan.specs.inner.Takers.{CopiesWait, FilesWait, Waits, fits, files_left, unpaired}
use Rattle.pana_scan.proofs.Order.{eq_is_same}
use Rattle.pana_scan.proofs.Merged.{lent}
use Rattle.pana_scan.proofs.Pooled.{one_more}
use Rattle.pana_scan.proofs.Sorted.{find_any, there}

-- one sum at most is known
apart : (sum t : List ℕ) (known : Option (List ℕ)) → bytes_eq t sum ≡ false → is_known sum known ≡ true → is_known t known ≡ false
apart sum t None differ is = refl
apart sum t (Some known) differ is = ap (λ z. bytes_eq z t) (eq_is_same known sum is) ∙ nat_list_eq_equiv.symm sum t ∙ differ

module _ {X T : Type 0} (known : X → Option (List ℕ)) (item : X → T) where
  abbrev has : List ℕ → X → Bool
  has sum x = is_known sum (known x)

  abbrev of : List ℕ → List X → List T
  of sum xs = map item (filter (has sum) xs)

  first_found : (sum : List ℕ) (xs : List X) → first (of sum xs) ≡ option_map item (find (has sum) xs)
  first_found sum [] = refl
  first_found sum (x ∷ xs) =
      elim (has sum x) as (λ b. first (map item (cond b (x ∷ filter (has sum) xs) (filter (has sum) xs))) ≡ option_map item (cond b (Some x) (find (has sum) xs))) [
        | true ↦ refl
        | false ↦ first_found sum xs
      ]

  rest_same : (sum : List ℕ) (xs : List X) → rest (of sum xs) ≡ of sum (without_first (has sum) xs)
  rest_same sum [] = refl
  rest_same sum (x ∷ xs) =
      let more = without_first (has sum) xs in
      elim (has sum x) as (λ b. has sum x ≡ b → rest (map item (cond b (x ∷ filter (has sum) xs) (filter (has sum) xs))) ≡ of sum (cond b xs (x ∷ more))) [
        | true ↦ λ e. refl
        | false ↦ λ e. rest_same sum xs ∙ sym (ap (λ b. map item (cond b (x ∷ filter (has sum) more) (filter (has sum) more))) e)
      ] refl

  other_same : (sum t : List ℕ) (xs : List X) → bytes_eq t sum ≡ false → of t xs ≡ of t (without_first (has sum) xs)
  other_same sum t [] differ = refl
  other_same sum t (x ∷ xs) differ =
      let more = without_first (has sum) xs in
      elim (has sum x) as (λ b. has sum x ≡ b → of t (x ∷ xs) ≡ of t (cond b xs (x ∷ more))) [
        | true ↦ λ e. ap (λ b. map item (cond b (x ∷ filter (has t) xs) (filter (has t) xs))) (apart sum t (known x) differ e)
        | false ↦ λ e. elim (has t x) as (λ b. map item (cond b (x ∷ filter (has t) xs) (filter (has t) xs)) ≡ map item (cond b (x ∷ filter (has t) more) (filter (has t) more))) [
          | true ↦ ap (λ items. item x ∷ items) (other_same sum t xs differ)
          | false ↦ other_same sum t xs differ
        ]
      ] refl

  -- after one was taken
  pub waits_on : (sum : List ℕ) (rows new : List (Waiting T)) (xs : List X) → Waits known item rows xs
      → ((t : List ℕ) → waiting t new ≡ cond (bytes_eq t sum) (rest (waiting t rows)) (waiting t rows)) → Waits known item new (without_first (has sum) xs)
  waits_on sum rows new xs wait taken t =
      taken t ∙ elim (bytes_eq t sum) as (λ b. bytes_eq t sum ≡ b → cond b (rest (waiting t rows)) (waiting t rows) ≡ of t (without_first (has sum) xs)) [
        | true ↦ λ e.
            let P : List ℕ → Type 0 = λ z. rest (of t xs) ≡ of t (without_first (has z) xs) in
            ap rest (wait t) ∙ subst P (eq_is_same t sum e) (rest_same t xs)
        | false ↦ λ e. wait t ∙ other_same sum t xs e
      ] refl

  pub waits_first : (sum : List ℕ) (rows : List (Waiting T)) (xs : List X) → Waits known item rows xs → first (waiting sum rows) ≡ option_map item (find (has sum) xs)
  waits_first sum rows xs wait = ap first (wait sum) ∙ first_found sum xs

  waiting_append : (sum : List ℕ) (xs ys : List (Waiting T)) → waiting sum (xs ++ ys) ≡ waiting sum xs ++ waiting sum ys
  waiting_append sum xs ys =
      ap (λ rows. map (λ row. row.item) (filter (λ row. not row.is_taken) rows)) (filter-append (λ row. bytes_eq row.sum.now sum) xs ys)
      ∙ ap (map (λ row. row.item)) (filter-append (λ row. not row.is_taken) (filter (λ row. bytes_eq row.sum.now sum) xs) (filter (λ row. bytes_eq row.sum.now sum) ys))
      ∙ map-append (λ row. row.item) (filter (λ row. not row.is_taken) (filter (λ row. bytes_eq row.sum.now sum) xs)) (filter (λ row. not row.is_taken) (filter (λ row. bytes_eq row.sum.now sum) ys))

  of_append : (sum : List ℕ) (xs ys : List X) → of sum (xs ++ ys) ≡ of sum xs ++ of sum ys
  of_append sum xs ys = ap (map item) (filter-append (has sum) xs ys) ∙ map-append item (filter (has sum) xs) (filter (has sum) ys)

  -- one more
  pub waits_more : (rows : List (Waiting T)) (xs : List X) (row : Waiting T) (x : X) → Waits known item rows xs
      → known x ≡ Some row.sum.now → row.item ≡ item x → row.is_taken ≡ false → Waits known item (rows ++ row ∷ []) (xs ++ x ∷ [])
  waits_more rows xs row x wait is same untaken sum =
      waiting_append sum rows (row ∷ [])
      ∙ (λ i. wait sum i ++ one i)
      ∙ sym (of_append sum xs (x ∷ []))
    where
      one : waiting sum (row ∷ []) ≡ of sum (x ∷ [])
      one = one_more sum row []
          ∙ (λ i. cond (bytes_eq row.sum.now sum) (cond (not (untaken i)) (same i ∷ []) []) [])
          ∙ elim (bytes_eq row.sum.now sum) as (λ b. cond b (item x ∷ []) [] ≡ map item (cond b (x ∷ []) [])) [ true ↦ refl | false ↦ refl ]
          ∙ sym (ap (λ o. map item (cond (is_known sum o) (x ∷ []) [])) is)

  -- one more of which no sum is known
  pub waits_same : (rows : List (Waiting T)) (xs : List X) (x : X) → Waits known item rows xs → known x ≡ None → Waits known item rows (xs ++ x ∷ [])
  waits_same rows xs x wait is sum =
      wait sum ∙ sym (of_append sum xs (x ∷ []) ∙ ap (λ o. of sum xs ++ map item (cond (is_known sum o) (x ∷ []) [])) is ∙ append-nil (of sum xs))

-- ---- one more in turn

abbrev renaming : File → Holding → Notice
renaming file copy = notice.Renamed copy.copy file.path

pub left_more : (files : List File) (file : File) (copies : List Holding) → left (files ++ file ∷ []) copies ≡ without_first (holds file.sum) (left files copies)
left_more [] file copies = refl
left_more (other ∷ files) file copies = left_more files file (without_first (holds other.sum) copies)

cons_append : (o : Option Notice) (xs ys : List Notice) → cons_option o (xs ++ ys) ≡ cons_option o xs ++ ys
cons_append None xs ys = refl
cons_append (Some x) xs ys = refl

cons_alone : (o : Option Notice) → cons_option o [] ≡ option_to_list o
cons_alone None = refl
cons_alone (Some x) = refl

pub renamed_more : (files : List File) (file : File) (copies : List Holding)
    → renamed (files ++ file ∷ []) copies ≡ renamed files copies ++ option_to_list (option_map (renaming file) (find (holds file.sum) (left files copies)))
renamed_more [] file copies = cons_alone (option_map (renaming file) (find (holds file.sum) copies))
renamed_more (other ∷ files) file copies =
    let first_pair = option_map (renaming other) (find (holds other.sum) copies) in
    let more = without_first (holds other.sum) copies in
    ap (cons_option first_pair) (renamed_more files file more)
    ∙ cons_append first_pair (renamed files more) (option_to_list (option_map (renaming file) (find (holds file.sum) (left files more))))

pub files_left_more : (files : List File) (copies : List Holding) (copy : Holding) → files_left files (copies ++ copy ∷ []) ≡ without_first (fits copy.sum) (files_left files copies)
files_left_more files [] copy = refl
files_left_more files (other ∷ copies) copy = files_left_more (without_first (fits other.sum) files) copies copy

pub unpaired_more : (files : List File) (copies : List Holding) (copy : Holding)
    → unpaired files (copies ++ copy ∷ []) ≡ unpaired files copies ++ cond (list_any (fits copy.sum) (files_left files copies)) [] (copy ∷ [])
unpaired_more files [] copy = refl
unpaired_more files (other ∷ copies) copy =
    let rest_files = without_first (fits other.sum) files in
    let more = cond (list_any (fits copy.sum) (files_left rest_files copies)) [] (copy ∷ []) in
    ap (λ them. cond (list_any (fits other.sum) files) them (other ∷ them)) (unpaired_more rest_files copies copy)
    ∙ elim (list_any (fits other.sum) files) as (λ b. cond b (unpaired rest_files copies ++ more) (other ∷ (unpaired rest_files copies ++ more))
    ≡ cond b (unpaired rest_files copies) (other ∷ unpaired rest_files copies) ++ more) [ true ↦ refl | false ↦ refl ]

-- ---- the pairs are the same from either side

fits_holds : (file : File) (known : Option (List ℕ)) → fits known file ≡ is_known file.sum known
fits_holds file None = refl
fits_holds file (Some sum) = nat_list_eq_equiv.symm file.sum sum

moved : (file : File) (files : List File) (copies : List Holding) → unpaired (file ∷ files) copies ≡ unpaired files (without_first (holds file.sum) copies)
moved file files [] = refl
moved file files (copy ∷ copies) =
    let fewer = without_first (fits copy.sum) files in
    let one_side : Bool → List Holding = λ b.
    cond (b || list_any (fits copy.sum) files) (unpaired (cond b files (file ∷ fewer)) copies) (copy ∷ unpaired (cond b files (file ∷ fewer)) copies) in
    ap one_side (fits_holds file copy.sum)
    ∙ elim (holds file.sum copy) as (λ b. one_side b ≡ unpaired files (cond b copies (copy ∷ without_first (holds file.sum) copies))) [
      | true ↦ refl
      | false ↦ ap (λ them. cond (list_any (fits copy.sum) files) them (copy ∷ them)) (moved file fewer copies)
    ]

no_files : (copies : List Holding) → copies ≡ unpaired [] copies
no_files [] = refl
no_files (copy ∷ copies) = ap (λ them. copy ∷ them) (no_files copies)

pub left_unpaired : (files : List File) (copies : List Holding) → left files copies ≡ unpaired files copies
left_unpaired [] copies = no_files copies
left_unpaired (file ∷ files) copies = left_unpaired files (without_first (holds file.sum) copies) ∙ sym (moved file files copies)

-- ---- for the calls

pub copies_at : (rows more : List (Waiting ℕ)) (copies others : List Holding) → rows ≡ more → copies ≡ others → CopiesWait more others → CopiesWait rows copies
copies_at rows more copies others same alike wait = subst (λ it. CopiesWait it copies) (sym same) (subst (CopiesWait more) (sym alike) wait)

pub files_at : (rows more : List (Waiting (Unit {0}))) (files others : List File) → rows ≡ more → files ≡ others → FilesWait more others → FilesWait rows files
files_at rows more files others same alike wait = subst (λ it. FilesWait it files) (sym same) (subst (FilesWait more) (sym alike) wait)

some_there : {T U : Type 0} (f : T → U) (o : Option T) → is_some (option_map f o) ≡ there o
some_there f None = refl
some_there f (Some x) = refl

pub took_one : (sum : List ℕ) (rows : List (Waiting (Unit {0}))) (files : List File) (result : Option (Unit {0}))
    → result ≡ first (waiting sum rows) → FilesWait rows files → is_some result ≡ list_any (fits (Some sum)) files
took_one sum rows files result is wait =
    ap is_some (is ∙ waits_first (λ file. Some file.sum) (λ file. tt) sum rows files wait)
    ∙ some_there (λ file. tt) (find (fits (Some sum)) files) ∙ find_any (fits (Some sum)) files

pub none_fits : (files : List File) → list_any (fits None) files ≡ false
none_fits [] = refl
none_fits (file ∷ files) = none_fits files

pub all_left : (files : List File) → without_first (fits None) files ≡ files
all_left [] = refl
all_left (file ∷ files) = ap (λ more. file ∷ more) (all_left files)

by_number : (path : Path) (o : Option Holding) → option_map (λ copy. notice.Renamed copy.copy path) o ≡ option_map (λ number. notice.Renamed number path) (option_map (λ copy. copy.copy) o)
by_number path None = refl
by_number path (Some copy) = refl

-- a file takes the copy of which the number is returned
pub renames : (files : List File) (file : File) (copies : List Holding) (rows : List (Waiting ℕ)) (result : Option ℕ)
    → CopiesWait rows (left files copies) → result ≡ first (waiting file.sum rows)
    → renamed (files ++ file ∷ []) copies ≡ renamed files copies ++ option_to_list (option_map (λ number. notice.Renamed number file.path) result)
renames files file copies rows result wait is =
    renamed_more files file copies
    ∙ ap (λ o. renamed files copies ++ option_to_list o)
    (by_number file.path (find (holds file.sum) (left files copies))
    ∙ ap (option_map (λ number. notice.Renamed number file.path)) (sym (is ∙ waits_first (λ copy. copy.sum) (λ copy. copy.copy) file.sum rows (left files copies) wait)))

pub lent_more : (copies : List (Bor Holding)) (i : ℕ) (copy : Bor Holding) → i < length copies → copy ≡ slice_index_or copies i copy
    → lent (take (i + 1) copies) ≡ lent (take i copies) ++ copy.now ∷ []
lent_more copies i copy within is =
    ap lent (take_more copies i copy within) ∙ map-append (λ it. it.now) (take i copies) (slice_index_or copies i copy ∷ [])
    ∙ ap (λ it. lent (take i copies) ++ it.now ∷ []) (sym is)

pub new_more : (files : List SeenFile) (i : ℕ) (file : SeenFile) → i < length files → file ≡ slice_index_or files i file
    → new_files (take (i + 1) files) ≡ new_files (take i files) ++ cond file.is_new (file_of file ∷ []) []
new_more files i file within is =
    ap all_files (filter_more (λ it. it.is_new) files i file within)
    ∙ map-append file_of (filter (λ it. it.is_new) (take i files)) _
    ∙ ap (λ it. new_files (take i files) ++ all_files (cond it.is_new (it ∷ []) [])) (sym is)
    ∙ elim file.is_new as (λ b. new_files (take i files) ++ all_files (cond b (file ∷ []) []) ≡ new_files (take i files) ++ cond b (file_of file ∷ []) []) [ true ↦ refl | false ↦ refl ]

pub missing_more : (files : List File) (copies : List Holding) (copy : Holding)
    → missing (unpaired files (copies ++ copy ∷ [])) ≡ missing (unpaired files copies) ++ cond (list_any (fits copy.sum) (files_left files copies)) [] (notice.Missing copy.path ∷ [])
missing_more files copies copy =
    ap missing (unpaired_more files copies copy) ∙ map-append (λ it. notice.Missing it.path) (unpaired files copies) _
    ∙ elim (list_any (fits copy.sum) (files_left files copies)) as (λ b. missing (unpaired files copies) ++ missing (cond b [] (copy ∷ []))
    ≡ missing (unpaired files copies) ++ cond b [] (notice.Missing copy.path ∷ [])) [ true ↦ refl | false ↦ refl ]
