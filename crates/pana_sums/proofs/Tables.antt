-- Rows one after another: their bytes in chunks of 80, and the rows that these spell.
use Rattle.std.proofs.Common.{◌≡◌, ℕ, zero, suc, ◌+◌, ◌*◌, ◌<◌, false, List, [], ◌∷◌, ◌++◌, length, map, get_or, take, drop, Option, Some, None, is_some, refl, sym, ap, subst, ◌∙◌, arith}
use Rattle.std.specs.List.{flat_map, AllByRecursion, IsDistinct}
use Rattle.std.specs.Map.{keys_of, lookup}
use Rattle.std.specs.Simd.{first_chunks}
use Rattle.std.proofs.lemmas.List.{take_at, drop_at, take-append-drop, length-append, length-take, length-drop, nil_from_length, take-map, take_more, map-append, length-map, get_or-map}
use Rattle.indexmap.proofs.MapLemmas.{absent_before}
use Rattle.pana_sums.specs.Table.{Row, same_signature, IsRow}
use Rattle.pana_sums.specs.File.{record_of}
use Rattle.pana_sums.specs.inner.Records.{row_in}
use Rattle.pana_sums.proofs.Rows.{IsBytes, IsBytes-take, IsBytes-drop, row_again, row_back, row_fits, length-record}
use Rattle.pana_sums.proofs.Same.{same_signature-equiv}

-- ---- what was written is read

length-rows : (rows : List Row) → AllByRecursion IsRow rows → length (flat_map record_of rows) ≡ length rows * 80
length-rows [] fits = refl
length-rows (row ∷ rows) fits = omega (arith, length-append (record_of row) (flat_map record_of rows), length-record row fits.0, length-rows rows fits.1)

chunks_of : (rows : List Row) → AllByRecursion IsRow rows → first_chunks 80 (length rows) (flat_map record_of rows) ≡ map record_of rows
chunks_of [] fits = refl
chunks_of (row ∷ rows) fits =
    let first = take_at (record_of row) (flat_map record_of rows) 80 (length-record row fits.0) in
    let rest = ap (first_chunks 80 (length rows)) (drop_at (record_of row) (flat_map record_of rows) 80 (length-record row fits.0)) ∙ chunks_of rows fits.1 in
    λ j. first j ∷ rest j

all_again : (rows : List Row) → AllByRecursion IsRow rows → map row_in (map record_of rows) ≡ rows
all_again [] fits = refl
all_again (row ∷ rows) fits = λ j. row_again row fits.0 j ∷ all_again rows fits.1 j

-- ---- what was read is written

pub rows_back : (n : ℕ) (bytes : List ℕ) → length bytes ≡ n * 80 → IsBytes bytes → flat_map record_of (map row_in (first_chunks 80 n bytes)) ≡ bytes
rows_back zero bytes long fits = sym (nil_from_length bytes (omega arith))
rows_back (suc n) bytes long fits =
    let first = row_back (take 80 bytes) (omega (arith, length-take 80 bytes)) (IsBytes-take 80 bytes fits) in
    let rest = rows_back n (drop 80 bytes) (omega (arith, length-drop 80 bytes)) (IsBytes-drop 80 bytes fits) in
    (λ j. first j ++ rest j) ∙ take-append-drop 80 bytes

pub rows_fit : (n : ℕ) (bytes : List ℕ) → length bytes ≡ n * 80 → IsBytes bytes → AllByRecursion IsRow (map row_in (first_chunks 80 n bytes))
rows_fit zero bytes long fits = tt
rows_fit (suc n) bytes long fits = (
  row_fits (take 80 bytes) (omega (arith, length-take 80 bytes)) (IsBytes-take 80 bytes fits),
  rows_fit n (drop 80 bytes) (omega (arith, length-drop 80 bytes)) (IsBytes-drop 80 bytes fits),
)

-- ---- bytes of rows

module _ (bytes : List ℕ) (rows : List Row) (fits : AllByRecursion IsRow rows) (is : flat_map record_of rows ≡ bytes) where
  pub long_as : length bytes ≡ length rows * 80
  long_as = sym (ap length is) ∙ length-rows rows fits

  -- the rows that chunks spell are those
  pub read_again : (n : ℕ) → length bytes ≡ n * 80 → map row_in (first_chunks 80 n bytes) ≡ rows
  read_again n long =
      let same : n ≡ length rows = omega (arith, long_as) in
      ap (λ k. map row_in (first_chunks 80 k bytes)) same ∙ ap (λ b. map row_in (first_chunks 80 (length rows) b)) (sym is)
      ∙ ap (map row_in) (chunks_of rows fits) ∙ all_again rows fits

-- a row at an index, with those before it and those after
split_at : (rows : List Row) (i : ℕ) (d : Row) → i < length rows → rows ≡ take i rows ++ get_or rows i d ∷ drop (suc i) rows
split_at [] i d within = absurd (omega arith)
split_at (row ∷ rows) zero d within = refl
split_at (row ∷ rows) (suc i) d within = ap (λ (r : List Row). row ∷ r) (split_at rows i d (omega arith))

-- no signature stands among those before it
pub not_before : (rows : List Row) (i : ℕ) (d : Row) → i < length rows → IsDistinct same_signature (keys_of rows) → lookup (same_signature (get_or rows i d).0) (take i rows) ≡ None
not_before rows i d within once =
    absent_before same_signature-equiv (take i rows) (drop (suc i) rows) (get_or rows i d) (subst (λ r. IsDistinct same_signature (keys_of r)) (split_at rows i d within) once)

-- ---- reading one row after another

pub none_from : {X : Type 0} (found : Option X) → is_some found ≡ false → found ≡ None
none_from None h = refl
none_from (Some x) h = absurd (cc)

-- one more row was read
pub read_more : (chunks : List (List ℕ)) (i : ℕ) (entries more : List Row) → i < length chunks → entries ≡ map row_in (take i chunks) → more ≡ entries ++ row_in (get_or chunks i []) ∷ []
    → more ≡ map row_in (take (i + 1) chunks)
read_more chunks i entries more within so_far h =
    h ∙ ap (λ (e : List Row). e ++ row_in (get_or chunks i []) ∷ []) so_far
    ∙ sym (ap (map row_in) (take_more chunks i [] within) ∙ map-append row_in (take i chunks) (get_or chunks i [] ∷ []))

-- a row of a table isn't among those read before it
pub not_read_before : (chunks : List (List ℕ)) (rows : List Row) → map row_in chunks ≡ rows → IsDistinct same_signature (keys_of rows) → (i : ℕ) → i < length chunks
    → lookup (same_signature (row_in (get_or chunks i [])).0) (map row_in (take i chunks)) ≡ None
not_read_before chunks rows are once i within =
    let apart = subst (λ r. IsDistinct same_signature (keys_of r)) (sym are) once in
    let long : i < length (map row_in chunks) = omega (arith, within, length-map chunks row_in) in
    let row : get_or (map row_in chunks) i (row_in []) ≡ row_in (get_or chunks i []) = get_or-map row_in chunks i [] (row_in []) within in
    let before = not_before (map row_in chunks) i (row_in []) long apart in
    subst (λ (r : Row). lookup (same_signature r.0) (map row_in (take i chunks)) ≡ None) row
    (subst (λ (l : List Row). lookup (same_signature (get_or (map row_in chunks) i (row_in [])).0) l ≡ None) (take-map row_in i chunks) before)
