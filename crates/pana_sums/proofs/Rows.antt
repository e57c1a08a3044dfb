-- A row and its 80 bytes: each is read off the other.
use Rattle.std.proofs.Common.{◌≡◌, ℕ, ◌+◌, ◌<◌, ◌≤◌, ◌^◌, List, ◌++◌, length, get_or, take, drop, refl, sym, ap, ap₂, ◌∙◌, arith, inl, inr}
use Rattle.std.specs.Int.{w32, w64, to_be_bytes, from_be_bytes, cast_signed, cast_unsigned}
use Rattle.std.proofs.Math.Facts.{Fits-of_z, sfits_to_z}
use Rattle.std.proofs.lemmas.Bool.{cases_lt}
use Rattle.std.proofs.lemmas.Int.{to_z-of_z, of_z-to_z}
use Rattle.std.proofs.lemmas.List.{take_all, take-append-drop, drop-drop, length-take, length-drop, get_or-drop, get_or-take, get_or_past}
use Rattle.std.proofs.lemmas.Nat.{be_bytes_4, be_bytes_8, from_be_bytes-to_be_bytes_4, from_be_bytes-to_be_bytes_8}
use Rattle.pana_sums.specs.declared.file_time.FileTime.{FileTime}
use Rattle.pana_sums.specs.Table.{Row, IsTime, IsRow}
use Rattle.pana_sums.specs.File.{time_bytes, record_of}
use Rattle.pana_sums.specs.inner.Records.{time_in, row_in}

abbrev pub IsBytes : List ℕ → Type 0
IsBytes bytes = (i : ℕ) → get_or bytes i 0 < 256

pub IsBytes-drop : (n : ℕ) (bytes : List ℕ) → IsBytes bytes → IsBytes (drop n bytes)
IsBytes-drop n bytes h i = rw get_or-drop (h (n + i))

pub IsBytes-take : (n : ℕ) (bytes : List ℕ) → IsBytes bytes → IsBytes (take n bytes)
IsBytes-take n bytes h i =
    elim (cases_lt i n) [
      | inl lt ↦ rw (get_or-take n bytes i 0 lt) (h i)
      | inr le ↦ rw (get_or_past (take n bytes) i 0 (omega (arith, length-take n bytes))) (omega arith)
    ]

-- ---- what was written is read

time_again : (time : FileTime) → IsTime time → time_in (time_bytes time) ≡ time
unfolding time_bytes
time_again time fits =
    let bits : cast_unsigned w64 time.seconds < 2 ^ 64 = let f = Fits-of_z fits.seconds in omega arith in
    let seconds = ap (cast_signed w64) (from_be_bytes-to_be_bytes_8 (cast_unsigned w64 time.seconds) bits) ∙ to_z-of_z w64 time.seconds fits.seconds in
    let nanoseconds = from_be_bytes-to_be_bytes_4 time.nanoseconds fits.nanoseconds in
    λ j. record { seconds = seconds j; nanoseconds = nanoseconds j }

pub row_again : (row : Row) → IsRow row → row_in (record_of row) ≡ row
unfolding record_of time_bytes row_in
row_again row fits =
    let device = from_be_bytes-to_be_bytes_8 row.0.device fits.device in
    let inode = from_be_bytes-to_be_bytes_8 row.0.inode fits.inode in
    let size = from_be_bytes-to_be_bytes_8 row.0.size fits.size in
    let modified = time_again row.0.modified fits.modified in
    let changed = time_again row.0.changed fits.changed in
    let sum : take 32 row.1 ≡ row.1 = take_all 32 row.1 (omega (arith, fits.sum)) in
    λ j. (record { device = device j; inode = inode j; size = size j; modified = modified j; changed = changed j }, sum j)

pub length-record : (row : Row) → IsRow row → length (record_of row) ≡ 80
unfolding record_of time_bytes
length-record row fits = omega (arith, fits.sum)

-- ---- what was read is written

eight : (bytes : List ℕ) → length bytes ≡ 8 → IsBytes bytes → from_be_bytes w64 bytes < 2 ^ 64
eight bytes long fits = omega (arith, fits 0, fits 1, fits 2, fits 3, fits 4, fits 5, fits 6, fits 7)

four : (bytes : List ℕ) → length bytes ≡ 4 → IsBytes bytes → from_be_bytes w32 bytes < 2 ^ 32
four bytes long fits = omega (arith, fits 0, fits 1, fits 2, fits 3)

-- as many bytes as this, from there on
part : ℕ → ℕ → List ℕ → List ℕ
part n at bytes = take n (drop at bytes)

module _ (bytes : List ℕ) (fits : IsBytes bytes) where
  part_fits : (n at : ℕ) → IsBytes (take n (drop at bytes))
  part_fits n at = IsBytes-take n (drop at bytes) (IsBytes-drop at bytes fits)

  part_long : (n at : ℕ) → at + n ≤ length bytes → length (take n (drop at bytes)) ≡ n
  part_long n at within = omega (arith, length-take n (drop at bytes), length-drop at bytes)

  part_below : (at : ℕ) → at + 8 ≤ length bytes → from_be_bytes w64 (take 8 (drop at bytes)) < 2 ^ 64
  part_below at within = eight (take 8 (drop at bytes)) (part_long 8 at within) (part_fits 8 at)

  part_back : (at : ℕ) → at + 8 ≤ length bytes → to_be_bytes w64 (from_be_bytes w64 (take 8 (drop at bytes))) ≡ take 8 (drop at bytes)
  part_back at within = be_bytes_8 (take 8 (drop at bytes)) (from_be_bytes w64 (take 8 (drop at bytes))) (part_long 8 at within) (part_fits 8 at) refl

  -- a part and what comes after it
  joined : (n at : ℕ) (rest : List ℕ) → rest ≡ drop (at + n) bytes → take n (drop at bytes) ++ rest ≡ drop at bytes
  joined n at rest h = ap (λ (x : List ℕ). take n (drop at bytes) ++ x) (h ∙ sym (drop-drop n at bytes)) ∙ take-append-drop n (drop at bytes)

time_fits : (bytes : List ℕ) → length bytes ≡ 12 → IsBytes bytes → IsTime (time_in bytes)
time_fits bytes long fits = record {
  seconds = sfits_to_z (let below = part_below bytes fits 0 (omega arith) in record { fits = below });
  nanoseconds = four (take 4 (drop 8 bytes)) (part_long bytes fits 4 8 (omega arith)) (part_fits bytes fits 4 8);
}

time_back : (bytes : List ℕ) → length bytes ≡ 12 → IsBytes bytes → time_bytes (time_in bytes) ≡ bytes
unfolding time_bytes
time_back bytes long fits =
    let seconds = ap (to_be_bytes w64) (of_z-to_z w64 (from_be_bytes w64 (take 8 bytes)) (part_below bytes fits 0 (omega arith))) ∙ part_back bytes fits 0 (omega arith) in
    let nanoseconds = be_bytes_4 (take 4 (drop 8 bytes)) (from_be_bytes w32 (take 4 (drop 8 bytes))) (part_long bytes fits 4 8 (omega arith)) (part_fits bytes fits 4 8) refl in
    let rest = nanoseconds ∙ take_all 4 (drop 8 bytes) (omega (arith, length-drop 8 bytes)) in
    ap₂ (λ (x y : List ℕ). x ++ y) seconds rest ∙ take-append-drop 8 bytes

pub row_fits : (bytes : List ℕ) → length bytes ≡ 80 → IsBytes bytes → IsRow (row_in bytes)
unfolding row_in
row_fits bytes long fits = record {
  device = part_below bytes fits 0 (omega arith);
  inode = part_below bytes fits 8 (omega arith);
  size = part_below bytes fits 16 (omega arith);
  modified = time_fits (take 12 (drop 24 bytes)) (part_long bytes fits 12 24 (omega arith)) (part_fits bytes fits 12 24);
  changed = time_fits (take 12 (drop 36 bytes)) (part_long bytes fits 12 36 (omega arith)) (part_fits bytes fits 12 36);
  sum = part_long bytes fits 32 48 (omega arith);
}

-- a row whose fields were read from the bytes, whatever else it is: so nothing has to be computed
record_read : (row : Row) (bytes : List ℕ) → length bytes ≡ 80 → IsBytes bytes
    → row.0.device ≡ from_be_bytes w64 (take 8 (drop 0 bytes)) → row.0.inode ≡ from_be_bytes w64 (take 8 (drop 8 bytes)) → row.0.size ≡ from_be_bytes w64 (take 8 (drop 16 bytes))
    → row.0.modified ≡ time_in (take 12 (drop 24 bytes)) → row.0.changed ≡ time_in (take 12 (drop 36 bytes)) → row.1 ≡ take 32 (drop 48 bytes) → record_of row ≡ bytes
unfolding record_of time_bytes
record_read row bytes long fits device inode size modified changed sum =
    let first = be_bytes_8 _ row.0.device (part_long bytes fits 8 0 (omega arith)) (part_fits bytes fits 8 0) device in
    let second = be_bytes_8 _ row.0.inode (part_long bytes fits 8 8 (omega arith)) (part_fits bytes fits 8 8) inode in
    let third = be_bytes_8 _ row.0.size (part_long bytes fits 8 16 (omega arith)) (part_fits bytes fits 8 16) size in
    let fourth = ap time_bytes modified ∙ time_back (take 12 (drop 24 bytes)) (part_long bytes fits 12 24 (omega arith)) (part_fits bytes fits 12 24) in
    let fifth = ap time_bytes changed ∙ time_back (take 12 (drop 36 bytes)) (part_long bytes fits 12 36 (omega arith)) (part_fits bytes fits 12 36) in
    let last = sum ∙ take_all 32 (drop 48 bytes) (omega (arith, length-drop 48 bytes)) in
    (λ j. first j ++ (second j ++ (third j ++ (fourth j ++ (fifth j ++ last j)))))
    ∙ joined bytes fits 8 0 _ (joined bytes fits 8 8 _ (joined bytes fits 8 16 _ (joined bytes fits 12 24 _ (joined bytes fits 12 36 (drop 48 bytes) refl))))

pub row_back : (bytes : List ℕ) → length bytes ≡ 80 → IsBytes bytes → record_of (row_in bytes) ≡ bytes
unfolding row_in
row_back bytes long fits = record_read (row_in bytes) bytes long fits refl refl refl refl refl refl
