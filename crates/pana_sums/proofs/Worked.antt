-- Worked examples of the definitions, by computation. The expected bytes are Python's, of `struct` and `hashlib`.
use Rattle.std.specs.Prelude.{◌≡◌, ℕ, pos, negsuc, List, [], ◌∷◌, Some, None, replicate}
use Rattle.std.proofs.Common.{arith, refl}
use Rattle.std.proofs.lemmas.Int.{ints}
use Rattle.sha2.specs.Sha256.{first_words, schedule, rounds, compress, hash_after, digest_bytes, sha256}
use Rattle.pana_sums.specs.declared.file_time.FileTime.{FileTime}
use Rattle.pana_sums.specs.declared.signature.Signature.{Signature}
use Rattle.pana_sums.specs.Times.{nanoseconds_of, IsSettled}
use Rattle.pana_sums.specs.Table.{Row, sum_of, inserted}
use Rattle.pana_sums.specs.File.{time_bytes, record_of, file_of}

-- ---- times

half_before : nanoseconds_of (record { seconds = negsuc 0; nanoseconds = 500000000 }) ≡ negsuc 499999999
half_before = refl

-- the first time that there is
first_of_all : nanoseconds_of (record { seconds = negsuc 9223372036854775807; nanoseconds = 0 }) ≡ negsuc 9223372036854775807999999999
first_of_all = refl

-- a file that was modified and changed at these seconds and nanoseconds
abbrev file : ℕ → ℕ → ℕ → ℕ → Signature
file modified its changed other = record {
  device = 1;
  inode = 2;
  size = 3;
  modified = record { seconds = pos modified; nanoseconds = its };
  changed = record { seconds = pos changed; nanoseconds = other };
}

abbrev begun : FileTime
begun = record { seconds = pos 100; nanoseconds = 500 }

two_seconds : IsSettled (file 98 500 97 999999999) begun
two_seconds = (omega (arith, ints), omega (arith, ints))

a_nanosecond_less : IsSettled (file 98 501 97 0) begun → ⊥
a_nanosecond_less h = let first = h.0 in omega (arith, ints)

-- one second ago
modified_late : IsSettled (file 99 500 0 0) begun → ⊥
modified_late h = let first = h.0 in omega (arith, ints)

-- a file whose mode was changed, say
changed_late : IsSettled (file 0 0 98 501) begun → ⊥
changed_late h = let second = h.1 in omega (arith, ints)

-- ---- tables

abbrev one : List ℕ
one = replicate 32 1

abbrev two : List ℕ
two = replicate 32 2

abbrev table : List Row
table = (file 1 0 1 0, one) ∷ (file 2 0 2 0, one) ∷ []

found : sum_of table (file 2 0 2 0) ≡ Some one
found = refl

-- each field counts
other_device : sum_of table (record { device = 9; inode = 2; size = 3; modified = record { seconds = pos 1; nanoseconds = 0 }; changed = record { seconds = pos 1; nanoseconds = 0 } }) ≡ None
other_device = refl

other_inode : sum_of table (record { device = 1; inode = 9; size = 3; modified = record { seconds = pos 1; nanoseconds = 0 }; changed = record { seconds = pos 1; nanoseconds = 0 } }) ≡ None
other_inode = refl

other_size : sum_of table (record { device = 1; inode = 2; size = 9; modified = record { seconds = pos 1; nanoseconds = 0 }; changed = record { seconds = pos 1; nanoseconds = 0 } }) ≡ None
other_size = refl

other_modified : sum_of table (file 2 0 1 0) ≡ None
other_modified = refl

other_changed : sum_of table (file 1 0 1 1) ≡ None
other_changed = refl

-- a sum takes the place of the one before, and a new signature goes last
replaced : inserted table (file 1 0 1 0) two ≡ (file 1 0 1 0, two) ∷ (file 2 0 2 0, one) ∷ []
replaced = refl

added : inserted table (file 3 0 3 0) two ≡ (file 1 0 1 0, one) ∷ (file 2 0 2 0, one) ∷ (file 3 0 3 0, two) ∷ []
added = refl

-- ---- files

minus_one : time_bytes (record { seconds = negsuc 0; nanoseconds = 500 }) ≡ 255 ∷ 255 ∷ 255 ∷ 255 ∷ 255 ∷ 255 ∷ 255 ∷ 255 ∷ 0 ∷ 0 ∷ 1 ∷ 244 ∷ []
unfolding time_bytes
minus_one = refl

-- the first record of the tests
written : record_of (
  record {
    device = 2049;
    inode = 131;
    size = 5;
    modified = record { seconds = pos 1700000000; nanoseconds = 1 };
    changed = record { seconds = pos 1700000000; nanoseconds = 999999999 };
  },
  one,
) ≡ 0 ∷ 0 ∷ 0 ∷ 0 ∷ 0 ∷ 0 ∷ 8 ∷ 1 ∷ 0 ∷ 0 ∷ 0 ∷ 0 ∷ 0 ∷ 0 ∷ 0 ∷ 131 ∷ 0 ∷ 0 ∷ 0 ∷ 0 ∷ 0 ∷ 0 ∷ 0 ∷ 5
    ∷ 0 ∷ 0 ∷ 0 ∷ 0 ∷ 101 ∷ 83 ∷ 241 ∷ 0 ∷ 0 ∷ 0 ∷ 0 ∷ 1 ∷ 0 ∷ 0 ∷ 0 ∷ 0 ∷ 101 ∷ 83 ∷ 241 ∷ 0 ∷ 59 ∷ 154 ∷ 201 ∷ 255 ∷ one
unfolding time_bytes record_of
written = refl

-- a file of no sums
empty : file_of [] ≡ 112 ∷ 97 ∷ 110 ∷ 97 ∷ 100 ∷ 32 ∷ 115 ∷ 117 ∷ 109 ∷ 115 ∷ 32 ∷ 49 ∷ 10
    ∷ 14 ∷ 184 ∷ 129 ∷ 184 ∷ 228 ∷ 144 ∷ 191 ∷ 0 ∷ 192 ∷ 88 ∷ 154 ∷ 0 ∷ 216 ∷ 75 ∷ 254 ∷ 167 ∷ 37 ∷ 40 ∷ 147 ∷ 227 ∷ 86 ∷ 164 ∷ 211 ∷ 110 ∷ 172 ∷ 172 ∷ 27 ∷ 99 ∷ 130 ∷ 52 ∷ 199 ∷ 138 ∷ []
unfolding first_words schedule rounds compress hash_after digest_bytes sha256
empty = refl
