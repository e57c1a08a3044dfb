-- What a disk in memory gives.
use Rattle.std.specs.Prelude.{Err, ◌≡◌, ℕ, zero, suc, ◌+◌, ◌<◌, [], ◌∷◌, Bool, true, false, cond, nat_lt, List, Option, Some, None, find, position, slice_get, slice_set, take, length}
use Rattle.std.specs.List.{position_or_len}
use Rattle.std.specs.Option.{option_map}
use Rattle.std.proofs.Common.{refl, sym, ap, ◌∙◌, subst, drop, arith, get_or}
use Rattle.std.proofs.lemmas.Bool.{true≢false, ltb-false, ltb-true}
use Rattle.std.proofs.lemmas.List.{drop_more}
use Rattle.std.proofs.lemmas.List.Folds.{find_at}
use Rattle.std.proofs.lemmas.Option.{slice_get_past, slice_get_within, get_or_from_slice_get}
use Rattle.pana_scan.specs.declared.disk_fault.DiskFault.{DiskFault}
use Rattle.pana_scan.specs.declared.disk_fault.DiskFault.TheVariants.{Failed}
use Rattle.pana_scan.specs.declared.entry.Entry.{Entry}
use Rattle.pana_scan_tests.specs.declared.memory_disk.MemoryFile.{MemoryFile}
use Rattle.pana_scan_tests.specs.declared.memory_disk.MemoryFolder.{MemoryFolder}
use Rattle.pana_scan.specs.Disk.{Begins, Content, Names, Opens}
use Rattle.pana_scan_tests.specs.Memory.{content_after, content_after_open, names_after}

abbrev or_zero : Option ℕ → ℕ
or_zero None = 0
or_zero (Some i) = i

abbrev there : Option ℕ → Bool
there None = false
there (Some i) = true

-- what stands at the first position is what is found
pub found_at : {X : Type 0} (p : X → Bool) (xs : List X) (i : ℕ) → Some i ≡ position p xs → slice_get xs i ≡ find p xs
found_at p xs i is =
    elim (nat_lt (position_or_len p xs) (length xs)) as (λ b. Some i ≡ cond b (Some (position_or_len p xs)) None → slice_get xs i ≡ find p xs) [
      | true ↦ λ e. ap (slice_get xs) (ap or_zero e) ∙ sym (find_at p xs)
      | false ↦ λ e. absurd (true≢false (ap there e))
    ] is

-- there is something at the first position
pub position_there : {X : Type 0} (p : X → Bool) (xs : List X) (i : ℕ) → Some i ≡ position p xs → (x : X) × (find p xs ≡ Some x)
position_there {X} p xs i is =
    elim (nat_lt (position_or_len p xs) (length xs)) as (λ b. nat_lt (position_or_len p xs) (length xs) ≡ b → Some i ≡ cond b (Some (position_or_len p xs)) None → (x : X) × (find p xs ≡ Some x)) [
      | true ↦ λ e n. (
        (element xs (position_or_len p xs) (ltb-true (position_or_len p xs) (length xs) e)).0,
        find_at p xs ∙ (element xs (position_or_len p xs) (ltb-true (position_or_len p xs) (length xs) e)).1,
      )
      | false ↦ λ e n. absurd (true≢false (ap there n))
    ] refl is
  where
    element : {X : Type 0} (xs : List X) (i : ℕ) → i < length xs → (x : X) × (slice_get xs i ≡ Some x)
    element [] i within = absurd (omega (arith, within))
    element (x ∷ xs) zero within = (x, refl)
    element (x ∷ xs) (suc i) within = element xs i (omega (arith, within))

pub none_found : {X : Type 0} (p : X → Bool) (xs : List X) → None ≡ position p xs → find p xs ≡ None
none_found p xs is =
    elim (nat_lt (position_or_len p xs) (length xs)) as (λ b. nat_lt (position_or_len p xs) (length xs) ≡ b → None ≡ cond b (Some (position_or_len p xs)) None → find p xs ≡ None) [
      | true ↦ λ e n. absurd (true≢false (sym (ap there n)))
      | false ↦ λ e n. find_at p xs ∙ slice_get_past xs (position_or_len p xs) (ltb-false (position_or_len p xs) (length xs) e)
    ] refl is

-- what `get` gives
pub item_at : {X : Type 0} (xs : List X) (i : ℕ) (x : X) → (i < length xs) × (x ≡ get_or xs i x) → slice_get xs i ≡ Some x
item_at [] i x is = absurd (omega (arith, is.0))
item_at (y ∷ xs) zero x is = ap (λ z. Some z) (sym is.1)
item_at (y ∷ xs) (suc i) x is = item_at xs i x (omega (arith, is.0), is.1)

-- the next element, and those after it
pub next_at : {X : Type 0} (xs : List X) (i : ℕ) (x : X) → slice_get xs i ≡ Some x → drop i xs ≡ x ∷ drop (i + 1) xs
next_at xs i x is = drop_more xs i x (slice_get_within xs i x is) ∙ ap (λ y. y ∷ drop (i + 1) xs) (get_or_from_slice_get xs i x x is)

-- behind the last
pub end_at : {X : Type 0} (xs : List X) (i : ℕ) → slice_get xs i ≡ None → drop i xs ≡ []
end_at [] zero is = refl
end_at [] (suc i) is = refl
end_at (x ∷ xs) zero is = absurd (true≢false (ap some is))
  where
    some : {X : Type 0} → Option X → Bool
    some None = false
    some (Some y) = true
end_at (x ∷ xs) (suc i) is = end_at xs i is

-- ---- folders

pub begins_not : (T : Type 0) (found : Option MemoryFolder) (fault : DiskFault) (left : Names) → found ≡ None → fault ≡ Failed
    → Begins {T = T} (names_after 0 found) (Err fault) left
begins_not T found fault left none failed =
    subst (λ (f : DiskFault). Begins {T = T} (names_after 0 found) (Err f) left) (sym failed)
    (subst (λ (o : Option MemoryFolder). Begins {T = T} (names_after 0 o) (Err Failed) left) (sym none) (refl, refl))

pub gives_next : (folders : List MemoryFolder) (at given : ℕ) (folder : MemoryFolder) (entry : Entry) → slice_get folders at ≡ Some folder → slice_get folder.entries.items given ≡ Some entry
    → ((names_after given (slice_get folders at)).entries ≡ entry ∷ (names_after (given + 1) (slice_get folders at)).entries)
    × ((names_after given (slice_get folders at)).fails ≡ (names_after (given + 1) (slice_get folders at)).fails)
gives_next folders at given folder entry here next =
    subst (λ (o : Option MemoryFolder). ((names_after given o).entries ≡ entry ∷ (names_after (given + 1) o).entries) × ((names_after given o).fails ≡ (names_after (given + 1) o).fails)) (sym here)
    (next_at folder.entries.items given entry next, refl)

pub gives_end : (folders : List MemoryFolder) (at given : ℕ) (folder : MemoryFolder) (fails : Bool) → slice_get folders at ≡ Some folder → slice_get folder.entries.items given ≡ None
    → folder.fails ≡ fails → ((names_after given (slice_get folders at)).entries ≡ []) × ((names_after given (slice_get folders at)).fails ≡ fails)
gives_end folders at given folder fails here none is =
    subst (λ (o : Option MemoryFolder). ((names_after given o).entries ≡ []) × ((names_after given o).fails ≡ fails)) (sym here) (end_at folder.entries.items given none, is)

-- ---- files

pub opens_not : (T : Type 0) (found : Option MemoryFile) (fault : DiskFault) (left : Content) → found ≡ None → fault ≡ Failed
    → Opens {T = T} (option_map (content_after 0) found) (Err fault) left
opens_not T found fault left none failed =
    subst (λ (f : DiskFault). Opens {T = T} (option_map (content_after 0) found) (Err f) left) (sym failed) (ap (option_map (content_after 0)) none)

pub opens_at : (files : List MemoryFile) (at : ℕ) (found : Option MemoryFile) → slice_get files at ≡ found → (file : MemoryFile) → found ≡ Some file
    → option_map (content_after 0) found ≡ Some (content_after_open 0 (slice_get files at))
opens_at files at found is file here =
    ap (option_map (content_after 0)) here ∙ ap (λ (o : Option MemoryFile). Some (content_after_open 0 o)) (sym (is ∙ here))

pub reads_next : (files : List MemoryFile) (at read : ℕ) (file : MemoryFile) (byte : ℕ) → slice_get files at ≡ Some file → slice_get file.bytes.items read ≡ Some byte
    → ((content_after_open read (slice_get files at)).bytes ≡ byte ∷ (content_after_open (read + 1) (slice_get files at)).bytes)
    × ((content_after_open read (slice_get files at)).reads ≡ (content_after_open (read + 1) (slice_get files at)).reads + 1)
    × ((content_after_open read (slice_get files at)).fails ≡ (content_after_open (read + 1) (slice_get files at)).fails)
reads_next files at read file byte here next =
    subst (λ (o : Option MemoryFile). ((content_after_open read o).bytes ≡ byte ∷ (content_after_open (read + 1) o).bytes)
    × ((content_after_open read o).reads ≡ (content_after_open (read + 1) o).reads + 1) × ((content_after_open read o).fails ≡ (content_after_open (read + 1) o).fails)) (sym here)
    (next_at file.bytes.items read byte next, ap length (next_at file.bytes.items read byte next) ∙ omega arith, refl)

pub reads_end : (files : List MemoryFile) (at read : ℕ) (file : MemoryFile) (fails : Bool) → slice_get files at ≡ Some file → slice_get file.bytes.items read ≡ None → file.fails ≡ fails
    → ((content_after_open read (slice_get files at)).bytes ≡ []) × ((content_after_open read (slice_get files at)).reads ≡ 0) × ((content_after_open read (slice_get files at)).fails ≡ fails)
reads_end files at read file fails here none is =
    subst (λ (o : Option MemoryFile). ((content_after_open read o).bytes ≡ []) × ((content_after_open read o).reads ≡ 0) × ((content_after_open read o).fails ≡ fails)) (sym here)
    (end_at file.bytes.items read none, ap length (end_at file.bytes.items read none), is)

-- a byte that was put first into a piece
pub first_byte : (piece : List ℕ) (byte : ℕ) → 0 < length piece → byte ∷ [] ≡ take 1 (slice_set piece 0 byte)
first_byte [] byte some = absurd (omega (arith, some))
first_byte (x ∷ piece) byte some = refl
