-- What a tap wraps, and what was done through it.
use Rattle.std.specs.Prelude.{◌≡◌, ℕ, ◌+◌, ◌-◌, ◌^◌, ◌≤◌, ◌==◌, ◌&&◌, if◌then◌else◌, not, min, max, Bool, true, false, List, [], ◌∷◌, ◌++◌, length, take, map, Option, Result, Ok, Err}
use Rattle.std.specs.Io.KnownBytes.{Appends}
use Rattle.pana_wire.specs.declared.tap.Tap.{Tap}

-- the reader or writer that the tap wraps
abbrev pub inside : {T : Type 0} → Tap T → T
inside tap = tap.inner

-- whether a call through the tap has failed, or a write took none of some bytes
abbrev pub has_failed : {T : Type 0} → Tap T → Bool
has_failed tap = tap.failed

-- whether a read through the tap met the end: with room for a byte it gave none
abbrev pub has_ended : {T : Type 0} → Tap T → Bool
has_ended tap = tap.ended

-- whether all that the writer took was flushed since
abbrev pub is_flushed : {T : Type 0} → Tap T → Bool
is_flushed tap = tap.flushed

-- a byte that a writer took, and the moment of the session then
pub record Note : Type 0 where
  pub byte : ℕ
  pub moment : ℕ

-- the notes of bytes that were all taken at one moment
abbrev pub noted_at : ℕ → List ℕ → List Note
noted_at moment bytes = map (λ byte. record { byte = byte; moment = moment }) bytes

-- the bytes of notes
abbrev pub bytes_in : List Note → List ℕ
bytes_in notes = map (λ note. note.byte) notes

-- how a tag holds notes: for each the byte and the moment, the last one first
abbrev pub note_all : ℕ → List ℕ → List ℕ → List ℕ
note_all moment [] numbers = numbers
note_all moment (byte ∷ bytes) numbers = note_all moment bytes (byte ∷ moment ∷ numbers)

abbrev pub notes_in : List ℕ → List Note
notes_in [] = []
notes_in (byte ∷ []) = []
notes_in (byte ∷ moment ∷ numbers) = notes_in numbers ++ record { byte = byte; moment = moment } ∷ []

-- what was noted through the tap, in order
abbrev pub noted : {T : Type 0} → Tap T → List Note
noted tap = notes_in tap.notes.numbers

-- a read through a tap: how many bytes it gave, how many notes the writer's tap had before it, and whether all that this took was
-- flushed
pub record Ask : Type 0 where
  pub gave : ℕ
  pub written : ℕ
  pub flushed : Bool

-- how a tag holds reads: for each its three numbers, the last one first
abbrev pub ask_more : List ℕ → ℕ → ℕ → Bool → List ℕ
ask_more numbers gave written flushed = gave ∷ written ∷ (if flushed then 1 else 0) ∷ numbers

abbrev pub asks_in : List ℕ → List Ask
asks_in [] = []
asks_in (gave ∷ []) = []
asks_in (gave ∷ written ∷ []) = []
asks_in (gave ∷ written ∷ flushed ∷ numbers) = asks_in numbers ++ record { gave = gave; written = written; flushed = flushed == 1 } ∷ []

-- the reads through the tap, in order
abbrev pub asked : {T : Type 0} → Tap T → List Ask
asked tap = asks_in tap.asks.numbers

-- how many bytes a read gave
abbrev pub given : {E : Type 0} → Result ℕ E → ℕ
given (Ok count) = count
given (Err e) = 0

-- nothing was done through the tap
pub record IsUnused {T : Type 0} (tap : Tap T) : Type 0 where
  pub failed : tap.failed ≡ false
  pub ended : tap.ended ≡ false
  pub reads : tap.reads ≡ 0
  pub flushed : tap.flushed ≡ true
  pub notes : noted tap ≡ []
  pub asks : asked tap ≡ []

-- a read with room for a byte that gave none
abbrev pub read_none : {E : Type 0} → Result ℕ E → List ℕ → Bool
read_none (Ok given) buffer = (given == 0) && not (length buffer == 0)
read_none (Err e) buffer = false

-- a write that failed, or took none of some bytes
abbrev pub write_failed : {E : Type 0} → Result ℕ E → List ℕ → Bool
write_failed (Ok taken) bytes = (taken == 0) && not (length bytes == 0)
write_failed (Err e) bytes = true

-- the bytes that a write took
abbrev pub bytes_taken : {E : Type 0} → Result ℕ E → List ℕ → List ℕ
bytes_taken (Ok taken) bytes = take taken bytes
bytes_taken (Err e) bytes = []

-- this many reads were made through the tap; its count stops at the greatest number of 64 bits, and never falls
abbrev pub MadeReads : {T : Type 0} → ℕ → Tap T → Tap T → Type 0
MadeReads n old new = new.reads ≡ max old.reads (min (old.reads + n) (2 ^ 64 - 1))

-- nothing was read through the tap
pub record IsUnread {T : Type 0} (old new : Tap T) : Type 0 where
  pub ended : has_ended new ≡ has_ended old
  pub reads : MadeReads 0 old new

-- no more reads than this were made through the tap
abbrev pub MadeAtMost : {T : Type 0} → ℕ → Tap T → Tap T → Type 0
MadeAtMost most old new = (made : ℕ) × (made ≤ most) × MadeReads made old new

-- what was noted since is what was written since, byte for byte
abbrev pub IsNoted : {W : Type 0} → (W → Option (List ℕ)) → Tap W → Tap W → List Note → Type 0
IsNoted contents old new since = (noted new ≡ noted old ++ since) × Appends (contents (inside old)) (contents (inside new)) (bytes_in since)

-- known bytes grow by a prefix of the text
abbrev pub AppendsPrefix : Option (List ℕ) → Option (List ℕ) → List ℕ → Type 0
AppendsPrefix old new text = (written : List ℕ) × (rest : List ℕ) × Appends old new written × (text ≡ written ++ rest)
