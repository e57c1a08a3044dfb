-- Lines of a file that end with a digest over all that stands before it.
use Rattle.std.specs.Prelude.{◌≡◌, ℕ, ◌+◌, ◌-◌, Bool, true, false, ◌||◌, List, ◌∷◌, ◌++◌, length, take, drop, bytes_eq, nat_eq}
use Rattle.std.specs.List.{list_any, starts_with}
use Rattle.sha2.specs.Sha256.{sha256}
use Rattle.sha2.specs.Hashers.{Holds256}
use Rattle.pana_log.specs.Lines.{header, text_of}
use Rattle.pana_wire.specs.Seal.{mark, seal_with}
use Rattle.pana_seal.specs.declared.seal_fault.SealFault.{SealFault}
use Rattle.pana_seal.specs.declared.seal_fault.SealFault.TheVariants as faults
use Rattle.pana_seal.specs.declared.sealer.Sealer.{Sealer}

-- the digest of a line: over all the bytes before it, and those of the line before the digits
abbrev pub digest_of : List ℕ → List ℕ → List ℕ
digest_of before body = sha256 (before ++ (body ++ mark))

-- how a line ends that begins so, behind these bytes
abbrev pub seal_of : List ℕ → List ℕ → List ℕ
seal_of before body = seal_with (digest_of before body)

-- the last 77 bytes of a line, as many as a seal has, and those before them
abbrev pub end_of : List ℕ → List ℕ
end_of line = drop (length line - 77) line

abbrev pub body_of : List ℕ → List ℕ
body_of line = take (length line - 77) line

-- the line looks as if it was sealed
abbrev pub is_marked : List ℕ → Bool
is_marked line = starts_with nat_eq (end_of line) mark

-- the line is sealed, behind these bytes
abbrev pub is_sealed : List ℕ → List ℕ → Bool
is_sealed before line = bytes_eq (end_of line) (seal_of before (body_of line))

-- lines behind this one have to be sealed: it is the header of a journal, or looks as if it was sealed
abbrev pub demands_seals : List ℕ → Bool
demands_seals line = bytes_eq line header || is_marked line

-- the line has to be sealed behind these lines
abbrev pub is_due : List (List ℕ) → List ℕ → Bool
is_due earlier line = list_any demands_seals earlier || is_marked line

-- each line that has to be sealed is
abbrev pub IsIntact : List (List ℕ) → Type 0
IsIntact lines = (earlier : List (List ℕ)) (line : List ℕ) (later : List (List ℕ)) → lines ≡ earlier ++ line ∷ later → is_due earlier line ≡ true → is_sealed (text_of earlier) line ≡ true

-- the first line that isn't sealed and has to be is the one with this number, from 1
pub record IsDamagedAt (lines : List (List ℕ)) (number : ℕ) : Type 0 where
  pub earlier : List (List ℕ)
  pub line : List ℕ
  pub later : List (List ℕ)
  pub whole : lines ≡ earlier ++ line ∷ later
  pub at : number ≡ length earlier + 1
  pub before : IsIntact earlier
  pub due : is_due earlier line ≡ true
  pub broken : is_sealed (text_of earlier) line ≡ false

-- the sealer has taken up these bytes
abbrev pub Covers : Sealer → List ℕ → Type 0
Covers sealer bytes = Holds256 sealer.hasher bytes

-- why the lines aren't read: one of them is damaged, or memory ran out
abbrev pub IsSealFault : List (List ℕ) → SealFault → Type 0
IsSealFault lines (faults.Damaged number) = IsDamagedAt lines number
IsSealFault lines faults.OutOfMemory = Unit {0}
