-- How a text is written through a tap, at one moment of the session.
use Rattle.std.specs.Prelude.{◌≡◌, ℕ, List, ◌++◌, Option, true, false}
use Rattle.std.specs.Io.KnownBytes.{Appends}
use Rattle.pana_wire.specs.declared.tap.Tap.{Tap}
use Rattle.pana_wire.specs.declared.serving.ServeFault.{ServeFault}
use Rattle.pana_wire.specs.declared.serving.ServeFault.TheVariants.{Write}
use Rattle.pana_wire.specs.Tap.{inside, has_failed, noted, noted_at, AppendsPrefix}

-- the whole text is written, and noted
pub record Writes {W : Type 0} (contents : W → Option (List ℕ)) (moment : ℕ) (old new : Tap W) (text : List ℕ) : Type 0 where
  pub written : Appends (contents (inside old)) (contents (inside new)) text
  pub works : has_failed new ≡ false
  pub notes : noted new ≡ noted old ++ noted_at moment text

-- a prefix of the text is written, and noted
abbrev pub NotesPrefix : {W : Type 0} → (W → Option (List ℕ)) → ℕ → Tap W → Tap W → List ℕ → Type 0
NotesPrefix contents moment old new text = (part : List ℕ) × (rest : List ℕ) × (noted new ≡ noted old ++ noted_at moment part)
    × Appends (contents (inside old)) (contents (inside new)) part × (text ≡ part ++ rest)

-- a write failed, with a prefix of the text written
pub record WritesPrefix {W : Type 0} (contents : W → Option (List ℕ)) (moment : ℕ) (old new : Tap W) (text : List ℕ) (fault : ServeFault) : Type 0 where
  pub is_write : fault ≡ Write
  pub failed : has_failed new ≡ true
  pub written : AppendsPrefix (contents (inside old)) (contents (inside new)) text
  pub notes : NotesPrefix contents moment old new text
