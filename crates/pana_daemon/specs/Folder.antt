-- What a folder does that is looked at again and again.
use Rattle.std.specs.Prelude.{◌≡◌, List, [], ◌∷◌, Option, Some, None}
use Rattle.pana_track.specs.declared.folder_end.FolderEnd.{FolderEnd}
use Rattle.pana_daemon.specs.declared.folder.Look.{Look}

-- it gives a look, or no more of them, or learns what became of its last look
pub data Deed : Type 0 where
  gives_look : Look → Deed
  gives_none : Deed
  learns : FolderEnd → Deed

-- the deed that gives this
abbrev pub giving : Option Look → Deed
giving (Some look) = gives_look look
giving None = gives_none

-- a look that was taken, and what became of it; nothing is said of one that isn't tracked, or was cut short
pub record Taken : Type 0 where
  pub look : Look
  pub end : Option FolderEnd

module _ {F : Type 0} (does : F → Deed → F → Type 0) where
  -- the folder learns what became of a look, where that is said
  abbrev pub LearnsEnd : F → Option FolderEnd → F → Type 0
  LearnsEnd old None new = new ≡ old
  LearnsEnd old (Some end) new = does old (learns end) new

  -- the folder gives these looks, one after another, and learns what became of each before the next
  abbrev pub Gives : F → List Taken → F → Type 0
  Gives old [] new = new ≡ old
  Gives old (taken ∷ more) new = (given : F) × (mid : F) × does old (gives_look taken.look) given × LearnsEnd given taken.end mid × Gives mid more new
