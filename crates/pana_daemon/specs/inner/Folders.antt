-- Folders, and the ticks and the start that they wait for.
use Rattle.std.specs.Prelude.{◌≡◌, ◌≤◌, ℕ, Bool, true, false, List, [], ◌∷◌, IsSome}
use Rattle.atomic_table.specs.Seated.{TableId}
use Rattle.pana_ticks.specs.declared.count.Count.{Count}
use Rattle.pana_ticks.specs.Hands.{count}
use Rattle.pana_daemon.specs.RootFolder.{FolderView}
use Rattle.pana_daemon.specs.declared.timing.Nap.{Nap}
use Rattle.pana_daemon.specs.declared.timing.Nap.TheVariants.{More, Same, Over}

-- the folders wait for these ticks and this start
abbrev pub AreOf : {K : Type 0} → TableId → ℕ → List (List ℕ × FolderView K) → Type 0
AreOf ticks start [] = Unit {0}
AreOf ticks start (folder ∷ folders) = (folder.1.ticks ≡ ticks) × (folder.1.start ≡ start) × AreOf ticks start folders

-- so do these, and each has asked whether the start has come
abbrev pub HaveAsked : {K : Type 0} → TableId → ℕ → List (List ℕ × FolderView K) → Type 0
HaveAsked ticks start [] = Unit {0}
HaveAsked ticks start (folder ∷ folders) = (folder.1.ticks ≡ ticks) × (folder.1.start ≡ start) × IsSome folder.1.begins × HaveAsked ticks start folders

-- what was seen of ticks before and after a wait for more of them or for a time; or, where it isn't waited on, no more come
abbrev pub IsTimed : Bool → Count → Count → Type 0
IsTimed true before after = before.ticks ≤ after.ticks
IsTimed false before after = after ≡ count before.ticks true

-- what was seen of ticks before and after one nap
abbrev pub HasNapped : Nap → Count → Count → Type 0
HasNapped More before after = before.ticks ≤ after.ticks
HasNapped Same before after = after.ticks ≡ before.ticks
HasNapped Over before after = after ≡ count before.ticks true
