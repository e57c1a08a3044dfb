-- What one copy knows alone, by the entries of a family.
use Rattle.std.specs.Prelude.{◌<◌, ℕ, Bool, not, ◌&&◌, List, [], ◌∷◌, filter, reverse, if◌then◌else◌}
use Rattle.std.specs.List.{AllByRecursion}
use Rattle.pana_journal.specs.declared.entry.Entry.{Entry}
use Rattle.pana_family.specs.Updates.{has}
use Rattle.pana_hall.specs.Living.{copies_of, known_to}
use Rattle.pana_hall.proofs.Moves.{Lives, Names}

-- the entry, where one knows it and the other doesn't
abbrev pub alone : Entry → Bool → Bool → List Entry
alone entry is_here is_there = if is_here && not is_there then entry ∷ [] else []

-- what copy a knows and copy b doesn't, by these entries
abbrev pub known_alone : List Entry → ℕ → ℕ → List Entry
known_alone entries a b = filter (λ entry. has (known_to (copies_of entries) a) entry.number && not (has (known_to (copies_of entries) b) entry.number)) entries

-- each entry, from the last one back, has a number above those before it, and the copies that it is about live among those
-- that they make
abbrev pub AreFit : List Entry → Type 0
AreFit [] = Unit {0}
AreFit (entry ∷ before) = AllByRecursion (λ e. e.number < entry.number) before × ((c : ℕ) → Names entry.report c → Lives (copies_of (reverse before)) c) × AreFit before

abbrev pub IsFit : List Entry → Type 0
IsFit entries = AreFit (reverse entries)
