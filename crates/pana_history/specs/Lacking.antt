-- What one copy knows and another lacks.
use Rattle.std.specs.Prelude.{ℕ, not, ◌&&◌, List, filter}
use Rattle.pana_journal.specs.declared.entry.Entry.{Entry}
use Rattle.pana_family.specs.Updates.{has}
use Rattle.pana_hall.specs.Effective.{effective}
use Rattle.pana_hall.specs.Family.{entries_of, families}
use Rattle.pana_hall.specs.Living.{known_to, living}

-- the entries of a family that count: reports of its copies that no later entry withdraws
abbrev pub family_entries : List Entry → ℕ → List Entry
family_entries journal family = entries_of family (families journal) (effective journal)

-- those of them that are updates which copy a knows and copy b doesn't, in order
abbrev pub lacking : List Entry → ℕ → ℕ → ℕ → List Entry
lacking journal family a b = filter (λ entry. has (known_to (living journal) a) entry.number && not (has (known_to (living journal) b) entry.number)) (family_entries journal family)
