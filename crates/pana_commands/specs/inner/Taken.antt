-- What became of a dump's entries so far.
use Rattle.std.specs.Prelude.{◌≡◌, List}
use Rattle.pana_journal.specs.declared.entry.Entry.{Entry}
use Rattle.pana_hall.specs.Load.{StopsAt}
use Rattle.pana_commands.specs.declared.loading.Taken.{Taken}
use Rattle.pana_commands.specs.declared.loading.Taken.TheVariants.{All, Stopped}

-- the hall has taken these entries, or this is the first of them that isn't the next one, and why
abbrev pub HasTaken : List Entry → Taken → Type 0
HasTaken entries (All hall) = hall ≡ entries
HasTaken entries (Stopped fault) = StopsAt entries fault
