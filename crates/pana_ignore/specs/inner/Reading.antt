-- Reading a text from left to right, with what was read before.
use Rattle.std.specs.Prelude.{ℕ, ◌+◌, List, ◌++◌, Option, None, Some}
use Rattle.pana_ignore.specs.declared.piece.SetItem.{SetItem}

-- these items and bytes before those that are read
abbrev pub with_items : List SetItem → ℕ → Option (List SetItem × ℕ) → Option (List SetItem × ℕ)
with_items items bytes None = None
with_items items bytes (Some (others, more)) = Some (items ++ others, bytes + more)
