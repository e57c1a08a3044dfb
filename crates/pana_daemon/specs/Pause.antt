-- Pauses after a connection couldn't be taken.
use Rattle.std.specs.Prelude.{ℕ, ◌*◌, min}

-- each is twice as long as the one before, up to a second
abbrev pub pause_after : ℕ → ℕ
pause_after pause = min (2 * pause) 1000
