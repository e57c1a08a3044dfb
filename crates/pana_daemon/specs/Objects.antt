-- Which bytes of a connection a session is given.
use Rattle.std.specs.Prelude.{ℕ, Bool, ◌==◌, ◌||◌, if◌then◌else◌, List, [], ◌∷◌, Option, Some, option_map}
use Rattle.pana_daemon.specs.declared.objects.Opening.{Opening}
use Rattle.pana_daemon.specs.declared.objects.Opening.TheVariants.{Blank, Object, Other}

-- a blank: a tab, a carriage return or a space
abbrev pub is_blank : ℕ → Bool
is_blank byte = byte == 9 || byte == 13 || byte == 32

-- what bytes show: the first of them that isn't a blank is `{`, or another one, or there is none
abbrev pub opening_of : List ℕ → Opening
opening_of [] = Blank
opening_of (byte ∷ bytes) = if is_blank byte then opening_of bytes else if byte == 123 then Object else Other

-- the blanks that bytes begin with
abbrev pub blanks_of : List ℕ → List ℕ
blanks_of [] = []
blanks_of (byte ∷ bytes) = if is_blank byte then byte ∷ blanks_of bytes else []

-- all of the bytes where they show this, or only the blanks that they begin with
abbrev pub admitted : Opening → List ℕ → List ℕ
admitted Blank bytes = bytes
admitted Object bytes = bytes
admitted Other bytes = blanks_of bytes

-- the bytes that are given: all of a stream whose first byte that isn't a blank is `{`
abbrev pub given_of : List ℕ → List ℕ
given_of bytes = admitted (opening_of bytes) bytes

-- the bytes that are left for a session, of those that the stream has left once its first ones have shown this
abbrev pub left_of : Opening → Option (List ℕ) → Option (List ℕ)
left_of Blank known = option_map given_of known
left_of Object known = known
left_of Other known = Some []
