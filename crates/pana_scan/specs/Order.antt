-- The byte order of paths.
use Rattle.std.specs.Prelude.{ℕ, List, [], ◌∷◌}
use Rattle.std.specs.declared.cmp.Ordering.{Ordering}
use Rattle.std.specs.declared.cmp.Ordering.TheVariants.{Less, Equal, Greater}
use Rattle.std.specs.Ordering.{nat_cmp}
use Rattle.std.specs.Cmp.Lexicographic.{slice_cmp}

-- a path in the form in which contracts see it: its bytes
abbrev pub Path : Type 0
Path = List ℕ

-- how two paths compare, byte by byte
abbrev pub path_cmp : Path → Path → Ordering
path_cmp = slice_cmp nat_cmp

-- one of three, by how two paths compare
abbrev pub by_order : {A : Type 0} → Ordering → A → A → A → A
by_order Less less equal greater = less
by_order Equal less equal greater = equal
by_order Greater less equal greater = greater

-- the paths with this one in its place among them, where it isn't there yet
abbrev pub with_path : Path → List Path → List Path
with_path path [] = path ∷ []
with_path path (next ∷ paths) = by_order (path_cmp path next) (path ∷ next ∷ paths) (next ∷ paths) (next ∷ with_path path paths)

-- each of the paths once, in byte order
abbrev pub in_order : List Path → List Path
in_order [] = []
in_order (path ∷ paths) = with_path path (in_order paths)
