use Rattle.std.specs.Prelude.{ℕ, zero, suc, ◌/◌, ◌%◌, ◌==◌, if◌then◌else◌}
use Rattle.pana_id.specs.Id.{Id, zero_id, one_id, pair}
use Rattle.pana_id.specs.declared.node.Node.{Node}
use Rattle.pana_id.specs.declared.node.Node.TheVariants.{Zero, One, Single, Pair'}

-- the id that owns the points of one place: the root has the number 0, and the place that has n in the left half has 2n + 1, in the
-- right half 2n + 2; of the choices to it no more than so many are gone
abbrev pub single : ℕ → ℕ → Id
single most zero = one_id
single zero (suc n) = one_id
single (suc most) (suc n) = if n % 2 == 0 then pair (single most (n / 2)) zero_id else pair zero_id (single most (n / 2))

-- the id that a node of the program stands for
abbrev pub tree : Node → Id
tree Zero = zero_id
tree One = one_id
tree (Single number) = single 64 (suc number)
tree (Pair' p left right) = pair (tree left) (tree right)
