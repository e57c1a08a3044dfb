use Rattle.std.specs.Prelude.{◌≡◌, ℕ, ◌+◌, ◌-◌, ◌≤◌, max, Bool, true, false, ◌&&◌, ◌||◌, ◌==◌, nat_lt, List, [], ◌∷◌, ◌++◌, length, map}

-- an id: 0 owns no point, 1 owns all, and a pair lays one id on the left half and one on the right half
pub data Id : Type 0 where
  zero_id : Id
  one_id : Id
  pair : Id → Id → Id

-- whether the id owns the point; a point is a list of choices, false for left and true for right
abbrev pub has : Id → List Bool → Bool
has zero_id _ = false
has one_id _ = true
has (pair l r) [] = false
has (pair l r) (false ∷ point) = has l point
has (pair l r) (true ∷ point) = has r point

-- a fact at each point of 256 choices
abbrev pub AtPoints : (List Bool → Type 0) → Type 0
AtPoints P = (point : List Bool) → length point ≡ 256 → P point

-- a leaf has depth 0, and a pair is one deeper than the deeper of its halves
abbrev pub depth : Id → ℕ
depth zero_id = 0
depth one_id = 0
depth (pair l r) = max (depth l) (depth r) + 1

-- whether the id is 0
abbrev pub is_zero : Id → Bool
is_zero zero_id = true
is_zero one_id = false
is_zero (pair l r) = false

-- whether the id is 1
abbrev pub is_one : Id → Bool
is_one zero_id = false
is_one one_id = true
is_one (pair l r) = false

-- the two ids are neither both 0 nor both 1
abbrev pub IsOpen : Id → Id → Type 0
IsOpen zero_id zero_id = ⊥
IsOpen one_id one_id = ⊥
IsOpen _ _ = Unit {0}

-- no pair in the id is (0,0) or (1,1)
abbrev pub IsNormal : Id → Type 0
IsNormal zero_id = Unit {0}
IsNormal one_id = Unit {0}
IsNormal (pair l r) = IsNormal l × IsNormal r × IsOpen l r

-- what each id tree keeps: it is normal, and at most 256 deep
pub record IsValid (i : Id) : Type 0 where
  pub normal : IsNormal i
  pub within : depth i ≤ 256

-- the pair of two ids, with (0,0) written 0 and (1,1) written 1
abbrev pub norm : Id → Id → Id
norm zero_id zero_id = zero_id
norm one_id one_id = one_id
norm l r = pair l r

-- the two parts of an id: a 1 is cut into its halves, a pair with a 0 is divided in its other half, and any other pair is cut between its halves
abbrev pub parts : Id → Id × Id
parts zero_id = (zero_id, zero_id)
parts one_id = (pair one_id zero_id, pair zero_id one_id)
parts (pair zero_id i) = (pair zero_id (parts i).0, pair zero_id (parts i).1)
parts (pair i zero_id) = (pair (parts i).0 zero_id, pair (parts i).1 zero_id)
parts (pair l r) = (pair l zero_id, pair zero_id r)

-- whether the id has a single 1, at this depth, and no pair of two 0
abbrev pub is_single : Id → ℕ → Bool
is_single zero_id at = false
is_single one_id at = at == 0
is_single (pair zero_id i) at = nat_lt 0 at && is_single i (at - 1)
is_single (pair i zero_id) at = nat_lt 0 at && is_single i (at - 1)
is_single (pair l r) at = false

-- whether two normal ids have no point in common
abbrev pub are_disjoint : Id → Id → Bool
are_disjoint zero_id j = true
are_disjoint i zero_id = true
are_disjoint (pair a b) (pair c d) = are_disjoint a c && are_disjoint b d
are_disjoint i j = false

-- the sum of two ids with no point in common; the last case meets none, and there the sum is still what either owns
abbrev pub sum_of : Id → Id → Id
sum_of zero_id j = j
sum_of i zero_id = i
sum_of (pair a b) (pair c d) = norm (sum_of a c) (sum_of b d)
sum_of i j = one_id

-- no point of 256 choices is owned by both
abbrev pub SharesNoPoint : Id → Id → Type 0
SharesNoPoint i j = AtPoints (λ point. (has i point && has j point) ≡ false)

-- an id is divided into two: each point of it is owned by exactly one of them and no other point by either, and where the id isn't 0 neither is
pub record IsParted (whole first second : Id) : Type 0 where
  pub owned : AtPoints (λ point. has whole point ≡ (has first point || has second point))
  pub once : SharesNoPoint first second
  pub first_owns : is_zero whole ≡ false → is_zero first ≡ false
  pub second_owns : is_zero whole ≡ false → is_zero second ≡ false

-- an id is the sum of two: it owns exactly what either owns, and is 0 only where both are
pub record IsSum (whole left right : Id) : Type 0 where
  pub owned : AtPoints (λ point. has whole point ≡ (has left point || has right point))
  pub zero_only : is_zero whole ≡ (is_zero left && is_zero right)

-- the depths at which a 1 stands, from left to right
abbrev pub ones : Id → List ℕ
ones zero_id = []
ones one_id = 0 ∷ []
ones (pair l r) = map (λ d. d + 1) (ones l ++ ones r)
