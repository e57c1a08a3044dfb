-- Lists that are put together in two ways.
use Rattle.std.proofs.Common.{◌≡◌, ◌≤◌, List, [], ◌∷◌, ◌++◌, length, refl}
use native.Mathlib.Omega.{arith}

-- of two ways to put a list together, the longer beginning goes on from the shorter
pub splits : {X : Type 0} (b c : List X) (a d : List X) → b ++ a ≡ c ++ d → length b ≤ length c → (m : List X) × (c ≡ b ++ m) × (a ≡ m ++ d)
splits [] c a d same within = (c, refl, same)
splits (x ∷ b) [] a d same within = absurd (omega arith)
splits (x ∷ b) (y ∷ c) a d same within =
    let tails : b ++ a ≡ c ++ d = cc in
    let heads : x ≡ y = cc in
    let shorter : length b ≤ length c = omega arith in
    let rest = splits b c a d tails shorter in
    (rest.0, cc, rest.2)

-- beginnings that are equally long are one
pub same_front : {X : Type 0} (b c : List X) (a d : List X) → b ++ a ≡ c ++ d → length b ≡ length c → (b ≡ c) × (a ≡ d)
same_front [] [] a d same even = (refl, same)
same_front [] (y ∷ c) a d same even = absurd (omega arith)
same_front (x ∷ b) [] a d same even = absurd (omega arith)
same_front (x ∷ b) (y ∷ c) a d same even =
    let tails : b ++ a ≡ c ++ d = cc in
    let heads : x ≡ y = cc in
    let shorter : length b ≡ length c = omega arith in
    let rest = same_front b c a d tails shorter in
    (let e = rest.0 in cc, rest.1)
