-- What the test of a single 1 says of the depths of all 1s.
use Rattle.std.proofs.Common.{◌≡◌, ℕ, ◌+◌, ◌-◌, ◌<◌, true, false, ◌&&◌, nat_lt, List, [], ◌∷◌, ◌++◌, map, length, IsTrue, ◌↔◌, refl, sym, ap, ap₂, ◌∙◌, arith, append-nil, eq-eqb, length-append}
use Rattle.std.proofs.lemmas.Bool.{eqb-true, ltb-true, lt-ltb}
use Rattle.std.proofs.lemmas.List.{length-map}
use Rattle.pana_id.specs.Id.{Id, zero_id, one_id, pair, is_zero, IsNormal, is_single, ones}
use Rattle.pana_id.proofs.Pairs.{both_true, is_zero-open}

-- a single depth, one level further down
deeper : (n : ℕ) (depths : List ℕ) → nat_lt 0 n ≡ true → depths ≡ (n - 1) ∷ [] → map (λ d. d + 1) depths ≡ n ∷ []
deeper n depths test single =
    let room : 0 < n = ltb-true 0 n test in
    let back : n - 1 + 1 ≡ n = omega arith in
    ap (λ ds. map (λ d. d + 1) ds) single ∙ ap (λ d. d ∷ []) back

pub ones-single : (i : Id) (n : ℕ) → is_single i n ≡ true → ones i ≡ n ∷ []
ones-single zero_id n test = absurd (cc)
ones-single one_id n test = ap (λ d. d ∷ []) (sym (eqb-true n 0 test))
ones-single (pair zero_id i) n test =
    let both = both_true (nat_lt 0 n) (is_single i (n - 1)) test in
    deeper n (ones i) both.0 (ones-single i (n - 1) both.1)
ones-single (pair i zero_id) n test =
    let both = both_true (nat_lt 0 n) (is_single i (n - 1)) test in
    deeper n (ones i ++ []) both.0 (append-nil (ones i) ∙ ones-single i (n - 1) both.1)
ones-single (pair l r) n test = absurd (cc)

-- a normal id that isn't 0 has a 1
pub some_ones : (i : Id) → IsNormal i → is_zero i ≡ false → 0 < length (ones i)
some_ones zero_id normal h = absurd (cc)
some_ones one_id normal h = omega arith
some_ones (pair zero_id r) normal h =
    let below : 0 < length (ones r) = some_ones r normal.1 (is_zero-open zero_id r normal.2) in
    omega (arith, length-map (ones r) (λ (d : ℕ). d + 1), below)
some_ones (pair l r) normal h =
    let below : 0 < length (ones l) = some_ones l normal.0 refl in
    omega (arith, length-map (ones l ++ ones r) (λ (d : ℕ). d + 1), length-append (ones l) (ones r), below)

-- a single depth, seen from one level further down
shallower : (n : ℕ) (depths : List ℕ) → map (λ d. d + 1) depths ≡ n ∷ [] → (nat_lt 0 n ≡ true) × (depths ≡ (n - 1) ∷ [])
shallower n [] single = absurd (cc)
shallower n (d ∷ []) single =
    let same : d + 1 ≡ n = cc in
    let room : 0 < n = omega arith in
    let back : d ≡ n - 1 = omega arith in
    (lt-ltb 0 n room, ap (λ k. k ∷ []) back)
shallower n (d ∷ e ∷ depths) single = absurd (cc)

pub single-ones : (i : Id) (n : ℕ) → IsNormal i → ones i ≡ n ∷ [] → is_single i n ≡ true
single-ones zero_id n normal single = absurd (cc)
single-ones one_id n normal single = let same : n ≡ 0 = cc in eq-eqb n 0 same
single-ones (pair zero_id i) n normal single =
    let below = shallower n (ones i) single in
    ap₂ (λ s t. s && t) below.0 (single-ones i (n - 1) normal.1 below.1)
single-ones (pair i zero_id) n normal single =
    let below = shallower n (ones i ++ []) single in
    ap₂ (λ s t. s && t) below.0 (single-ones i (n - 1) normal.0 (sym (append-nil (ones i)) ∙ below.1))
single-ones (pair l r) n normal single =
    let left : 0 < length (ones l) = some_ones l normal.0 refl in
    let right : 0 < length (ones r) = some_ones r normal.1 refl in
    absurd (omega (arith, ap length single, length-map (ones l ++ ones r) (λ (d : ℕ). d + 1), length-append (ones l) (ones r), left, right))

-- the test and the depths of all 1s say the same
pub single_iff_ones : (i : Id) (at : ℕ) → IsNormal i → IsTrue (is_single i at) ↔ (ones i ≡ at ∷ [])
single_iff_ones i at normal = ((λ test. ones-single i at test), (λ single. single-ones i at normal single))
