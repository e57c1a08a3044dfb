-- The normal form of a number over two halves.
use Rattle.std.proofs.Common.{◌≡◌, ℕ, ◌+◌, ◌-◌, ◌≤◌, min, max, Bool, true, false, cond, ◌⊎◌, List, [], ◌∷◌, arith, refl, sym, ap, ◌∙◌, subst, inl, inr, eqb, eqb-true, ne_eqb}
use Rattle.std.proofs.lemmas.Bool.{eqb-false}
use Rattle.pana_event.specs.Event.{Event, leaf, fork, number, level, greatest, depth, sink, are_same_leaf, norm, IsOpen, IsNormal, AtPoints}
use Rattle.pana_event.proofs.Levels.{level-sink, greatest-sink, number-sink, depth-sink, normal-sink}

-- both halves are the leaf of one level, and so is the normal form
record IsMerged (n : ℕ) (l r e : Event) : Type 0 where
  pub common : ℕ
  pub left : l ≡ leaf common
  pub right : r ≡ leaf common
  pub is : e ≡ leaf (common + n)

-- the halves differ, and the normal form is a fork over both, sunk by the lesser own number
record IsSunk (n : ℕ) (l r e : Event) : Type 0 where
  pub differ : are_same_leaf l r ≡ false
  pub is : e ≡ fork (n + min (number l) (number r)) (sink l (min (number l) (number r))) (sink r (min (number l) (number r)))

cases_test : (t : Bool) (n j k : ℕ) → eqb j k ≡ t → let e = cond t (leaf (j + n)) (fork (n + min j k) (leaf (j - min j k)) (leaf (k - min j k))) in IsMerged n (leaf j) (leaf k) e ⊎ IsSunk n (leaf j) (leaf k) e
cases_test true n j k same =
    inl (record { common = j; left = refl; right = ap leaf (sym (eqb-true j k same)); is = refl })
cases_test false n j k differ = inr (record { differ = differ; is = refl })

abbrev left_of : Event → Event
left_of (leaf n) = leaf n
left_of (fork n l r) = l

abbrev right_of : Event → Event
right_of (leaf n) = leaf n
right_of (fork n l r) = r

-- a normal form is one or the other
cases_norm : (n : ℕ) (l r : Event) → IsMerged n l r (norm n l r) ⊎ IsSunk n l r (norm n l r)
cases_norm n (leaf j) (leaf k) = cases_test (eqb j k) n j k refl
cases_norm n (leaf j) (fork k c d) = inr (record { differ = refl; is = refl })
cases_norm n (fork j c d) (leaf k) = inr (record { differ = refl; is = refl })
cases_norm n (fork j c d) (fork k a b) = inr (record { differ = refl; is = refl })

pub greatest-norm : (n : ℕ) (l r : Event) → greatest (norm n l r) ≡ n + max (greatest l) (greatest r)
greatest-norm n l r =
    elim (cases_norm n l r) [
      | inl merged ↦ omega (arith, ap greatest merged.is, ap greatest merged.left, ap greatest merged.right)
      | inr sunk ↦
          let k = min (number l) (number r) in
          omega (arith, ap greatest sunk.is, greatest-sink l k (omega arith), greatest-sink r k (omega arith))
    ]

pub depth-norm : (n : ℕ) (l r : Event) → depth (norm n l r) ≤ max (depth l) (depth r) + 1
depth-norm n l r =
    elim (cases_norm n l r) [
      | inl merged ↦ omega (arith, ap depth merged.is)
      | inr sunk ↦
          let k = min (number l) (number r) in
          omega (arith, ap depth sunk.is, depth-sink l k, depth-sink r k)
    ]

-- the levels of a normal form are those of the halves, lifted by the number
pub level-norm-left : (n : ℕ) (l r : Event) (point : List Bool) → level (norm n l r) (false ∷ point) ≡ n + level l point
level-norm-left n l r point =
    elim (cases_norm n l r) [
      | inl merged ↦
          omega (arith, ap (λ e. level e (false ∷ point)) merged.is, ap (λ e. level e point) merged.left)
      | inr sunk ↦
          let k = min (number l) (number r) in
          omega (arith, ap (λ e. level e (false ∷ point)) sunk.is, level-sink l k point (omega arith))
    ]

pub level-norm-right : (n : ℕ) (l r : Event) (point : List Bool) → level (norm n l r) (true ∷ point) ≡ n + level r point
level-norm-right n l r point =
    elim (cases_norm n l r) [
      | inl merged ↦
          omega (arith, ap (λ e. level e (true ∷ point)) merged.is, ap (λ e. level e point) merged.right)
      | inr sunk ↦
          let k = min (number l) (number r) in
          omega (arith, ap (λ e. level e (true ∷ point)) sunk.is, level-sink r k point (omega arith))
    ]

-- sinking two leaves keeps them apart
differ-sink : (l r : Event) (k : ℕ) → k ≤ number l → k ≤ number r → are_same_leaf l r ≡ false → are_same_leaf (sink l k) (sink r k) ≡ false
differ-sink (leaf i) (leaf j) k left right differ =
    ne_eqb (i - k) (j - k) (λ same. eqb-false i j differ (omega arith))
differ-sink (leaf i) (fork j c d) k left right differ = refl
differ-sink (fork i a b) (leaf j) k left right differ = refl
differ-sink (fork i a b) (fork j c d) k left right differ = refl

-- the normal form over normal halves is normal
pub normal-norm : (n : ℕ) (l r : Event) → IsNormal l → IsNormal r → IsNormal (norm n l r)
normal-norm n l r left right =
    elim (cases_norm n l r) [
      | inl merged ↦ subst IsNormal (sym merged.is) tt
      | inr sunk ↦
          let k = min (number l) (number r) in
          let halves : IsOpen (sink l k) (sink r k) = record {
            from_zero = omega (arith, number-sink l k, number-sink r k);
            differ = differ-sink l r k (omega arith) (omega arith) sunk.differ;
          } in
          subst IsNormal (sym sunk.is) (halves, normal-sink l k left, normal-sink r k right)
    ]

pub level-norm : (n : ℕ) (l r : Event) → AtPoints (λ point. level (norm n l r) point ≡ level (fork n l r) point)
level-norm n l r [] long = absurd (omega arith)
level-norm n l r (false ∷ point) long = level-norm-left n l r point
level-norm n l r (true ∷ point) long = level-norm-right n l r point
