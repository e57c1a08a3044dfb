-- Of two places of an id one is to the right.
use Rattle.std.proofs.Common.{◌≡◌, ◌⊎◌, Bool, true, false, List, [], ◌∷◌, arith, refl, ap, inl, inr}
use Rattle.pana_id.specs.Id.{Id, zero_id, one_id, pair}
use Rattle.pana_event.specs.Event.{Event}
use Rattle.pana_stamp.specs.declared.cost.Cost.{Cost}
use Rattle.pana_stamp.specs.Cost.{CostsAtMost, CostsLess, cost_at}
use Rattle.pana_stamp.specs.Grow.{leads_to_one, is_right_of, IsGrowthPlace}

-- how two places of an id lie
record Lies (p q : List Bool) : Type 0 where
  pub cases : (p ≡ q) ⊎ ((is_right_of p q ≡ true) ⊎ (is_right_of q p ≡ true))

below_left : (p q : List Bool) → Lies p q → Lies (false ∷ p) (false ∷ q)
below_left p q lies =
    elim lies.cases [
      | inl same ↦ record { cases = inl (ap (λ (path : List Bool). false ∷ path) same) }
      | inr apart ↦ record { cases = inr apart }
    ]

below_right : (p q : List Bool) → Lies p q → Lies (true ∷ p) (true ∷ q)
below_right p q lies =
    elim lies.cases [
      | inl same ↦ record { cases = inl (ap (λ (path : List Bool). true ∷ path) same) }
      | inr apart ↦ record { cases = inr apart }
    ]

lies : (i : Id) (p q : List Bool) → leads_to_one i p ≡ true → leads_to_one i q ≡ true → Lies p q
lies zero_id p q first second = absurd (cc)
lies one_id [] [] first second = record { cases = inl refl }
lies one_id [] (choice ∷ q) first second = absurd (cc)
lies one_id (choice ∷ p) q first second = absurd (cc)
lies (pair l r) [] q first second = absurd (cc)
lies (pair l r) (choice ∷ p) [] first second = absurd (cc)
lies (pair l r) (false ∷ p) (false ∷ q) first second = below_left p q (lies l p q first second)
lies (pair l r) (false ∷ p) (true ∷ q) first second = record { cases = inr (inr refl) }
lies (pair l r) (true ∷ p) (false ∷ q) first second = record { cases = inr (inl refl) }
lies (pair l r) (true ∷ p) (true ∷ q) first second = below_right p q (lies r p q first second)

not_both : (a b : Cost) → CostsLess a b → CostsAtMost b a → ⊥
not_both a b less most =
    let same : a.opened ≡ b.opened = omega (arith, less.opens, most.opens) in
    let back : b.opened ≡ a.opened = omega arith in
    omega (arith, less.deep same, most.deep back)

pub place_is_one : (i : Id) (e : Event) (p q : List Bool) → IsGrowthPlace i e p → IsGrowthPlace i e q → p ≡ q
place_is_one i e p q first second =
    let way = lies i p q first.one second.one in
    elim way.cases [
      | inl same ↦ same
      | inr apart ↦
          elim apart [
            | inl right ↦ absurd (not_both (cost_at e q) (cost_at e p) (second.last p first.one right) (first.least q second.one))
            | inr left ↦ absurd (not_both (cost_at e p) (cost_at e q) (first.last q second.one left) (second.least p first.one))
          ]
    ]
