-- The order of costs, and what a step adds.
use Rattle.std.specs.Prelude.{◌==◌, nat_lt}
use Rattle.std.proofs.Common.{◌≡◌, ℕ, ◌+◌, ◌-◌, ◌<◌, ◌≤◌, Bool, true, false, ◌&&◌, List, ◌∷◌, arith, sym, ap₂, inl, inr}
use Rattle.std.proofs.lemmas.Bool.{or_cases, or_parts, and_parts, and_cases, ltb-true, ltb-false, eqb-true, eqb-false}
use Rattle.pana_event.specs.Event.{Event, leaf, fork}
use Rattle.pana_stamp.specs.declared.cost.Cost.{Cost}
use Rattle.pana_stamp.specs.Cost.{CostsAtMost, CostsLess, is_cheaper, cost_at, one_up}
use Rattle.pana_stamp.specs.Grow.{left_of, right_of, opened_by}

abbrev pub cost_with : ℕ → ℕ → Cost
cost_with opened levels = record { opened = opened; levels = levels }

pub same_cost : (a b : Cost) → a.opened ≡ b.opened → a.levels ≡ b.levels → a ≡ b
same_cost a b opened levels = ap₂ cost_with opened levels

pub less-cheaper : (a b : Cost) → is_cheaper a b ≡ true → CostsLess a b
less-cheaper a b test =
    elim (or_cases (nat_lt a.opened b.opened) (a.opened == b.opened && nat_lt a.levels b.levels) test) [
      | inl fewer ↦
          let less : a.opened < b.opened = ltb-true a.opened b.opened fewer in
          record { opens = omega arith; deep = λ same. absurd (omega arith) }
      | inr both ↦
          let two = and_parts (a.opened == b.opened) (nat_lt a.levels b.levels) both in
          let same : a.opened ≡ b.opened = eqb-true a.opened b.opened two.0 in
          let less : a.levels < b.levels = ltb-true a.levels b.levels two.1 in
          record { opens = omega arith; deep = λ _. less }
    ]

pub most-cheaper : (a b : Cost) → is_cheaper a b ≡ false → CostsAtMost b a
most-cheaper a b test =
    let two = or_parts (nat_lt a.opened b.opened) (a.opened == b.opened && nat_lt a.levels b.levels) test in
    record {
      opens = ltb-false a.opened b.opened two.0;
      deep =
          λ same.
          elim (and_cases (a.opened == b.opened) (nat_lt a.levels b.levels) two.1) [
            | inl differ ↦ absurd (eqb-false a.opened b.opened differ (sym same))
            | inr deep ↦ ltb-false a.levels b.levels deep
          ];
    }

pub most-less : (a b : Cost) → CostsLess a b → CostsAtMost a b
most-less a b h = record { opens = h.opens; deep = λ same. omega (arith, h.deep same) }

pub most-most : (a b c : Cost) → CostsAtMost a b → CostsAtMost b c → CostsAtMost a c
most-most a b c ab bc =
    record {
      opens = omega (arith, ab.opens, bc.opens);
      deep = λ same.
          let first : a.opened ≡ b.opened = omega (arith, ab.opens, bc.opens) in
          let second : b.opened ≡ c.opened = omega arith in
          omega (arith, ab.deep first, bc.deep second);
    }

pub less-most : (a b c : Cost) → CostsLess a b → CostsAtMost b c → CostsLess a c
less-most a b c ab bc =
    record {
      opens = omega (arith, ab.opens, bc.opens);
      deep = λ same.
          let first : a.opened ≡ b.opened = omega (arith, ab.opens, bc.opens) in
          let second : b.opened ≡ c.opened = omega arith in
          omega (arith, ab.deep first, bc.deep second);
    }

pub up-most : (k : ℕ) (a b : Cost) → CostsAtMost a b → CostsAtMost (one_up k a) (one_up k b)
up-most k a b h =
    record { opens = omega (arith, h.opens); deep = λ same. let one : a.opened ≡ b.opened = omega arith in omega (arith, h.deep one) }

pub up-less : (k : ℕ) (a b : Cost) → CostsLess a b → CostsLess (one_up k a) (one_up k b)
up-less k a b h =
    record { opens = omega (arith, h.opens); deep = λ same. let one : a.opened ≡ b.opened = omega arith in omega (arith, h.deep one) }

-- what is less than one step more is one step more than something less
pub down-less : (o l k : ℕ) (c : Cost) → k ≤ o → 0 < l → CostsLess (cost_with o l) (one_up k c) → CostsLess (cost_with (o - k) (l - 1)) c
down-less o l k c room deep h =
    let opens : o ≤ c.opened + k = h.opens in
    record {
      opens = omega arith;
      deep = λ same.
          let one : o ≡ c.opened + k = omega arith in
          let less : l < c.levels + 1 = h.deep one in
          omega arith;
    }

-- one step to a half
pub cost-left : (e : Event) (path : List Bool) → cost_at e (false ∷ path) ≡ one_up (opened_by e) (cost_at (left_of e) path)
cost-left (leaf n) path = same_cost _ _ (omega arith) (omega arith)
cost-left (fork n l r) path = same_cost _ _ (omega arith) (omega arith)

pub cost-right : (e : Event) (path : List Bool) → cost_at e (true ∷ path) ≡ one_up (opened_by e) (cost_at (right_of e) path)
cost-right (leaf n) path = same_cost _ _ (omega arith) (omega arith)
cost-right (fork n l r) path = same_cost _ _ (omega arith) (omega arith)
