-- The event after an update is the one that the function gives, and is raised.
use Rattle.pana_family.proofs.Words.{◌≡◌, ◌<◌, ◌+◌, ◌^◌, Bool, true, false, ◌==◌, ◌&&◌, refl, sym, ◌∙◌, inl, inr, arith, cases_Bool, eq-eqb, nat_tests, Id, is_zero, IsValid, Event, leaf, greatest}
use Rattle.pana_family.proofs.Words.{IsSound, is_leq, leq-is-below, below-is-leq, IsRaised, updated, fork, same_below, same_event, IsUpdate}
use Rattle.pana_stamp.specs.Fill.{fill}
use Rattle.pana_stamp.proofs.Calls.{raised_fill, raised_grow, sound_fill, sound_grow}
use Rattle.pana_stamp.proofs.Fills.{IsFilled-fill, IsSound-fill}

both : (a b : Bool) → (a && b) ≡ true → (a ≡ true) × (b ≡ true)
both a b e = grind (arith, nat_tests)

same_itself : (e : Event) → same_event e e ≡ true
same_itself (leaf n) = eq-eqb n n refl
same_itself (fork n l r) = grind (arith, nat_tests, same_itself l, same_itself r)

same_is : (e f : Event) → same_event e f ≡ true → e ≡ f
same_is (fork m c d) (fork n l r) h =
    let first = both (m == n) (same_event c l && same_event d r) h in
    let rest = both (same_event c l) (same_event d r) first.1 in
    grind (arith, nat_tests, same_is c l rest.0, same_is d r rest.1)
same_is e f h = grind (arith, nat_tests)

-- an update is the one that the function gives
pub update_is : (i : Id) (e new : Event) → IsUpdate i e new → new ≡ updated i e
update_is i e new up = grind (arith, nat_tests, same_is, same_itself)

-- and the function gives one
pub is_update : (i : Id) (e : Event) → IsUpdate i e (updated i e)
is_update i e = grind (arith, nat_tests, same_itself, same_is)

-- an event after an update is raised, and within the limits
raised_by : (i : Id) (e new : Event) → IsValid i → is_zero i ≡ false → IsSound e → greatest e + 1 < 2 ^ 64 → IsUpdate i e new → IsRaised i e new × IsSound new
raised_by i e new valid some fine room up =
    let filled : IsSound (fill i e) = IsSound-fill i e fine in
    elim (cases_Bool (is_leq (fill i e) e)) [
      | inl t ↦
          let same : fill i e ≡ e = same_below (fill i e) e filled.normal fine.normal filled.shallow fine.shallow (leq-is-below (fill i e) e filled.shallow fine.shallow t) (record { levels = (IsFilled-fill i e fine.shallow).kept }) in
          (raised_grow i e new (up.grown same) valid some fine.normal same, sound_grow i e new (up.grown same) valid some fine.normal fine.shallow room same)
      | inr out ↦
          let other : fill i e ≡ e → ⊥ = λ same. grind (arith, nat_tests, below-is-leq) in
          let is : new ≡ fill i e = up.filled other in
          (raised_fill i i e e (fill i e) new refl refl refl is fine.normal fine.shallow (λ same. other (sym is ∙ same)), sound_fill i i e e new refl refl is fine.normal fine.shallow fine.fits)
    ]

pub updated_is : (i : Id) (e : Event) → IsValid i → is_zero i ≡ false → IsSound e → greatest e + 1 < 2 ^ 64 → IsRaised i e (updated i e) × IsSound (updated i e)
updated_is i e valid some fine room = raised_by i e (updated i e) valid some fine room (is_update i e)
