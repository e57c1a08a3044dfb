-- The facts of filling and growing in the form in which the calls meet them.
use Rattle.std.specs.Prelude.{Option, Some, None}
use Rattle.std.proofs.Common.{◌≡◌, ◌+◌, ◌<◌, ◌≤◌, ◌^◌, false, arith, sym, ap, ap₂, subst, ◌∙◌}
use Rattle.pana_id.specs.Id.{Id, is_zero, IsValid}
use Rattle.pana_event.specs.Event.{Event, greatest, depth, IsNormal, IsSound}
use Rattle.pana_stamp.specs.declared.cost.Cost.{Cost}
use Rattle.pana_stamp.specs.Fill.{fill, IsFilled}
use Rattle.pana_stamp.specs.Grow.{grow, cost_of, grown_at, IsGrown}
use Rattle.pana_stamp.specs.Raised.{IsRaised}
use Rattle.pana_stamp.proofs.Fills.{IsFilled-fill, IsSound-fill}
use Rattle.pana_stamp.proofs.Ready.{ready-fill}
use Rattle.pana_stamp.proofs.Growths.{growth}
use Rattle.pana_stamp.proofs.Grows.{depth-grow, normal-grow, greatest-grow, IsGrown-grow, IsRaised-grow}
use Rattle.pana_stamp.proofs.Raises.{IsRaised-fill}

fill_is : (i j : Id) (e f g : Event) → i ≡ j → e ≡ f → g ≡ fill i e → g ≡ fill j f
fill_is i j e f g id event is = is ∙ ap₂ fill id event

pub sound_fill : (i j : Id) (e f g : Event) → i ≡ j → e ≡ f → g ≡ fill i e → IsNormal f → depth f ≤ 256 → greatest f < 2 ^ 64 → IsSound g
sound_fill i j e f g id event is normal shallow fits =
    subst IsSound (sym (fill_is i j e f g id event is)) (IsSound-fill j f (record { normal = normal; shallow = shallow; fits = fits }))

pub filled_fill : (i j : Id) (e f g h : Event) → i ≡ j → e ≡ f → g ≡ fill i e → h ≡ g → depth f ≤ 256 → IsFilled j f h
filled_fill i j e f g h id event is same shallow =
    subst (λ (new : Event). IsFilled j f new) (sym (same ∙ fill_is i j e f g id event is)) (IsFilled-fill j f shallow)

pub raised_fill : (i j : Id) (e f g h : Event) → i ≡ j → e ≡ f → g ≡ fill i e → h ≡ g → IsNormal f → depth f ≤ 256 → (h ≡ f → ⊥) → IsRaised j f h
raised_fill i j e f g h id event is same normal shallow changed =
    let all : h ≡ fill j f = same ∙ fill_is i j e f g id event is in
    subst (λ (new : Event). IsRaised j f new) (sym all) (IsRaised-fill j f normal shallow (λ kept. changed (all ∙ kept)))

-- what growing finds at the cost that was found
pub found_grow : (i j : Id) (e f : Event) (c : Cost) (found : Option Event) → i ≡ j → e ≡ f → c ≡ cost_of i e → found ≡ grown_at i e c.opened c.levels → IsValid j → is_zero j ≡ false → IsNormal f → fill j f ≡ f → found ≡ Some (grow j f)
found_grow i j e f c found id event cost is valid owner normal filled =
    let grows = growth j f valid.normal owner (ready-fill j f valid.normal normal filled) in
    let costs : c ≡ cost_of j f = cost ∙ ap₂ cost_of id event in
    is
    ∙ ap₂ (λ (a : Id) (b : Event). grown_at a b c.opened c.levels) id event
    ∙ ap (λ (d : Cost). grown_at j f d.opened d.levels) costs
    ∙ grows.found

pub some_found : (found : Option Event) (g h : Event) → found ≡ Some g → found ≡ Some h → h ≡ g
some_found found g h first second = cc

pub none_found : (found : Option Event) (g : Event) → found ≡ Some g → found ≡ None → ⊥
none_found found g first second = absurd (cc)

pub sound_grow : (j : Id) (f g : Event) → g ≡ grow j f → IsValid j → is_zero j ≡ false → IsNormal f → depth f ≤ 256 → greatest f + 1 < 2 ^ 64 → fill j f ≡ f → IsSound g
sound_grow j f g is valid owner normal shallow room filled =
    let ready = ready-fill j f valid.normal normal filled in
    subst IsSound (sym is)
    (record {
      normal = normal-grow j f valid.normal owner normal ready;
      shallow = omega (arith, depth-grow j f, valid.within);
      fits = omega (arith, greatest-grow j f valid.normal owner ready);
    })

pub grown_grow : (j : Id) (f g : Event) (c : Cost) → g ≡ grow j f → c ≡ cost_of j f → IsValid j → is_zero j ≡ false → IsNormal f → fill j f ≡ f → IsGrown j f g c
grown_grow j f g c is cost valid owner normal filled =
    let ready = ready-fill j f valid.normal normal filled in
    subst (λ (new : Event). IsGrown j f new c) (sym is) (subst (λ (k : Cost). IsGrown j f (grow j f) k) (sym cost) (IsGrown-grow j f valid.normal valid.within owner ready))

pub raised_grow : (j : Id) (f g : Event) → g ≡ grow j f → IsValid j → is_zero j ≡ false → IsNormal f → fill j f ≡ f → IsRaised j f g
raised_grow j f g is valid owner normal filled =
    let ready = ready-fill j f valid.normal normal filled in
    subst (λ (new : Event). IsRaised j f new) (sym is) (IsRaised-grow j f valid.normal valid.within owner ready)
