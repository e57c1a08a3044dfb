-- What a sighting comes to, once it is decided.
use Rattle.pana_hall.proofs.Words.{◌≡◌, ℕ, ◌==◌, ◌&&◌, Bool, true, false, not, List, [], ◌∷◌, find, filter, Option, Some, None, option_map, option_and_then, then_some, unwrap_or, is_none, AllByRecursion, IsSome}
use Rattle.pana_hall.proofs.Words.{refl, sym, ap, ◌∙◌, subst, inl, inr, eq-eqb, eqb-true, cond, Entry, Report, Duplicate, Edit, Merge, Note, Reconcile, Register, Remove, Copy, copy_in, living, is_of, IsAccepted, Cause, OutOfMemory, same_place}
use Rattle.pana_calls.specs.declared.call.Sighting.{Sighting}
use Rattle.pana_calls.specs.declared.call.Sighting.TheVariants.{Found, Missing}
use Rattle.pana_calls.specs.declared.call.Call.TheVariants as calls
use Rattle.pana_hall.specs.declared.decision.Decision.{Decision}
use Rattle.pana_hall.specs.declared.decision.Decision.TheVariants.{Known, One, Both}
use Rattle.pana_hall.specs.declared.planning.Plan.{Plan}
use Rattle.pana_calls.specs.declared.reply.Reply.{Reply}
use Rattle.pana_calls.specs.declared.reply.Reply.TheVariants as replies
use Rattle.pana_event.specs.declared.rel.Rel.TheVariants as rels
use Rattle.pana_hall.specs.Living.{sum_of}
use Rattle.pana_hall.specs.Finding.{best, decision, elsewhere, first_or, found, found_again, found_new, heir_of, holds, holds_other, missing, others, relates_to}
use Rattle.pana_hall.specs.Permit.{Permits, PermitsBy, after_decision, journal_after, reply_of}
use Rattle.pana_hall.specs.Prepared.{AnswersAt, Prepares}
use Rattle.pana_hall.specs.Refusal.{decision_refusal, refusal}
use Rattle.pana_hall.specs.inner.Next.{AreTwo}
use Rattle.pana_hall.specs.inner.Plan.{IsPlanOf, Refuses, plan_view}
use Rattle.pana_hall.proofs.Lists.{each_filter, found_by}
use Rattle.pana_hall.proofs.Places.{living_found}
use Rattle.pana_hall.proofs.Sound.{accepted_is_sound}
use Rattle.pana_hall.proofs.Ready.{family_of}

-- Where two reports are decided on, they are Edits of two living copies of one family.

skip : {X : Type 0} (f : X → Report) (o : Option X) (last : Decision) (r s : Report) → first_or last (option_map (λ x. One (f x)) o ∷ []) ≡ Both r s → last ≡ Both r s
skip f None last r s is = is
skip f (Some x) last r s is = absurd (cc)

at_both : {X : Type 0} (b : Bool) (o : Option X) (f : X → Report) (g note last r s : Report) → first_or (One last) (option_and_then (λ x. then_some b (Both (f x) g)) o ∷ then_some b (One note) ∷ []) ≡ Both r s
    → (x : X) × (o ≡ Some x) × (r ≡ f x) × (s ≡ g)
at_both false None f g note last r s is = absurd (cc)
at_both true None f g note last r s is = absurd (cc)
at_both false (Some x) f g note last r s is = absurd (cc)
at_both true (Some x) f g note last r s is = (x, refl, cc, cc)

both_from : (newer conflict : Option Copy) (held : Bool) (source : Option Copy) (alone : Bool) (unlike : Option Copy) (unknown : Bool) (n : ℕ) (sum : List ℕ) (r s : Report)
    → first_or (One (Edit n (Some sum))) (
    option_map (λ other. One (Reconcile n other.known.copy (Some sum))) newer
    ∷ option_map (λ other. One (Merge n other.known.copy (Some sum))) conflict
    ∷ then_some held (Known (Some n))
    ∷ option_and_then (λ other. then_some alone (One (Remove n None))) source
    ∷ option_and_then (λ (other : Copy). then_some unknown (Both (Edit other.known.copy (sum_of other)) (Edit n (Some sum)))) unlike
    ∷ then_some unknown (One (Note n sum))
    ∷ []
    ) ≡ Both r s
    → (x : Copy) × (unlike ≡ Some x) × (r ≡ Edit x.known.copy (sum_of x)) × (s ≡ Edit n (Some sum))
both_from (Some x) conflict held source alone unlike unknown n sum r s is = absurd (cc)
both_from None (Some x) held source alone unlike unknown n sum r s is = absurd (cc)
both_from None None true source alone unlike unknown n sum r s is = absurd (cc)
both_from None None false (Some y) true unlike unknown n sum r s is = absurd (cc)
both_from None None false (Some y) false unlike unknown n sum r s is = at_both unknown unlike (λ x. Edit x.known.copy (sum_of x)) (Edit n (Some sum)) (Note n sum) (Edit n (Some sum)) r s is
both_from None None false None alone unlike unknown n sum r s is = at_both unknown unlike (λ x. Edit x.known.copy (sum_of x)) (Edit n (Some sum)) (Note n sum) (Edit n (Some sum)) r s is

abbrev is_none_of : List Copy → Bool
is_none_of [] = true
is_none_of (c ∷ copies) = false

-- a copy that was chosen among those that pass a test
found_in : (p q : Copy → Bool) (copies : List Copy) (x : Copy) → find p (filter q copies) ≡ Some x → q x ≡ true
found_in p q copies x is = (found_by p (λ c. q c ≡ true) (filter q copies) x (passed q copies) is).1
  where
    passed : (q : Copy → Bool) (xs : List Copy) → AllByRecursion (λ c. q c ≡ true) (filter q xs)
    passed q [] = tt
    passed q (y ∷ ys) = elim (q y) as (λ b. q y ≡ b → AllByRecursion (λ c. q c ≡ true) (cond b (y ∷ filter q ys) (filter q ys))) [
      | true ↦ λ e. (e, passed q ys)
      | false ↦ λ e. passed q ys
    ] refl

record IsBoth (copies : List Copy) (r s : Report) : Type 0 where
  copy : Copy
  other : Copy
  sum : List ℕ
  lives : copy_in copies copy.known.copy ≡ Some copy
  other_lives : copy_in copies other.known.copy ≡ Some other
  first : r ≡ Edit other.known.copy (sum_of other)
  second : s ≡ Edit copy.known.copy (Some sum)
  family : is_of copy.family other ≡ true
  apart : (other.known.copy == copy.known.copy) ≡ false

and_parts : (a b : Bool) → (a && not b) ≡ true → (a ≡ true) × (b ≡ false)
and_parts true false is = (refl, refl)
and_parts true true is = absurd (cc)
and_parts false b is = absurd (cc)

both_again : (copies : List Copy) (sum : List ℕ) (copy : Copy) (r s : Report) → AllByRecursion (λ c. copy_in copies c.known.copy ≡ Some c) copies → copy_in copies copy.known.copy ≡ Some copy → found_again copies sum copy ≡ Both r s → IsBoth copies r s
both_again copies sum copy r s each lives is =
    let with : List Copy = filter (holds sum) (others copies copy) in
    let chosen =
    both_from (best (filter (relates_to rels.Newer copy) with)) (best (filter (relates_to rels.Conflict copy) with)) (holds sum copy) (best (elsewhere copies copy.place sum)) (is_none_of (others copies copy))
    (find (λ other. relates_to rels.Equal copy other && holds_other sum other) (others copies copy)) (is_none (sum_of copy)) copy.known.copy sum r s is in
    let parts = and_parts _ _ (found_in _ (λ other. is_of copy.family other && not (other.known.copy == copy.known.copy)) copies chosen.0 chosen.1) in
    record {
      copy = copy;
      other = chosen.0;
      sum = sum;
      lives = lives;
      other_lives = (found_by _ (λ c. copy_in copies c.known.copy ≡ Some c) (others copies copy) chosen.0 (each_filter (λ c. copy_in copies c.known.copy ≡ Some c) _ copies each) chosen.1).1;
      first = chosen.2;
      second = chosen.3;
      family = parts.0;
      apart = parts.1;
    }

both_of : (copies : List Copy) (sighting : Sighting) (r s : Report) → AllByRecursion (λ c. copy_in copies c.known.copy ≡ Some c) copies → decision copies sighting ≡ Both r s → IsBoth copies r s
unfolding found missing
both_of copies (Found place sum) r s each is = by_copy (find (λ copy. same_place copy.place place) copies) refl is
  where
    by_copy : (o : Option Copy) → find (λ copy. same_place copy.place place) copies ≡ o → unwrap_or (option_map (found_again copies sum) o) (found_new copies place sum) ≡ Both r s → IsBoth copies r s
    by_copy None e is = absurd (let none = skip (λ (source : Copy). Duplicate source.known.copy place (Some sum)) (best (elsewhere copies place sum)) (One (Register place (Some sum))) r s is in cc)
    by_copy (Some x) e is = both_again copies sum x r s each (found_by _ (λ c. copy_in copies c.known.copy ≡ Some c) copies x each e).1 is
both_of copies (Missing place) r s each is = absurd (by_copy (λ copy. Remove copy.known.copy (heir_of copies copy)) (find (λ copy. same_place copy.place place) copies) is)
  where
    by_copy : (f : Copy → Report) (o : Option Copy) → unwrap_or (option_map (λ copy. One (f copy)) o) (Known None) ≡ Both r s → ⊥
    by_copy f None is = cc
    by_copy f (Some x) is = cc

pub are_two : (journal : List Entry) (sighting : Sighting) (r s : Report) → IsAccepted 8 journal → Both r s ≡ decision (living journal) sighting → AreTwo journal r s
are_two journal sighting r s accepted is =
    let both = both_of (living journal) sighting r s (living_found 8 journal accepted) (sym is) in
    let sound = accepted_is_sound 8 journal accepted in
    record {
      a = both.other.known.copy;
      b = both.copy.known.copy;
      first_sum = sum_of both.other;
      second_sum = Some both.sum;
      first_is = both.first;
      second_is = both.second;
      other = λ h. let same = eq-eqb both.other.known.copy both.copy.known.copy h in let odd : true ≡ false = sym same ∙ both.apart in absurd (cc);
      first_lives = subst IsSome (sym both.other_lives) refl;
      second_lives = subst IsSome (sym both.lives) refl;
      family = sym (family_of journal both.other.known.copy both.other sound both.other_lives) ∙ eqb-true both.other.family both.copy.family both.family ∙ family_of journal both.copy.known.copy both.copy sound both.lives;
    }

-- What is decided is done.

pub plan_prepares : (journal : List Entry) (by : List ℕ) (sighting : Sighting) (d : Decision) (plan : Plan) → d ≡ decision (living journal) sighting → ((copy : Option ℕ) → d ≡ Known copy → ⊥) → IsPlanOf journal by d plan
    → Prepares journal by (calls.Sighting sighting) (plan_view journal plan)
unfolding Permits journal_after refusal
plan_prepares journal by sighting d plan is unknown made = record {
  journal = refl;
  permitted = subst (λ o. PermitsBy o journal (calls.Sighting sighting) plan.reply) (sym free) (inl (made.reply ∙ ap (reply_of journal) is));
  entries = ap (journal_after journal by (calls.Sighting sighting)) made.reply ∙ after d is unknown ∙ made.entries;
  free = free;
}
  where
    free : decision_refusal 8 journal by (decision (living journal) sighting) ≡ None
    free = ap (decision_refusal 8 journal by) (sym is) ∙ made.free

    after : (e : Decision) → e ≡ decision (living journal) sighting → ((copy : Option ℕ) → e ≡ Known copy → ⊥) → journal_after journal by (calls.Sighting sighting) (reply_of journal e) ≡ after_decision journal by e
    after (Known copy) same never = absurd (never copy refl)
    after (One report) same never = ap (after_decision journal by) (sym same)
    after (Both report second) same never = ap (after_decision journal by) (sym same)

-- where it is known, or refused, nothing changes
pub known_answers : (journal : List Entry) (by : List ℕ) (sighting : Sighting) (copy : Option ℕ) → Known copy ≡ decision (living journal) sighting → AnswersAt journal by (calls.Sighting sighting) (replies.Known copy)
unfolding Permits journal_after refusal
known_answers journal by sighting copy is = record {
  permitted = subst (λ o. PermitsBy o journal (calls.Sighting sighting) (replies.Known copy)) (ap (decision_refusal 8 journal by) is) (inl (ap (reply_of journal) is));
  same = refl;
}

pub refused_answers : (journal : List Entry) (by : List ℕ) (sighting : Sighting) (d : Decision) (reply : Reply) → d ≡ decision (living journal) sighting → Refuses journal by d reply → AnswersAt journal by (calls.Sighting sighting) reply
unfolding Permits journal_after refusal
refused_answers journal by sighting d reply is refuses = record {
  permitted = subst (λ r. PermitsBy (decision_refusal 8 journal by (decision (living journal) sighting)) journal (calls.Sighting sighting) r) (sym refuses.is)
      (elim refuses.why [
        | inl stands ↦ subst (λ o. PermitsBy o journal (calls.Sighting sighting) (replies.Refused refuses.cause)) (sym (ap (decision_refusal 8 journal by) (sym is) ∙ stands)) (inl refl)
        | inr short ↦ subst (λ o. PermitsBy o journal (calls.Sighting sighting) (replies.Refused refuses.cause)) (sym (ap (decision_refusal 8 journal by) (sym is) ∙ short.0)) (inr (refuses.cause, short.1, refl))
      ]);
  same = ap (journal_after journal by (calls.Sighting sighting)) refuses.is;
}

-- memory may run out before it is decided
pub short_answers : (journal : List Entry) (by : List ℕ) (sighting : Sighting) → AnswersAt journal by (calls.Sighting sighting) (replies.Refused OutOfMemory)
unfolding Permits journal_after refusal
short_answers journal by sighting = record { permitted = by_cause (decision_refusal 8 journal by (decision (living journal) sighting)); same = refl }
  where
    by_cause : (o : Option Cause) → PermitsBy o journal (calls.Sighting sighting) (replies.Refused OutOfMemory)
    by_cause None = inr (OutOfMemory, refl, refl)
    by_cause (Some cause) = inr refl
