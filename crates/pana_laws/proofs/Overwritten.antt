-- Whether a hall says that a copy may be overwritten.
use Rattle.std.proofs.Common.{◌≡◌, ◌↔◌, ℕ, Bool, true, false, not, List, [], ◌∷◌, Option, Some, None, cond, is_none, option_and_then, option_map, unwrap_or, refl, sym, ap, ap₂, subst, ◌∙◌, inl, inr}
use Rattle.std.proofs.lemmas.Bool.{eq-eqb, eqb-true}
use Rattle.std.specs.Bool.{then_some}
use Rattle.pana_copies.specs.Places.{same_place}
use Rattle.pana_copies.specs.declared.place.Place.{Place}
use Rattle.pana_event.specs.declared.rel.Rel.TheVariants as rels
use Rattle.pana_journal.specs.declared.entry.Entry.{Entry}
use Rattle.pana_calls.specs.declared.answer.Answer.{Answer}
use Rattle.pana_calls.specs.declared.answer.Answer.TheVariants.{Given, NotKept}
use Rattle.pana_calls.specs.declared.call.Call.TheVariants as calls
use Rattle.pana_calls.specs.declared.call.Query.{Query}
use Rattle.pana_calls.specs.declared.cause.Cause.{Cause}
use Rattle.pana_calls.specs.declared.cause.Cause.TheVariants as causes
use Rattle.pana_calls.specs.declared.reply.Reply.{Reply}
use Rattle.pana_calls.specs.declared.reply.Reply.TheVariants as replies
use Rattle.pana_calls.specs.declared.standing.CopyStanding.{CopyStanding}
use Rattle.pana_family.specs.Relation.{relation}
use Rattle.pana_family.specs.Updates.{is_within}
use Rattle.pana_hall.specs.Accepted.{IsAccepted}
use Rattle.pana_hall.specs.Board.{is_of}
use Rattle.pana_hall.specs.Living.{Copy, copy_in, known_to, living, number_of}
use Rattle.pana_hall.specs.Permit.{Permits, PermitsBy, journal_after}
use Rattle.pana_hall.specs.Refusal.{first, refusal}
use Rattle.pana_hall.specs.Status.{standing_of, standing_at}
use Rattle.pana_hall.specs.Step.{Replies}
use Rattle.pana_hall.proofs.Lists.{found_by}
use Rattle.pana_hall.proofs.Places.{living_found}
use Rattle.pana_ask.specs.Looking.{LooksUp, at, found_in}
use Rattle.pana_ask.specs.Verdict.{Judges, pair, verdict_in}
use Rattle.pana_ask.specs.declared.verdict.Verdict.{Verdict}
use Rattle.pana_ask.specs.declared.verdict.Verdict.TheVariants.{Yes, Newer, Conflict, Unrelated}
use Rattle.pana_laws.specs.Overwrite.{LosesNothing, copy_at}

-- a question leaves the journal
asked : (journal : List Entry) (by : List ℕ) (query : Query) (reply : Reply) → journal_after journal by (calls.Query query) reply ≡ journal
unfolding journal_after
asked journal by query (replies.Done entry) = refl
asked journal by query (replies.Did kind entry) = refl
asked journal by query (replies.Known copy) = refl
asked journal by query (replies.Families rows) = refl
asked journal by query (replies.Board board) = refl
asked journal by query (replies.Stamps stamps) = refl
asked journal by query (replies.Pair rel) = refl
asked journal by query (replies.Holdings holdings) = refl
asked journal by query (replies.At standing) = refl
asked journal by query (replies.Status rows) = refl
asked journal by query (replies.Journal entries) = refl
asked journal by query (replies.Counts counts) = refl
asked journal by query (replies.Refused cause) = refl

-- so it does as a session's step
left : (journal new : List Entry) (by : List ℕ) (query : Query) (answer : Answer) → Replies journal by (calls.Query query) answer new → new ≡ journal
left journal new by query (Given reply) steps = steps.1 ∙ asked journal by query reply
left journal new by query NotKept steps = absurd steps

-- ---- the copies at places

-- the number of a standing copy
standing_number : (copies : List Copy) (copy : Copy) → (standing_of copies copy).copy ≡ number_of copy
unfolding standing_of
standing_number copies copy = refl

-- what stands at a place is the copy there
number_at : (copies : List Copy) (found : Option Copy) (n : ℕ) → option_map (λ (standing : CopyStanding). standing.copy) (option_map (standing_of copies) found) ≡ Some n
    → (copy : Copy) × (found ≡ Some copy) × (number_of copy ≡ n)
number_at copies None n is = absurd (cc)
number_at copies (Some copy) n is = let same = standing_number copies copy in (copy, refl, cc)

granted_at : (journal : List Entry) (by : List ℕ) (place : Place) (standing : Option CopyStanding) → Permits journal by (at place) (replies.At standing) → standing ≡ standing_at (living journal) place
unfolding Permits refusal
granted_at journal by place standing (inl grants) = cc
granted_at journal by place standing (inr short) = absurd (let is = short.2 in cc)

-- the copy that is found at a place
found_copy : (journal new : List Entry) (by : List ℕ) (place : Place) (n : ℕ) (answer : Answer) → Replies journal by (at place) answer new → found_in answer ≡ Some (Some n)
    → (copy : Copy) × (copy_at (living journal) place ≡ Some copy) × (number_of copy ≡ n)
found_copy journal new by place n (Given (replies.At standing)) steps is =
    let granted = granted_at journal by place standing steps.0 in
    number_at (living journal) (copy_at (living journal) place) n (ap (option_map (λ (s : CopyStanding). s.copy)) (sym granted) ∙ (cc))
found_copy journal new by place n (Given (replies.Done entry)) steps is = absurd (cc)
found_copy journal new by place n (Given (replies.Did kind entry)) steps is = absurd (cc)
found_copy journal new by place n (Given (replies.Known copy)) steps is = absurd (cc)
found_copy journal new by place n (Given (replies.Families rows)) steps is = absurd (cc)
found_copy journal new by place n (Given (replies.Board board)) steps is = absurd (cc)
found_copy journal new by place n (Given (replies.Stamps stamps)) steps is = absurd (cc)
found_copy journal new by place n (Given (replies.Pair rel)) steps is = absurd (cc)
found_copy journal new by place n (Given (replies.Holdings holdings)) steps is = absurd (cc)
found_copy journal new by place n (Given (replies.Status rows)) steps is = absurd (cc)
found_copy journal new by place n (Given (replies.Journal entries)) steps is = absurd (cc)
found_copy journal new by place n (Given (replies.Counts counts)) steps is = absurd (cc)
found_copy journal new by place n (Given (replies.Refused cause)) steps is = absurd (cc)
found_copy journal new by place n NotKept steps is = absurd (cc)

-- the copy there is the one that lives under its number
lives : (journal : List Entry) (place : Place) (copy : Copy) → IsAccepted 8 journal → copy_at (living journal) place ≡ Some copy → copy_in (living journal) (number_of copy) ≡ Some copy
lives journal place copy accepted is =
    (found_by (λ (c : Copy). same_place c.place place) (λ (c : Copy). copy_in (living journal) (number_of c) ≡ Some c) (living journal) copy (living_found 8 journal accepted) is).1

-- ---- how they relate

-- the verdict on two copies, by whether they are of one family and what they know
abbrev judged : Bool → Bool → Bool → Verdict
judged false within back = Unrelated
judged true true back = Yes
judged true false true = Newer
judged true false false = Conflict

by_tests : (v w : Bool) (verdict : Verdict) → verdict_in (Given (replies.Pair (cond v (cond w rels.Equal rels.Older) (cond w rels.Newer rels.Conflict)))) ≡ Some verdict → verdict ≡ judged true v w
by_tests true true verdict is = cc
by_tests true false verdict is = cc
by_tests false true verdict is = cc
by_tests false false verdict is = cc

first_one : (cause : Option Cause) → first (cause ∷ []) ≡ cause
first_one None = refl
first_one (Some cause) = refl

module _ (journal : List Entry) (by : List ℕ) (a b : ℕ) (copy other : Copy) (found_a : copy_in (living journal) a ≡ Some copy) (found_b : copy_in (living journal) b ≡ Some other) where
  -- why it is refused to compare them
  cause_is : refusal journal by (pair a b) ≡ then_some (not (is_of copy.family other)) causes.OtherFamily
  unfolding refusal
  cause_is = by_found (copy_in (living journal) a) (copy_in (living journal) b) found_a found_b where
    by_found : (x y : Option Copy) → x ≡ Some copy → y ≡ Some other
        → first (then_some (is_none x) (causes.UnknownCopy a) ∷ then_some (is_none y) (causes.UnknownCopy b)
        ∷ option_and_then (λ (c : Copy). option_and_then (λ (d : Copy). then_some (not (is_of c.family d)) causes.OtherFamily) y) x ∷ []) ≡ then_some (not (is_of copy.family other)) causes.OtherFamily
    by_found x y is_x is_y = rw (is_x, is_y) (first_one (then_some (not (is_of copy.family other)) causes.OtherFamily))

  set_a : known_to (living journal) a ≡ copy.known.set
  set_a = ap (λ (o : Option Copy). unwrap_or (option_map (λ (c : Copy). c.known.set) o) []) found_a

  set_b : known_to (living journal) b ≡ other.known.set
  set_b = ap (λ (o : Option Copy). unwrap_or (option_map (λ (c : Copy). c.known.set) o) []) found_b

  -- what a reply says that is permitted
  by_family : (same : Bool) (reply : Reply) (verdict : Verdict) → PermitsBy (then_some (not same) causes.OtherFamily) journal (pair a b) reply → verdict_in (Given reply) ≡ Some verdict
      → verdict ≡ judged same (is_within copy.known.set other.known.set) (is_within other.known.set copy.known.set)
  by_family false reply verdict refused says = let so : verdict_in (Given reply) ≡ Some Unrelated = ap (λ (r : Reply). verdict_in (Given r)) refused in cc
  by_family true reply verdict (inr short) says = absurd short.1
  by_family true reply verdict (inl grants) says =
      let rel : relation (known_to (living journal) a) (known_to (living journal) b) ≡ relation copy.known.set other.known.set = ap₂ relation set_a set_b in
      by_tests (is_within copy.known.set other.known.set) (is_within other.known.set copy.known.set) verdict
      (sym (ap (λ (r : Reply). verdict_in (Given r)) (grants ∙ ap replies.Pair rel)) ∙ says)

  verdict_is : (new : List Entry) (answer : Answer) (verdict : Verdict) → Replies journal by (pair a b) answer new → verdict_in answer ≡ Some verdict
      → verdict ≡ judged (is_of copy.family other) (is_within copy.known.set other.known.set) (is_within other.known.set copy.known.set)
  unfolding Permits
  verdict_is new (Given reply) verdict steps says =
      by_family (is_of copy.family other) reply verdict (subst (λ (cause : Option Cause). PermitsBy cause journal (pair a b) reply) cause_is steps.0) says
  verdict_is new NotKept verdict steps says = absurd steps

-- ---- the law

-- both copies, and what is answered of them
record Both (journal new : List Entry) (target source : Place) (verdict : Verdict) : Type 0 where
  copy : Copy
  other : Copy
  is_there : copy_at (living journal) target ≡ Some copy
  other_there : copy_at (living journal) source ≡ Some other
  is : verdict ≡ judged (is_of copy.family other) (is_within copy.known.set other.known.set) (is_within other.known.set copy.known.set)

both : (journal new : List Entry) (by : List ℕ) (target source : Place) (verdict : Verdict) → IsAccepted 8 journal → Judges Replies by target source journal new verdict → Both journal new target source verdict
both journal new by target source verdict accepted (answer, number, compares, says) =
    let (mid, looks, (next, looks_on, ends)) = compares.finds in
    let same : mid ≡ journal = left journal mid by _ looks.0 looks.1 in
    let on : LooksUp Replies by source journal (Some compares.other) next = subst (λ (j : List Entry). LooksUp Replies by source j (Some compares.other) next) same looks_on in
    let same_on : next ≡ journal = left journal next by _ on.0 on.1 in
    let at_end : compares.mid ≡ journal = ends ∙ same_on in
    let asks : Replies journal by (pair number compares.other) answer new = subst (λ (j : List Entry). Replies j by (pair number compares.other) answer new) at_end compares.asks in
    let (copy, there, number_is) = found_copy journal mid by target number looks.0 looks.1 looks.2 in
    let (other, other_there, other_is) = found_copy journal next by source compares.other on.0 on.1 on.2 in
    let found_a : copy_in (living journal) number ≡ Some copy = subst (λ (n : ℕ). copy_in (living journal) n ≡ Some copy) number_is (lives journal target copy accepted there) in
    let found_b : copy_in (living journal) compares.other ≡ Some other = subst (λ (n : ℕ). copy_in (living journal) n ≡ Some other) other_is (lives journal source other accepted other_there) in
    record {
      copy = copy;
      other = other;
      is_there = there;
      other_there = other_there;
      is = verdict_is journal by number compares.other copy other found_a found_b new answer verdict asks says;
    }

yes_needs : (same within back : Bool) → judged same within back ≡ Yes → (same ≡ true) × (within ≡ true)
yes_needs false within back is = absurd (cc)
yes_needs true true back is = (refl, refl)
yes_needs true false true is = absurd (cc)
yes_needs true false false is = absurd (cc)

pub yes_just_then : (journal new : List Entry) (by : List ℕ) (target source : Place) (verdict : Verdict) → IsAccepted 8 journal → Judges Replies by target source journal new verdict
    → (verdict ≡ Yes) ↔ LosesNothing (living journal) target source
yes_just_then journal new by target source verdict accepted judges = (forth, back) where
  b : Both journal new target source verdict
  b = both journal new by target source verdict accepted judges

  forth : verdict ≡ Yes → LosesNothing (living journal) target source
  forth may =
      let needs = yes_needs (is_of b.copy.family b.other) (is_within b.copy.known.set b.other.known.set) (is_within b.other.known.set b.copy.known.set) (sym b.is ∙ may) in
      record {
        copy = b.copy;
        other = b.other;
        is_there = b.is_there;
        other_there = b.other_there;
        one_file = sym (eqb-true b.other.family b.copy.family needs.0);
        within = needs.1;
      }

  back : LosesNothing (living journal) target source → verdict ≡ Yes
  back loses =
      let copy_is : loses.copy ≡ b.copy = let e = loses.is_there in let f = b.is_there in cc in
      let other_is : loses.other ≡ b.other = let e = loses.other_there in let f = b.other_there in cc in
      let family : is_of b.copy.family b.other ≡ true = eq-eqb b.other.family b.copy.family (sym (sym (ap (λ (c : Copy). c.family) copy_is) ∙ loses.one_file ∙ ap (λ (c : Copy). c.family) other_is)) in
      let within : is_within b.copy.known.set b.other.known.set ≡ true = sym (ap₂ (λ (c d : Copy). is_within c.known.set d.known.set) copy_is other_is) ∙ loses.within in
      b.is ∙ rw (family, within) refl

pub same_hall : (journal new : List Entry) (by : List ℕ) (target source : Place) (verdict : Verdict) → Judges Replies by target source journal new verdict → new ≡ journal
same_hall journal new by target source verdict (answer, number, compares, says) =
    let (mid, looks, (next, looks_on, ends)) = compares.finds in
    let same : mid ≡ journal = left journal mid by _ looks.0 looks.1 in
    let same_on : next ≡ mid = left mid next by _ looks_on.0 looks_on.1 in
    left compares.mid new by _ answer compares.asks ∙ ends ∙ same_on ∙ same
