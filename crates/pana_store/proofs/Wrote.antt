-- What a session wrote whose calls are settled in groups, however it ended.
use Rattle.std.proofs.Common.{◌≡◌, ℕ, Bool, List, [], ◌++◌, ◌⊎◌, inl, inr, Option, Result, Ok, Err, IfOk, IfErr, refl, sym, subst, append-nil, false}
use Rattle.pana_calls.specs.Session.{alone}
use Rattle.pana_calls.specs.declared.call.Call.{Call}
use Rattle.pana_calls.specs.declared.answer.Answer.{Answer}
use Rattle.pana_wire.specs.declared.tap.Tap.{Tap}
use Rattle.pana_wire.specs.declared.serving.Served.{Served}
use Rattle.pana_wire.specs.declared.serving.ServeFault.{ServeFault}
use Rattle.pana_wire.specs.declared.serving.ServeFault.TheVariants.{Read, Write, OutOfMemory, NoAnswer, Turns}
use Rattle.pana_wire.specs.Groups.{AnswersGroups, AnswersAll, BreaksGroup, BreaksAmong, EndsGroupsBy, ServesGroups, StopsGroups}
use Rattle.pana_wire.specs.Lines.{ended, lines_of}
use Rattle.pana_wire.specs.Session.{NeverBegins, lines_come}
use Rattle.pana_wire.specs.Tap.{Note, IsNoted}
use Rattle.pana_wire.proofs.Notes.{none_noted}

module _ {W S : Type 0} (contents : W → Option (List ℕ)) (step : S → List ℕ → Call → Answer → S → Type 0) (fails : S → List ℕ → Call → S → Type 0) (settles off : S → S → Type 0) (moment : S → ℕ) (a b : Tap W) where
  -- groups of answers, and then what is written of one more
  pub record Wrote (old new : S) : Type 0 where
    pub groups : List (List (List ℕ))
    pub others : List (List ℕ)
    pub whole : List Note
    pub part : List Note
    pub last : S
    pub steps : ℕ
    pub notes : IsNoted contents a b (whole ++ part)
    pub answers : AnswersGroups step settles moment old groups whole last steps
    pub ends : ((part ≡ []) × (new ≡ last)) ⊎ ((fault : ServeFault) × BreaksGroup step false (alone fails) settles off moment fault last others part new)

  wrote_all : (old : S) (lines : List (List ℕ)) (notes : List Note) (new : S) (n : ℕ) → IsNoted contents a b notes → AnswersAll step settles moment old lines notes new n → Wrote old new
  wrote_all old lines notes new n noted (groups, split, answers) = record {
    groups = groups;
    others = [];
    whole = notes;
    part = [];
    last = new;
    steps = n;
    notes = subst (IsNoted contents a b) (sym (append-nil notes)) noted;
    answers = answers;
    ends = inl (refl, refl);
  }

  wrote_among : (fault : ServeFault) (old : S) (lines : List (List ℕ)) (notes : List Note) (new : S) → IsNoted contents a b notes → BreaksAmong step false (alone fails) settles off moment fault old lines notes new → Wrote old new
  wrote_among fault old lines notes new noted p = record {
    groups = p.groups;
    others = p.others;
    whole = p.whole;
    part = p.part;
    last = p.last;
    steps = p.steps;
    notes = subst (IsNoted contents a b) p.noted noted;
    answers = p.answers;
    ends = inr (fault, p.breaks);
  }

  wrote_ends : (fault : ServeFault) (met : Bool) (old : S) (input : List ℕ) (notes : List Note) (new : S) → IsNoted contents a b notes → EndsGroupsBy step false (alone fails) settles off moment fault met old input notes new → Wrote old new
  wrote_ends Read met old input notes new noted (n, all) = wrote_all old (ended [] input) notes new n noted all
  wrote_ends Write met old input notes new noted p = wrote_among Write old (lines_come met input) notes new noted p
  wrote_ends OutOfMemory met old input notes new noted p = wrote_among OutOfMemory old (lines_come met input) notes new noted p
  wrote_ends NoAnswer met old input notes new noted p = wrote_among NoAnswer old (lines_come met input) notes new noted p
  wrote_ends Turns met old input notes new noted (n, all) = wrote_all old (ended [] input) notes new n noted all

  wrote_nothing : (old new : S) → b ≡ a → new ≡ old → IsNoted contents a a [] → Wrote old new
  wrote_nothing old new same still none = record {
    groups = [];
    others = [];
    whole = [];
    part = [];
    last = new;
    steps = 0;
    notes = subst (λ (t : Tap W). IsNoted contents a t []) (sym same) none;
    answers = (refl, still, refl);
    ends = inl (refl, refl);
  }

  wrote_stopped : {R : Type 0} (remaining : R → Option (List ℕ)) (most : ℕ) (r s : Tap R) (old new : S) (fault : ServeFault)
      → NeverBegins r s a b old new fault ⊎ StopsGroups remaining contents step false (alone fails) settles off moment most r s a b old new fault → Wrote old new
  wrote_stopped remaining most r s old new fault (inl never) = wrote_nothing old new never.writer never.session (none_noted contents a)
  wrote_stopped remaining most r s old new fault (inr stops) = wrote_ends fault _ old stops.input stops.notes new stops.writes stops.ends

  pub wrote : {R : Type 0} (remaining : R → Option (List ℕ)) (most : ℕ) (r s : Tap R) (old new : S) (result : Result Served ServeFault) → IfOk result (ServesGroups remaining contents step settles moment r s a b old new)
      → IfErr result (λ fault. NeverBegins r s a b old new fault ⊎ StopsGroups remaining contents step false (alone fails) settles off moment most r s a b old new fault) → Wrote old new
  wrote remaining most r s old new (Ok served) p q = wrote_all old (lines_of p.input) p.notes new served.calls p.writes p.answers
  wrote remaining most r s old new (Err fault) p q = wrote_stopped remaining most r s old new fault q
