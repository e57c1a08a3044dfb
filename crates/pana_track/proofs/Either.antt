-- Calls that report what was noticed, by rounds or not.
use Rattle.std.proofs.Common.{Result, Ok, Err, IfOk, OnErr, ◌≡◌, ℕ, List, [], ◌∷◌, ◌++◌, length, Option, inl, inr, Bool, true, false, sym, subst, append-nil, arith}
use Rattle.pana_calls.specs.Session.{one}
use Rattle.pana_calls.specs.declared.call.Call.{Call}
use Rattle.pana_calls.specs.declared.answer.Answer.{Answer}
use Rattle.pana_calls.specs.declared.answer.NoAnswer.{NoAnswer}
use Rattle.pana_calls.specs.declared.message.Message.{Message}
use Rattle.pana_scan.specs.declared.notices.Notice.{Notice}
use Rattle.pana_track.specs.declared.fault.TrackFault.{TrackFault}
use Rattle.pana_track.specs.declared.tally.TrackTally.{TrackTally}
use Rattle.pana_track.specs.Calls.{Asked, asked}
use Rattle.pana_track.specs.Reports.{Reports, ReportsBy}
use Rattle.pana_track.specs.inner.Reporting.{BreaksOff, ReportsAll}
use Rattle.pana_track.specs.inner.Rounds.{BreaksOffBy, BreaksRounds, MakesRounds, ReportsAllBy}

-- one after another is always right
pub in_turn : (together : Bool) (device : List ℕ) (notices : List Notice) (made : List Asked) (stop : Option TrackFault) → Reports 999 device notices made stop → ReportsBy together device notices made stop
in_turn true device notices made stop is = inl is
in_turn false device notices made stop is = is

-- one call that was answered
pub asked_one : (message : Message) (P : List Asked → Type 0) (answers : List Answer) → length answers ≡ 1 → ((answer : Answer) → P (record { by = message.by; call = message.call; answer = answer } ∷ [])) → P (asked (message ∷ []) answers)
asked_one message P [] many all = absurd (omega (arith, many))
asked_one message P (answer ∷ []) many all = all answer
asked_one message P (answer ∷ other ∷ answers) many all = absurd (omega (arith, many))

module _ {S : Type 0} (step : S → List ℕ → Call → Answer → S → Type 0) (device : List ℕ) (notices : List Notice) (old new : S) (before after : TrackTally) where
  turn_made : (together : Bool) (stop : Option TrackFault) → ReportsAll step device notices old new before after stop → ReportsAllBy step device notices old new before after together stop
  turn_made together stop all = record { made = all.made; calls = all.calls; are = in_turn together device notices all.made stop all.are; tally = all.tally }

  turn_breaks : (together : Bool) (fails : S → List Message → S → Type 0) → BreaksOff step (one fails) device notices old new before after → BreaksOffBy step device notices old new before after together fails
  turn_breaks false fails off = off
  turn_breaks true fails off = record {
    made = off.made;
    mid = off.mid;
    messages = message ∷ [];
    calls = off.calls;
    next = λ answers many. (
      [],
      subst (λ (more : List Asked). (stop : Option TrackFault) × ReportsBy true device notices (off.made ++ more) stop) (sym (append-nil (asked (message ∷ []) answers)))
          (asked_one message (λ (more : List Asked). (stop : Option TrackFault) × ReportsBy true device notices (off.made ++ more) stop) answers many (λ answer. let so = off.next answer in (so.0, inl so.1))),
    );
    failed = off.failed;
    tally = off.tally;
  } where
    message : Message
    message = record { by = device; call = off.call }

  rounds_made : (together : Bool) → together ≡ true → (stop : Option TrackFault) → MakesRounds step device notices old new before after stop → ReportsAllBy step device notices old new before after together stop
  rounds_made together is stop all = record { made = all.made; calls = all.calls; are = subst (λ (b : Bool). ReportsBy b device notices all.made stop) (sym is) (inr all.are); tally = all.tally }

  rounds_break : (together : Bool) → together ≡ true → (fails : S → List Message → S → Type 0) → BreaksRounds step device notices old new before after fails → BreaksOffBy step device notices old new before after together fails
  rounds_break together is fails off = subst (λ (b : Bool). BreaksOffBy step device notices old new before after b fails) (sym is) (record {
    made = off.made;
    mid = off.mid;
    messages = off.messages;
    calls = off.calls;
    next = λ answers many. let so = off.next answers many in (so.0, (so.1.0, inr so.1.1));
    failed = off.failed;
    tally = off.tally;
  })

  module _ (together : Bool) (result : Result (Option TrackFault) NoAnswer) where
    pub if_turn : IfOk result (ReportsAll step device notices old new before after) → IfOk result (ReportsAllBy step device notices old new before after together)
    if_turn all = by result all where
      by : (r : Result (Option TrackFault) NoAnswer) → IfOk r (ReportsAll step device notices old new before after) → IfOk r (ReportsAllBy step device notices old new before after together)
      by (Ok stop) is = turn_made together stop is
      by (Err none) is = tt

    pub if_turn_broken : (fails : S → List Message → S → Type 0) → OnErr result (BreaksOff step (one fails) device notices old new before after) → OnErr result (BreaksOffBy step device notices old new before after together fails)
    if_turn_broken fails off = by result off where
      by : (r : Result (Option TrackFault) NoAnswer) → OnErr r (BreaksOff step (one fails) device notices old new before after) → OnErr r (BreaksOffBy step device notices old new before after together fails)
      by (Ok stop) is = tt
      by (Err none) is = turn_breaks together fails is

    pub if_rounds : together ≡ true → IfOk result (MakesRounds step device notices old new before after) → IfOk result (ReportsAllBy step device notices old new before after together)
    if_rounds keeps all = by result all where
      by : (r : Result (Option TrackFault) NoAnswer) → IfOk r (MakesRounds step device notices old new before after) → IfOk r (ReportsAllBy step device notices old new before after together)
      by (Ok stop) is = rounds_made together keeps stop is
      by (Err none) is = tt

    pub if_rounds_broken : together ≡ true → (fails : S → List Message → S → Type 0) → OnErr result (BreaksRounds step device notices old new before after fails) → OnErr result (BreaksOffBy step device notices old new before after together fails)
    if_rounds_broken keeps fails off = by result off where
      by : (r : Result (Option TrackFault) NoAnswer) → OnErr r (BreaksRounds step device notices old new before after fails) → OnErr r (BreaksOffBy step device notices old new before after together fails)
      by (Ok stop) is = tt
      by (Err none) is = rounds_break together keeps fails is
