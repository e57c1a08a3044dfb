-- Sessions: what is kept over a run of calls.
use Rattle.std.proofs.Common.{◌≡◌, ◌⊎◌, inl, inr, ℕ, ◌+◌, length, Bool, IsTrue, List, [], ◌∷◌, ◌++◌, Result, Err, refl, sym, ◌∙◌, ap, subst, append_assoc}
use Rattle.std.specs.Prelude.{IfErr}
use Rattle.std.proofs.lemmas.List.{append-nil}
use Rattle.pana_journal.specs.declared.entry.Entry.{Entry}
use Rattle.pana_calls.specs.declared.call.Call.{Call}
use Rattle.pana_calls.specs.declared.call.Call.TheVariants as calls
use Rattle.pana_calls.specs.declared.reply.Reply.{Reply}
use Rattle.pana_calls.specs.declared.reply.Reply.TheVariants as replies
use Rattle.pana_hall.specs.declared.decision.Decision.{Decision}
use Rattle.pana_hall.specs.declared.decision.Decision.TheVariants as decisions
use Rattle.pana_hall.specs.Finding.{decision}
use Rattle.pana_hall.specs.Living.{living}
use Rattle.pana_hall.specs.Permit.{journal_after, after_decision}
use Rattle.pana_hall.specs.Refusal.{with_report}
use Rattle.pana_log.specs.declared.log_state.LogState.TheVariants.{Open}
use Rattle.pana_calls.specs.declared.answer.Answer.{Answer}
use Rattle.pana_calls.specs.declared.answer.Answer.TheVariants.{Given, NotKept}
use Rattle.pana_hall.specs.Step.{Steps}
use Rattle.pana_store.specs.Store.{Becomes}

-- what is done of a sighting adds one entry, or two, or none
decided_grows : (journal : List Entry) (by : List ℕ) (decision : Decision) → (some : List Entry) × (after_decision journal by decision ≡ journal ++ some)
decided_grows journal by (decisions.Known copy) = ([], sym (append-nil journal))
decided_grows journal by (decisions.One report) = (record { number = length journal + 1; by = by; report = report } ∷ [], refl)
decided_grows journal by (decisions.Both report second) =
    let next : Entry = record { number = length journal + 1; by = by; report = report } in
    let last : Entry = record { number = length (with_report journal by report) + 1; by = by; report = second } in
    (next ∷ last ∷ [], append_assoc journal (next ∷ []) (last ∷ []))

pub after_grows : (journal : List Entry) (by : List ℕ) (call : Call) (reply : Reply) → (some : List Entry) × (journal_after journal by call reply ≡ journal ++ some)
unfolding journal_after
after_grows journal by (calls.Report report) (replies.Done n) = (record { number = n; by = by; report = report } ∷ [], refl)
after_grows journal by (calls.Sighting sighting) (replies.Did kind n) = decided_grows journal by (decision (living journal) sighting)
after_grows journal by call reply = ([], sym (append-nil journal))

-- a call that is answered leaves the entries, or some more
pub becomes_grows : (old : List Entry) (by : List ℕ) (call : Call) (answer : Answer) (new : List Entry) → Becomes old by call answer new → (some : List Entry) × (new ≡ old ++ some)
becomes_grows old by call (Given reply) new steps = let after = after_grows old by call reply in (after.0, steps.1 ∙ after.1)
becomes_grows old by call NotKept new not = ([], not.3 ∙ sym (append-nil old))

pub at_err : {X E : Type 0} (r : Result X E) (e : E) (Q : E → Type 0) → r ≡ Err e → IfErr r Q → Q e
at_err {X = X} {E = E} r e Q is holds = subst (λ (x : Result X E). IfErr x Q) is holds
