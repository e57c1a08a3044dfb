-- What is to be done of a sighting, before it is done.
use Rattle.std.specs.Prelude.{◌≡◌, ◌⊎◌, ◌++◌, ℕ, List, Some, None, option_map}
use Rattle.pana_journal.specs.declared.entry.Entry.{Entry}
use Rattle.pana_calls.specs.declared.cause.Cause.{Cause}
use Rattle.pana_calls.specs.declared.cause.Cause.TheVariants.{OutOfMemory}
use Rattle.pana_hall.specs.declared.decision.Decision.{Decision}
use Rattle.pana_hall.specs.declared.planning.Plan.{Plan}
use Rattle.pana_calls.specs.declared.reply.Reply.{Reply}
use Rattle.pana_calls.specs.declared.reply.Reply.TheVariants.{Refused}
use Rattle.pana_hall.specs.Permit.{after_decision, reply_of}
use Rattle.pana_hall.specs.Prepared.{PreparedView, entries_of}
use Rattle.pana_hall.specs.Refusal.{decision_refusal}
use Rattle.pana_hall.specs.declared.state.State.{State}
use Rattle.pana_hall.specs.inner.Next.{ArePlanned}

-- the plan on a journal, as contracts see it once it is prepared
abbrev pub plan_view : List Entry → Plan → PreparedView
plan_view journal plan = record { journal = journal; entry = plan.next.entry; second = option_map (λ it. it.value.entry) plan.second; reply = plan.reply }

-- the plan's entries are those of the decision, against which nothing stands
pub record IsPlanOf (journal : List Entry) (by : List ℕ) (decision : Decision) (plan : Plan) : Type 0 where
  pub reply : plan.reply ≡ reply_of journal decision
  pub entries : after_decision journal by decision ≡ journal ++ entries_of (plan_view journal plan)
  pub free : decision_refusal 8 journal by decision ≡ None

-- the decision is refused so: what stands against it, or nothing does and memory ran out
pub record Refuses (journal : List Entry) (by : List ℕ) (decision : Decision) (reply : Reply) : Type 0 where
  pub cause : Cause
  pub is : reply ≡ Refused cause
  pub why : (decision_refusal 8 journal by decision ≡ Some cause) ⊎ ((decision_refusal 8 journal by decision ≡ None) × (cause ≡ OutOfMemory))

-- its entries are to be the next ones
abbrev pub IsPlanned : State → Plan → Type 0
IsPlanned state plan = ArePlanned state plan.next (option_map (λ it. it.value) plan.second)
