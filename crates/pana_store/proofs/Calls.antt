-- Single calls: what each way that a report or a sighting takes leaves.
use Rattle.std.proofs.Common.{◌≡◌, ◌⊎◌, inl, inr, ⊎_elim, ℕ, ◌≤◌, ◌<◌, ◌^◌, nat_lt, arith, Bool, IsTrue, List, ◌∷◌, ◌++◌, length, None, refl, sym, ◌∙◌, ap, subst}
use Rattle.std.proofs.lemmas.List.{length-append}
use Rattle.std.specs.Option.{option_to_list}
use Rattle.pana_journal.specs.declared.entry.Entry.{Entry}
use Rattle.pana_calls.specs.declared.call.Call.{Call}
use Rattle.pana_calls.specs.declared.call.Call.TheVariants as calls
use Rattle.pana_calls.specs.declared.call.Query.{Query}
use Rattle.pana_calls.specs.declared.cause.Cause.{Cause}
use Rattle.pana_calls.specs.declared.cause.Cause.TheVariants as causes
use Rattle.pana_calls.specs.declared.reply.Reply.{Reply}
use Rattle.pana_calls.specs.declared.reply.Reply.TheVariants as replies
use Rattle.pana_hall.specs.Permit.{Permits, PermitsBy, journal_after}
use Rattle.pana_hall.specs.Prepared.{PreparedView, Prepares, entries_of}
use Rattle.pana_hall.specs.Refusal.{refusal}
use Rattle.pana_hall.specs.Step.{Steps}
use Rattle.pana_log.specs.declared.device_fault.DeviceFault.{DeviceFault}
use Rattle.pana_log.specs.declared.device_fault.DeviceFault.TheVariants as devices
use Rattle.pana_log.specs.declared.log_state.LogState.TheVariants.{Open}
use Rattle.pana_calls.specs.declared.answer.Answer.{Answer}
use Rattle.pana_calls.specs.declared.answer.Answer.TheVariants.{Given}
use Rattle.pana_store.specs.Store.{Becomes, Grows, IsQuery, KeptView, MakesEntries, NeedsOpen}
use Rattle.pana_store.specs.inner.{answer_to}

-- what a call may do that is prepared: it makes entries, nothing stands against it, and it is done so
pub record IsReady (journal : List Entry) (by : List ℕ) (call : Call) (more : List Entry) (reply : Reply) : Type 0 where
  pub makes : MakesEntries call
  pub free : refusal journal by call ≡ None
  pub grows : Grows journal by call
  pub steps : Steps journal by call reply (journal ++ more)

-- a query makes no entry
no_entry : (journal : List Entry) (e : Entry) (es : List Entry) → journal ≡ journal ++ e ∷ es → ⊥
no_entry journal e es is = absurd (omega (arith, ap length is, length-append journal (e ∷ es)))

makes_entries : (journal : List Entry) (by : List ℕ) (call : Call) (reply : Reply) (e : Entry) (es : List Entry) → journal_after journal by call reply ≡ journal ++ e ∷ es → MakesEntries call
unfolding journal_after
makes_entries journal by (calls.Report report) reply e es is = tt
makes_entries journal by (calls.Sighting sighting) reply e es is = tt
makes_entries journal by (calls.Query query) reply e es is = no_entry journal e es is

pub ready : (journal : List Entry) (by : List ℕ) (call : Call) (next : PreparedView) → Prepares journal by call next → IsReady journal by call (entries_of next) next.reply
ready journal by call next are = record {
  makes = makes_entries journal by call next.reply next.entry (option_to_list next.second) are.entries;
  free = are.free;
  grows = (next.reply, are.permitted, omega (arith, ap length are.entries, length-append journal (entries_of next)));
  steps = (are.permitted, sym are.entries);
}

-- memory may run out for a report or a sighting against which nothing stands
pub permits_short : (journal : List Entry) (by : List ℕ) (call : Call) → MakesEntries call → refusal journal by call ≡ None → Permits journal by call (replies.Refused causes.OutOfMemory)
unfolding Permits
permits_short journal by (calls.Report report) makes is =
    subst (λ o. PermitsBy o journal (calls.Report report) (replies.Refused causes.OutOfMemory)) (sym is) (inr (causes.OutOfMemory, refl, refl))
permits_short journal by (calls.Sighting sighting) makes is =
    subst (λ o. PermitsBy o journal (calls.Sighting sighting) (replies.Refused causes.OutOfMemory)) (sym is) (inr (causes.OutOfMemory, refl, refl))
permits_short journal by (calls.Query query) makes is = absurd makes

pub after_refused : (journal : List Entry) (by : List ℕ) (call : Call) (cause : Cause) → journal ≡ journal_after journal by call (replies.Refused cause)
unfolding journal_after
after_refused journal by (calls.Report report) cause = refl
after_refused journal by (calls.Sighting sighting) cause = refl
after_refused journal by (calls.Query query) cause = refl

-- a call whose line the device doesn't take
pub answers_fault : (journal : List Entry) (by : List ℕ) (call : Call) (fault : DeviceFault) → MakesEntries call → refusal journal by call ≡ None → Grows journal by call
    → Becomes journal by call (answer_to fault) journal
answers_fault journal by call devices.OutOfMemory makes free grows = (permits_short journal by call makes free, after_refused journal by call causes.OutOfMemory)
answers_fault journal by call devices.StorageFull makes free grows = (makes, free, grows, refl)
answers_fault journal by call devices.Failed makes free grows = (makes, free, grows, refl)

-- while the log is open, each call may be answered
pub needs_open : {D : Type 0} (store : KeptView D) (call : Call) → store.log.state ≡ Open → NeedsOpen store call
needs_open store (calls.Report report) opened = opened
needs_open store (calls.Sighting sighting) opened = opened
needs_open store (calls.Query query) opened = tt

-- a call that makes entries is no query
pub no_query : {A : Type 0} (call : Call) → MakesEntries call → IsQuery call → A
no_query (calls.Report report) makes query = absurd query
no_query (calls.Sighting sighting) makes query = absurd query
no_query (calls.Query query) makes is = absurd makes

pub after_query : (journal : List Entry) (by : List ℕ) (query : Query) (reply : Reply) → journal_after journal by (calls.Query query) reply ≡ journal
unfolding journal_after
after_query journal by query reply = refl
