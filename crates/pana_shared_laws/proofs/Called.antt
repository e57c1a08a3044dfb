-- Where one call of a store stands.
use Rattle.std.proofs.Common.{◌≡◌, ◌≢◌, ◌⊎◌, inl, inr, ◌<◌, ◌≤◌, ℕ, ◌+◌, Bool, true, false, IsTrue, List, [], ◌∷◌, ◌++◌, length, refl, ap, subst, ◌∙◌, length-append}
use native.Mathlib.Omega.{arith}
use Rattle.pana_journal.specs.declared.entry.Entry.{Entry}
use Rattle.pana_calls.specs.declared.answer.Answer.{Answer}
use Rattle.pana_calls.specs.declared.answer.Answer.TheVariants.{Given, NotKept}
use Rattle.pana_calls.specs.declared.call.Call.{Call}
use Rattle.pana_calls.specs.declared.call.Call.TheVariants as calls
use Rattle.pana_calls.specs.declared.call.Query.{Query}
use Rattle.pana_calls.specs.declared.cause.Cause.{Cause}
use Rattle.pana_calls.specs.declared.cause.Cause.TheVariants.{OutOfMemory}
use Rattle.pana_calls.specs.declared.reply.Reply.{Reply}
use Rattle.pana_calls.specs.declared.reply.Reply.TheVariants.{Refused}
use Rattle.pana_hall.specs.Permit.{journal_after}
use Rattle.pana_shared.specs.declared.record.Record.{Record}
use Rattle.pana_shared.specs.Log.{Grows, IsAt, IsOneOf, LogView}
use Rattle.pana_shared_store.specs.Store.{Becomes, GoesOn, MakesBy, asks_all, recorded}
use Rattle.pana_shared_store.proofs.Readied.{recorded_before}
use Rattle.pana_shared_laws.specs.Groups.{AreGroups}
use Rattle.pana_shared_laws.proofs.Fine.{IsFine, at_within_some, came, grown_length, recorded_late, recorded_own, some_entries, some_recorded, still_loose, still_turns}
use Rattle.pana_shared_laws.proofs.Rested.{Rest}
use Rattle.pana_shared_laws.proofs.Stayed.{rest_call}

-- ---- what makes nothing

-- what leaves the journal as it was has made nothing
same_none : (at made : List Entry) → at ++ made ≡ at → made ≡ []
same_none at [] same = refl
same_none at (e ∷ made) same = absurd (let l : length (at ++ (e ∷ made)) ≡ length at = ap length same in let p = length-append at (e ∷ made) in omega (arith, l, p))

refused_same : (journal : List Entry) (by : List ℕ) (call : Call) (cause : Cause) → journal_after journal by call (Refused cause) ≡ journal
unfolding journal_after
refused_same journal by (calls.Report report) cause = refl
refused_same journal by (calls.Sighting sighting) cause = refl
refused_same journal by (calls.Query query) cause = refl

asked_same : (journal : List Entry) (by : List ℕ) (query : Query) (reply : Reply) → journal_after journal by (calls.Query query) reply ≡ journal
unfolding journal_after
asked_same journal by query reply = refl

-- the reply where there is one
pub reply_of : Answer → Reply
reply_of (Given reply) = reply
reply_of NotKept = Refused OutOfMemory

module _ (at made : List Entry) (by : List ℕ) (call : Call) where
  pub refused_none : (answer : Answer) → Becomes at by call answer (at ++ made) → (cause : Cause) → answer ≡ Given (Refused cause) → made ≡ []
  refused_none (Given reply) becomes cause is =
      let same : reply ≡ Refused cause = cc in
      same_none at made (becomes.1 ∙ ap (journal_after at by call) same ∙ refused_same at by call cause)
  refused_none NotKept becomes cause is = same_none at made becomes.2

  pub asked_none : (answer : Answer) → Becomes at by call answer (at ++ made) → (query : Query) → call ≡ calls.Query query → made ≡ []
  asked_none (Given reply) becomes query is = same_none at made (becomes.1 ∙ ap (λ (c : Call). journal_after at by c reply) is ∙ asked_same at by query reply)
  asked_none NotKept becomes query is = same_none at made becomes.2

  pub replied : (answer : Answer) → Becomes at by call answer (at ++ made) → made ≢ [] → answer ≡ Given (reply_of answer)
  unfolding reply_of
  replied (Given reply) becomes some = refl
  replied NotKept becomes some = absurd (some (same_none at made becomes.2))

-- what has made entries is no question, so it was made behind all that the log had
some_asks : (at made : List Entry) (by : List ℕ) (is_stale : Bool) (call : Call) (answer : Answer) → Becomes at by call answer (at ++ made) → made ≢ [] → IsTrue (asks_all is_stale call)
some_asks at made by false call answer becomes some = refl
some_asks at made by true (calls.Report report) answer becomes some = refl
some_asks at made by true (calls.Sighting sighting) answer becomes some = refl
some_asks at made by true (calls.Query query) answer becomes some = absurd (some (asked_none at made by (calls.Query query) answer becomes query refl))

-- ---- one call

module _ (is_known : Bool) (known : IsTrue is_known) (w : ℕ) (old : List Entry) (before turn : ℕ) (seen_old : LogView) (fine : IsFine w old before seen_old) (by : List ℕ) (call : Call) (new : List Entry) (seen_new : LogView) where
  -- ---- with an answer
  module _ (is_stale : Bool) (answer : Answer) (makes : MakesBy is_known is_stale before turn old seen_old by call answer new seen_new) (later : before ≤ turn) where
    own : Grows seen_old (recorded w turn makes.on.made) seen_new.records
    own = subst (λ (n : ℕ). Grows seen_old (recorded n turn makes.on.made) seen_new.records) fine.writer (makes.on.own known)

    becomes : Becomes makes.on.at by call answer (makes.on.at ++ makes.on.made)
    becomes = subst (λ (l : List Entry). Becomes makes.on.at by call answer l) makes.on.makes makes.on.becomes

    stands : makes.on.made ≢ [] → IsAt (length makes.on.at) (recorded w turn makes.on.made) seen_new.records × (length seen_old.records ≤ length makes.on.at)
    stands some = (subst (λ (n : ℕ). IsAt (length makes.on.at) (recorded n turn makes.on.made) seen_new.records) fine.writer (makes.on.stands known some), makes.on.all known (some_asks makes.on.at makes.on.made by is_stale call answer becomes some))

    late : makes.on.made ≢ [] → before < turn
    late some = by_later makes.later where
      by_later : (makes.on.made ≡ []) ⊎ (before < turn) → before < turn
      by_later (inl none) = absurd (some none)
      by_later (inr is) = is

    goes : GoesOn old new
    goes = (makes.on.goes_on.0 ++ makes.on.made, makes.on.makes ∙ ap (λ (l : List Entry). l ++ makes.on.made) makes.on.goes_on.1 ∙ Rattle.std.proofs.Common.append_assoc old makes.on.goes_on.0 makes.on.made)

    grown : length seen_old.records ≤ length seen_new.records
    grown = let l = grown_length seen_old (recorded w turn makes.on.made) seen_new.records own in omega (arith, l)

    pub fine_made : IsFine w new turn seen_new
    fine_made = record {
      first = makes.on.first known;
      writer = (makes.on.follows known).0 ∙ fine.writer;
      turns = still_turns w old before seen_old fine turn (recorded w turn makes.on.made) seen_new.records own later (recorded_before w turn makes.on.made);
      loose = λ alive group one. (still_loose w old before seen_old fine new turn seen_new goes later grown (makes.on.follows known) alive group one).2;
    }

    groups_came : AreGroups (length seen_old.records) w own.more ((seen_old.at, own.landed) ∷ (length makes.on.at, recorded w turn makes.on.made) ∷ [])
    groups_came =
        came w old before seen_old fine makes.on.at (recorded w turn makes.on.made) seen_new.records own makes.on.goes_on (recorded_own w turn makes.on.made) (recorded_late w turn before makes.on.made late)
        (λ some. stands (some_recorded w turn makes.on.made some))

    -- nothing that was loose may still land where the call has made entries
    gone : makes.on.made ≢ [] → length seen_new.records ≤ seen_new.at → (g : List Record) → IsOneOf g seen_new.loose → ⊥
    gone some alive g one =
        let was = still_loose w old before seen_old fine makes.on.at turn seen_new makes.on.goes_on later grown (makes.on.follows known) alive g one in
        let place = was.2.at in
        let within = at_within_some (length makes.on.at) (recorded w turn makes.on.made) seen_new.records (some_entries w turn makes.on.made some) (stands some).0 in
        omega (arith, place, within, alive)

    pub rest_made : (records : List Record) (groups : List (ℕ × List Record)) → Rest w records seen_new groups → Rest w records seen_old ((length makes.on.at, recorded w turn makes.on.made) ∷ groups)
    rest_made records groups rest =
        rest_call w turn records seen_old seen_new (length makes.on.at) groups rest
        (λ alive one. (let was = still_loose w old before seen_old fine makes.on.at turn seen_new makes.on.goes_on later grown (makes.on.follows known) alive rest.landed one in (was.0, was.1)))
        makes.on.made own groups_came gone
