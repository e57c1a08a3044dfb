-- Entries that no hall makes.
use Rattle.std.proofs.Common.{◌≡◌, ◌≢◌, ◌⊎◌, inl, inr, ◌≤◌, ℕ, ◌+◌, List, [], ◌∷◌, ◌++◌, length, Option, Some, None, refl, sym, ap, subst, ◌∙◌, length-append, append_assoc}
use native.Mathlib.Omega.{arith}
use Rattle.std.specs.Prelude.{Bool, IsTrue}
use Rattle.std.specs.Global.{Vec}
use Rattle.pana_journal.specs.declared.entry.Entry.{Entry}
use Rattle.pana_calls.specs.declared.call.Call.{Call}
use Rattle.pana_calls.specs.declared.call.Call.TheVariants as calls
use Rattle.pana_calls.specs.declared.cause.Cause.{Cause}
use Rattle.pana_calls.specs.declared.cause.Cause.TheVariants as causes
use Rattle.pana_calls.specs.declared.reply.Reply.{Reply}
use Rattle.pana_calls.specs.declared.reply.Reply.TheVariants.{Done, Refused}
use Rattle.pana_hall.specs.Permit.{Permits, PermitsBy, journal_after}
use Rattle.pana_hall.specs.Prepared.{AnswersAt, PreparedView, Prepares, entries_of}
use Rattle.pana_hall.specs.Refusal.{refusal}
use Rattle.pana_shared.specs.declared.read_fault.ReadFault.{ReadFault}
use Rattle.pana_shared.specs.declared.read_fault.ReadFault.TheVariants.{NoAnswer, Foreign, OutOfMemory}
use Rattle.pana_shared.specs.declared.record.Record.{Record}
use Rattle.pana_shared.specs.Log.{IsAt, LogView}
use Rattle.pana_shared.proofs.Splits.{same_front}
use Rattle.pana_shared_store.specs.Store.{AreFirst, GoesOn, IsStrange, Why, entries_in}
use Rattle.pana_shared_store.specs.inner.{FollowsNot, IsRefusal, StopsAt, TriesTo}
use Rattle.pana_shared_store.specs.declared.making.Tried.TheVariants.{Behind}
use Rattle.pana_shared_store.proofs.Followed.{page_first}
use Rattle.pana_shared_store.proofs.Readied.{goes_on_within}

longer : (journal : List Entry) (e : Entry) (more : List Entry) → journal ≡ journal ++ e ∷ more → ⊥
longer journal e more is =
    let l : length journal ≡ length (journal ++ e ∷ more) = ap length is in
    let p : length (journal ++ e ∷ more) ≡ length journal + length (e ∷ more) = length-append journal (e ∷ more) in
    omega (arith, l, p)

module _ (journal : List Entry) (entry : Entry) where
  abbrev next : Entry
  next = record { number = length journal + 1; by = entry.by; report = entry.report }

  -- a report is the next entry, or it is refused: for the one cause, or since memory ran out
  kinds : (o : Option Cause) (reply : Reply) → PermitsBy o journal (calls.Report entry.report) reply
      → (reply ≡ Done (length journal + 1)) ⊎ ((cause : Cause) × (reply ≡ Refused cause) × ((o ≡ Some cause) ⊎ (cause ≡ causes.OutOfMemory)))
  kinds (Some cause) reply is = inr (cause, is, inl refl)
  kinds None reply (inl done) = inl done
  kinds None reply (inr (cause, short, is)) = inr (cause, is, inr short)

  after_done : (reply : Reply) → reply ≡ Done (length journal + 1) → journal_after journal entry.by (calls.Report entry.report) reply ≡ journal ++ next ∷ []
  unfolding journal_after
  after_done reply is = ap (journal_after journal entry.by (calls.Report entry.report)) is

  after_refused : (reply : Reply) (cause : Cause) → reply ≡ Refused cause → journal_after journal entry.by (calls.Report entry.report) reply ≡ journal
  unfolding journal_after
  after_refused reply cause is = ap (journal_after journal entry.by (calls.Report entry.report)) is

  permits_by : (reply : Reply) → Permits journal entry.by (calls.Report entry.report) reply → PermitsBy (refusal journal entry.by (calls.Report entry.report)) journal (calls.Report entry.report) reply
  unfolding Permits
  permits_by reply permitted = permitted

  -- a report that makes no entry makes none another time
  pub none_made : (reply : Reply) → AnswersAt journal entry.by (calls.Report entry.report) reply → reply ≢ Refused causes.OutOfMemory → IsStrange journal entry
  none_made reply answers other again (permitted, made) = by_kind (kinds (refusal journal entry.by (calls.Report entry.report)) reply (permits_by reply answers.permitted)) where
    by_kind : (reply ≡ Done (length journal + 1)) ⊎ ((cause : Cause) × (reply ≡ Refused cause) × ((refusal journal entry.by (calls.Report entry.report) ≡ Some cause) ⊎ (cause ≡ causes.OutOfMemory))) → ⊥
    by_kind (inl done) = longer journal next [] (sym answers.same ∙ after_done reply done)
    by_kind (inr (cause, is, inr short)) = other (is ∙ ap Refused short)
    by_kind (inr (cause, is, inl some)) =
        let refused : again ≡ Refused cause = subst (λ (o : Option Cause). PermitsBy o journal (calls.Report entry.report) again) some (permits_by again permitted) in
        longer journal entry [] (sym (made ∙ after_refused again cause refused))

  -- and one that makes other entries makes no others
  pub others_made : (prepared : PreparedView) → Prepares journal entry.by (calls.Report entry.report) prepared → entries_of prepared ≢ entry ∷ [] → IsStrange journal entry
  others_made prepared p differs again (permitted, made) = by_kind (kinds (refusal journal entry.by (calls.Report entry.report)) again (permits_by again permitted)) (kinds (refusal journal entry.by (calls.Report entry.report)) prepared.reply (permits_by prepared.reply p.permitted)) where
    by_kind : (again ≡ Done (length journal + 1)) ⊎ ((cause : Cause) × (again ≡ Refused cause) × ((refusal journal entry.by (calls.Report entry.report) ≡ Some cause) ⊎ (cause ≡ causes.OutOfMemory)))
        → (prepared.reply ≡ Done (length journal + 1)) ⊎ ((cause : Cause) × (prepared.reply ≡ Refused cause) × ((refusal journal entry.by (calls.Report entry.report) ≡ Some cause) ⊎ (cause ≡ causes.OutOfMemory))) → ⊥
    by_kind (inr (cause, is, why)) first = longer journal entry [] (sym (made ∙ after_refused again cause is))
    by_kind (inl done) (inr (cause, is, why)) = longer journal prepared.entry _ (sym (after_refused prepared.reply cause is) ∙ p.entries)
    by_kind (inl done) (inl first) =
        let both : journal ++ entry ∷ [] ≡ journal ++ entries_of prepared = made ∙ after_done again done ∙ sym (after_done prepared.reply first) ∙ p.entries in
        differs (sym (same_front journal journal (entry ∷ []) (entries_of prepared) both refl).1)

-- a refusal as a fault
pub refused_as : (journal : List Entry) (entry : Entry) (reply : Reply) (number : ℕ) (fault : ReadFault) → AnswersAt journal entry.by (calls.Report entry.report) reply → number ≡ length journal + 1 → IsRefusal reply number fault → FollowsNot fault journal entry
refused_as journal entry reply number NoAnswer answers is nothing = absurd nothing
refused_as journal entry reply number (Foreign named) answers is (same, other) = (none_made journal entry reply answers other, same ∙ is)
refused_as journal entry reply number OutOfMemory answers is short = tt

-- a page whose entries aren't all followed has some
some_stops : (fault : ReadFault) (mid new : List Entry) (page : List Record) → StopsAt fault mid (entries_in page) new → page ≢ []
some_stops fault mid new page (taken, entry, left, made, parts, not) none =
    let l : length (entries_in page) ≡ length (taken ++ entry ∷ left) = ap length parts in
    let p : length (taken ++ entry ∷ left) ≡ length taken + length (entry ∷ left) = length-append taken (entry ∷ left) in
    let n : length (entries_in page) ≡ 0 = ap (λ (records : List Record). length (entries_in records)) none in
    omega (arith, l, p, n)

-- why they aren't
pub stopped : (fault : ReadFault) (turn : ℕ) (old mid new : List Entry) (before after : ℕ) (page records : List Record) → AreFirst mid records → IsAt (length mid) page records → StopsAt fault mid (entries_in page) new → Why fault turn old before new records after
stopped NoAnswer turn old mid new before after page records first there (taken, entry, left, made, parts, nothing) = absurd nothing
stopped OutOfMemory turn old mid new before after page records first there stops = tt
stopped (Foreign number) turn old mid new before after page records first there (taken, entry, left, made, parts, (strange, is)) = (
  entry,
  subst (λ (l : List Entry). AreFirst l records) (sym (ap (λ (l : List Entry). l ++ entry ∷ []) made ∙ append_assoc mid taken (entry ∷ []))) (page_first mid (taken ++ entry ∷ []) left page records first there (parts ∙ sym (append_assoc taken (entry ∷ []) left))),
  strange,
  is,
)

pub stopped_page : (fault : ReadFault) (turn : ℕ) (old mid new : List Entry) (before after : ℕ) (page records : List Record) → AreFirst mid records → (page ≢ [] → IsAt (length mid) page records) → StopsAt fault mid (entries_in page) new → Why fault turn old before new records after
stopped_page fault turn old mid new before after page records first there stops = stopped fault turn old mid new before after page records first (there (some_stops fault mid new page stops)) stops

-- the same of a page that came where a call was to be made
pub stopped_behind : (fault : ReadFault) (is_known : Bool) (turn : ℕ) (old mid new : List Entry) (before between : LogView) (by : List ℕ) (call : Call) (page : Vec Record) (silences left : ℕ) → TriesTo is_known turn old before by call (Behind page) mid between
    → (IsTrue is_known → AreFirst mid between.records) → IsTrue is_known → StopsAt fault mid (entries_in page.items) new → Why fault 0 old silences new between.records left
stopped_behind fault is_known turn old mid new before between by call page silences left (group, same, places) first known stops =
    stopped fault 0 old mid new silences left page.items between.records (first known) (subst (λ (l : List Entry). IsAt (length l) page.items between.records) (sym same) (places known).3) stops

-- the same cause for what has begun earlier
pub why_on : (fault : ReadFault) (turn : ℕ) (old mid new : List Entry) (before between after : ℕ) (records : List Record) → GoesOn old mid → between ≤ before → Why fault 0 mid between new records after → Why fault turn old before new records after
why_on NoAnswer turn old mid new before between after records goes heard (inl silent) = inl (omega (arith, heard, silent))
why_on NoAnswer turn old mid new before between after records goes heard (inr (inl late)) = inr (inl (let w = goes_on_within old mid goes in omega (arith, w, late)))
why_on NoAnswer turn old mid new before between after records goes heard (inr (inr over)) = absurd (omega (arith, over))
why_on (Foreign number) turn old mid new before between after records goes heard why = why
why_on OutOfMemory turn old mid new before between after records goes heard why = tt
