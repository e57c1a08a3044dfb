-- Calls that are put into a log together, as steps one behind another.
use Rattle.std.proofs.Common.{◌≡◌, ◌<◌, ◌≤◌, ℕ, ◌+◌, Bool, List, [], ◌∷◌, ◌++◌, length, inl, inr, refl, sym, ap, subst, ◌∙◌, append_assoc, append-nil, length-append}
use native.Mathlib.Omega.{arith}
use Rattle.std.specs.Prelude.{IsTrue}
use Rattle.pana_journal.specs.declared.entry.Entry.{Entry}
use Rattle.pana_calls.specs.declared.answer.Answer.{Answer}
use Rattle.pana_calls.specs.declared.message.Message.{Message}
use Rattle.pana_calls.specs.Session.{MakesAll}
use Rattle.pana_shared.specs.declared.record.Record.{Record}
use Rattle.pana_shared.specs.Log.{Follows, LogView, Reads, ours}
use Rattle.pana_shared.proofs.Grown.{ours_both}
use Rattle.pana_shared_store.specs.Store.{AreFirst, Becomes, asks_all, entries_in, recorded, recorded_all}
use Rattle.pana_shared_store.specs.inner.Groups.{AreBehind, AreGathered, Goes, IsGathered, joined, moment}
use Rattle.pana_shared_store.proofs.Followed.{entries_both, length_entries, reads_none}
use Rattle.pana_shared_store.proofs.Gathered.{ours_own}
use Rattle.pana_shared_store.proofs.Placed.{looked_on}
use Rattle.pana_shared_store.proofs.Readied.{recorded_entries, recorded_own}

-- From a view whose records are just those of the entries to a later one: what the groups are, of the turns behind this one, stands right
-- behind its records, and behind that only what others have put.
pub record Leads (entries : List Entry) (view : LogView) (turn : ℕ) (groups : List (List Entry)) (after : LogView) : Type 0 where
  pub writer : after.writer ≡ view.writer
  pub whole : entries_in view.records ≡ entries
  pub others : List Record
  pub records : after.records ≡ view.records ++ (recorded_all view.writer (turn + 1) groups ++ others)
  pub foreign : ours view.writer others ≡ []
  pub at : after.at ≤ length view.records
  pub within : after.at < length after.records

-- the view behind the first of the groups
abbrev pub next_view : LogView → LogView → ℕ → List Entry → LogView
next_view view after turn [] = view
next_view view after turn (e ∷ made) = record { records = view.records ++ recorded view.writer turn (e ∷ made); writer = view.writer; at = after.at; loose = after.loose }

all_there : (entries : List Entry) (view : LogView) → entries_in view.records ≡ entries → length view.records ≡ length entries
all_there entries view whole = sym (length_entries view.records) ∙ ap length whole

becomes_of : (at : List Entry) (message : Message) (answer : Answer) (made : List Entry) → IsGathered at message answer made → Becomes at message.by message.call answer (at ++ made)
becomes_of at message answer made (reply, is, steps) = subst (λ (a : Answer). Becomes at message.by message.call a (at ++ made)) (sym is) steps

module _ (is_known is_stale : Bool) (entries : List Entry) (view after : LogView) (turn : ℕ) (message : Message) (answer : Answer) where
  leads_on : (made : List Entry) (groups : List (List Entry)) → Leads entries view turn (made ∷ groups) after → Leads (entries ++ made) (next_view view after (turn + 1) made) (turn + 1) groups after
  leads_on [] groups leads = record { writer = leads.writer; whole = leads.whole ∙ sym (append-nil entries); others = leads.others; records = leads.records; foreign = leads.foreign; at = leads.at; within = leads.within }
  leads_on (e ∷ made) groups leads = record {
    writer = leads.writer;
    whole = entries_both view.records (recorded view.writer (turn + 1) (e ∷ made)) ∙ ap (λ (l : List Entry). l ++ entries_in (recorded view.writer (turn + 1) (e ∷ made))) leads.whole ∙ ap (λ (l : List Entry). entries ++ l) (recorded_entries view.writer (turn + 1) (e ∷ made));
    others = leads.others;
    records = leads.records
        ∙ ap (λ (l : List Record). view.records ++ l) (append_assoc (recorded view.writer (turn + 1) (e ∷ made)) (recorded_all view.writer ((turn + 1) + 1) groups) leads.others)
        ∙ sym (append_assoc view.records (recorded view.writer (turn + 1) (e ∷ made)) (recorded_all view.writer ((turn + 1) + 1) groups ++ leads.others));
    foreign = leads.foreign;
    at = let l = length-append view.records (recorded view.writer (turn + 1) (e ∷ made)) in let a = leads.at in omega (arith, l, a);
    within = leads.within;
  }

  -- what stands right behind the view's records
  module _ (made : List Entry) (more : IsTrue is_known → List Record) (later : LogView) (whole : IsTrue is_known → entries_in view.records ≡ entries) (records : (known : IsTrue is_known) → later.records ≡ view.records ++ (recorded view.writer (turn + 1) made ++ more known))
      (foreign : (known : IsTrue is_known) → ours view.writer (more known) ≡ []) (follows : IsTrue is_known → Follows view later) (gathered : IsGathered entries message answer made) where
    own : (known : IsTrue is_known) → ours view.writer (recorded view.writer (turn + 1) made ++ more known) ≡ recorded view.writer (turn + 1) made
    own known = ours_both view.writer (recorded view.writer (turn + 1) made) (more known) ∙ ap (λ (l : List Record). ours view.writer (recorded view.writer (turn + 1) made) ++ l) (foreign known)
        ∙ append-nil (ours view.writer (recorded view.writer (turn + 1) made)) ∙ ours_own view.writer (recorded view.writer (turn + 1) made) (recorded_own view.writer view.writer (turn + 1) made refl)

    goes : Goes is_known is_stale (moment entries view turn) message.by message.call answer (moment (entries ++ made) later (turn + 1))
    goes = (
      record {
        on = record {
          at = entries;
          goes_on = ([], sym (append-nil entries));
          becomes = becomes_of entries message answer made gathered;
          made = made;
          makes = refl;
          all = λ known asks. (let l = all_there entries view (whole known) in omega (arith, l));
          first = λ known. (
            entries_in (more known),
            ap entries_in (records known) ∙ entries_both view.records (recorded view.writer (turn + 1) made ++ more known) ∙ ap (λ (l : List Entry). l ++ entries_in (recorded view.writer (turn + 1) made ++ more known)) (whole known)
                ∙ ap (λ (l : List Entry). entries ++ l) (entries_both (recorded view.writer (turn + 1) made) (more known) ∙ ap (λ (l : List Entry). l ++ entries_in (more known)) (recorded_entries view.writer (turn + 1) made))
                ∙ sym (append_assoc entries made (entries_in (more known))),
          );
          own = λ known. record { more = recorded view.writer (turn + 1) made ++ more known; longer = records known; landed = []; lands = inl refl; own = own known };
          stands = λ known some. record { before = view.records; after = more known; whole = records known; behind = all_there entries view (whole known) };
          follows = follows;
        };
        later = inr (omega arith);
      },
      omega arith,
    )

  -- a call but the last
  step_next : (made : List Entry) (groups : List (List Entry)) → (IsTrue is_known → Leads entries view turn (made ∷ groups) after) → IsGathered entries message answer made
      → Goes is_known is_stale (moment entries view turn) message.by message.call answer (moment (entries ++ made) (next_view view after (turn + 1) made) (turn + 1))
  step_next [] groups leads gathered = goes [] (λ known. []) view (λ known. (leads known).whole) (λ known. sym (append-nil view.records)) (λ known. refl) (λ known. (refl, inr (refl, λ group one. one))) gathered
  step_next (e ∷ made) groups leads gathered = goes (e ∷ made) (λ known. []) (next_view view after (turn + 1) (e ∷ made)) (λ known. (leads known).whole) (λ known. ap (λ (l : List Record). view.records ++ l) (sym (append-nil (recorded view.writer (turn + 1) (e ∷ made))))) (λ known. refl)
      (λ known. (refl, inl (let l = length-append view.records (recorded view.writer (turn + 1) (e ∷ made)) in let a = (leads known).at in omega (arith, l, a)))) gathered

  -- the last
  step_last : (made : List Entry) → (IsTrue is_known → Leads entries view turn (made ∷ []) after) → IsGathered entries message answer made
      → Goes is_known is_stale (moment entries view turn) message.by message.call answer (moment (entries ++ made) after (turn + 1))
  step_last made leads gathered = goes made (λ known. (leads known).others) after (λ known. (leads known).whole)
      (λ known. (leads known).records ∙ ap (λ (l : List Record). view.records ++ (l ++ (leads known).others)) (append-nil (recorded view.writer (turn + 1) made)))
      (λ known. (leads known).foreign) (λ known. ((leads known).writer, inl (leads known).within)) gathered

-- where a list of steps ends
ends_at : (entries ends : List Entry) (view : LogView) (turn last : ℕ) → ends ≡ entries → last ≡ turn → moment ends view last ≡ moment entries view turn
ends_at entries ends view turn last same even = ap (λ (l : List Entry). moment l view last) same ∙ ap (λ (n : ℕ). moment entries view n) even

module _ (is_known is_stale : Bool) (after : LogView) where
  -- calls that make entries, one of them at least, which stand in the log then
  pub chain : (messages : List Message) (answers : List Answer) (groups : List (List Entry)) (entries ends : List Entry) (view : LogView) (turn last : ℕ) → (IsTrue is_known → Leads entries view turn groups after) → AreGathered entries messages answers groups
      → 0 < length messages → ends ≡ entries ++ joined groups → last ≡ turn + length messages
      → MakesAll (Goes is_known is_stale) (moment entries view turn) messages answers (moment ends after last)
  chain [] answers groups entries ends view turn last leads are some same even = absurd (omega (arith, some))
  chain (m ∷ ms) [] groups entries ends view turn last leads are some same even = absurd are
  chain (m ∷ ms) (a ∷ answers) [] entries ends view turn last leads are some same even = absurd are
  chain (m ∷ []) (a ∷ []) (g ∷ []) entries ends view turn last leads (is, are) some same even = (
    moment (entries ++ g) after (turn + 1),
    step_last is_known is_stale entries view after turn m a g leads is,
    ends_at (entries ++ g) ends after (turn + 1) last (same ∙ ap (λ (l : List Entry). entries ++ l) (append-nil g)) (omega (arith, even)),
  )
  chain (m ∷ []) (a ∷ []) (g ∷ h ∷ groups) entries ends view turn last leads (is, are) some same even = absurd are
  chain (m ∷ []) (a ∷ b ∷ answers) (g ∷ groups) entries ends view turn last leads (is, are) some same even = absurd are
  chain (m ∷ n ∷ ms) (a ∷ answers) (g ∷ groups) entries ends view turn last leads (is, are) some same even = (
    moment (entries ++ g) (next_view view after (turn + 1) g) (turn + 1),
    step_next is_known is_stale entries view after turn m a g groups leads is,
    chain (n ∷ ms) answers groups (entries ++ g) ends (next_view view after (turn + 1) g) (turn + 1) last (λ known. leads_on is_known is_stale entries view after turn m a g groups (leads known)) are (omega arith)
        (same ∙ sym (append_assoc entries g (joined groups))) (omega (arith, even)),
  )

nothing_first : (made more : List Entry) → made ++ more ≡ [] → made ≡ []
nothing_first [] more is = refl
nothing_first (e ∷ made) more is = absurd (cc)

nothing_more : (made more : List Entry) → made ++ more ≡ [] → more ≡ []
nothing_more [] more is = is
nothing_more (e ∷ made) more is = absurd (cc)

here : (message : Message) (answer : Answer) (made at entries : List Entry) → at ≡ entries → IsGathered at message answer made → made ≡ [] → IsGathered entries message answer []
here message answer made at entries same is none = subst (λ (l : List Entry). IsGathered l message answer []) same (subst (λ (l : List Entry). IsGathered at message answer l) none is)

-- a call that makes no entry
module _ (is_known is_stale : Bool) (entries : List Entry) (view after : LogView) (turn : ℕ) (looks : IsTrue is_known → Reads view after) (first : IsTrue is_known → AreFirst entries after.records) where
  step_asked : (message : Message) (answer : Answer) → (IsTrue is_known → IsTrue (asks_all is_stale message.call) → length view.records ≤ length entries) → IsGathered entries message answer []
      → Goes is_known is_stale (moment entries view turn) message.by message.call answer (moment entries after turn)
  step_asked message answer all gathered = (
    record {
      on = record {
        at = entries;
        goes_on = ([], sym (append-nil entries));
        becomes = subst (λ (l : List Entry). Becomes entries message.by message.call answer l) (append-nil entries) (becomes_of entries message answer [] gathered);
        made = [];
        makes = sym (append-nil entries);
        all = all;
        first = first;
        own = λ known. (looks known).grows;
        stands = λ known some. absurd (some refl);
        follows = λ known. looked_on view after (looks known);
      };
      later = inl refl;
    },
    omega arith,
  )

-- calls that make no entry, behind all that the log had, where each is to be so
module _ (is_known is_stale : Bool) (entries : List Entry) (view after : LogView) (turn : ℕ) (looks : IsTrue is_known → Reads view after) (before : IsTrue is_known → AreFirst entries view.records) (first : IsTrue is_known → AreFirst entries after.records) where
  pub chain_asked : (messages : List Message) (answers : List Answer) (groups : List (List Entry)) (at : List Entry) → at ≡ entries → AreGathered at messages answers groups → joined groups ≡ [] → 0 < length messages → (IsTrue is_known → AreBehind is_stale messages (length view.records ≤ length entries))
      → MakesAll (Goes is_known is_stale) (moment entries view turn) messages answers (moment entries after turn)
  chain_asked [] answers groups at same are none some behind = absurd (omega (arith, some))
  chain_asked (m ∷ ms) [] groups at same are none some behind = absurd are
  chain_asked (m ∷ ms) (a ∷ answers) [] at same are none some behind = absurd are
  chain_asked (m ∷ []) (a ∷ []) (g ∷ []) at same (is, are) none some behind = (
    moment entries after turn,
    step_asked is_known is_stale entries view after turn looks first m a (λ known. (behind known).0) (here m a g at entries same is (nothing_first g [] none)),
    refl,
  )
  chain_asked (m ∷ []) (a ∷ []) (g ∷ h ∷ groups) at same (is, are) none some behind = absurd are
  chain_asked (m ∷ []) (a ∷ b ∷ answers) (g ∷ groups) at same (is, are) none some behind = absurd are
  chain_asked (m ∷ n ∷ ms) (a ∷ answers) (g ∷ groups) at same (is, are) none some behind = (
    moment entries view turn,
    step_asked is_known is_stale entries view view turn (λ known. reads_none view) before m a (λ known. (behind known).0) (here m a g at entries same is (nothing_first g (joined groups) none)),
    chain_asked (n ∷ ms) answers groups (at ++ g) (ap (λ (l : List Entry). at ++ l) (nothing_first g (joined groups) none) ∙ append-nil at ∙ same) are (nothing_more g (joined groups) none) (omega arith) (λ known. (behind known).1),
  )
