-- Calls whose entries wait: what each way that a report or a sighting takes leaves, and what it is to keep those that wait.
use Rattle.std.proofs.Common.{◌≡◌, ◌≢◌, ◌⊎◌, inl, inr, ⊎_elim, ℕ, ◌+◌, ◌<◌, ◌≤◌, ◌^◌, Bool, IsTrue, List, [], ◌++◌, length, refl, sym, ap, subst, ◌∙◌, length-append, arith}
use Rattle.pana_journal.specs.declared.entry.Entry.{Entry}
use Rattle.pana_calls.specs.declared.call.Call.{Call}
use Rattle.pana_calls.specs.declared.cause.Cause.TheVariants as causes
use Rattle.pana_calls.specs.declared.reply.Reply.{Reply}
use Rattle.pana_calls.specs.declared.reply.Reply.TheVariants as replies
use Rattle.pana_hall.specs.Step.{Steps}
use Rattle.pana_log.specs.declared.device_fault.DeviceFault.{DeviceFault}
use Rattle.pana_log.specs.declared.device_fault.DeviceFault.TheVariants as devices
use Rattle.pana_log.specs.declared.log.Log.{Log}
use Rattle.pana_log.specs.declared.log_state.LogState.TheVariants.{Open}
use Rattle.pana_log.specs.Device.{LeavesOnly}
use Rattle.pana_log.specs.Lines.{recovered, text_of}
use Rattle.pana_log.specs.Log.{IsSettled}
use Rattle.pana_log.proofs.Moments.{then_on}
use Rattle.pana_seal.specs.declared.sealer.Sealer.{Sealer}
use Rattle.pana_seal.specs.Seal.{Covers}
use Rattle.pana_calls.specs.declared.answer.Answer.{Answer}
use Rattle.pana_calls.specs.declared.answer.Answer.TheVariants.{Given, NotKept}
use Rattle.pana_store.specs.Entries.{LoadsTo, LoadsEither}
use Rattle.pana_store.specs.Store.{Becomes, BreaksOff, Gathers, GathersOnly, IsFull, IsKept, KeptView, MakesEntries, NeedsOpen, Settles, StoreView, stored}
use Rattle.pana_store.specs.declared.pending.Pending.{Pending}
use Rattle.pana_store.specs.inner.{answer_to, IsWaiting, HasRoomFor, CommitsLine, LosesLine, kept_of, waiting_of, store_of, IsStore}
use Rattle.pana_store.proofs.Calls.{IsReady, needs_open, no_query, answers_fault}
use Rattle.pana_store.proofs.Said.{loads_same, either_start, either_same}
use Rattle.pana_store.proofs.Waiting.{length_waiting, all_entries, kept_all, none_waits, kept_same, kept_more, waiting_same, waiting_more}

module _ {D : Type 0} (is_known : Bool) (seen : D → List ℕ) (may_leave : D → List ℕ → Type 0) (is_usable : D → Bool) where
  abbrev State : List Entry → Log D → Sealer → Pending → Type 0
  State es log sealer p = IsStore is_known seen may_leave is_usable es log sealer p

  -- the file has the same lines
  kept_so : (kept other : List Entry) (a b : Log D) (sealer : Sealer) → other ≡ kept → a.state ≡ Open → IsKept seen may_leave is_usable (record { entries = kept; log = a; sealer = sealer }) → IsSettled seen may_leave is_usable b
      → recovered (seen b.device) ≡ recovered (seen a.device) → IsKept seen may_leave is_usable (record { entries = other; log = b; sealer = sealer })
  kept_so kept other a b sealer is opened was settled same works = (
    settled,
    loads_same other (seen a.device) (seen b.device) same (subst (λ (es : List Entry). LoadsTo es (seen a.device)) (sym is) (was opened).1),
    subst (λ (ls : List (List ℕ)). Covers sealer (text_of ls)) (sym same) (was opened).2,
  )

  -- how many wait
  count_more : (es more : List Entry) (a : Log D) (sealer : Sealer) (p q : Pending) → State es a sealer p → IsWaiting sealer (waiting_of es p ++ more) q → q.count ≡ p.count + length more
  count_more es more a sealer p q is w = omega (arith, w.counted, length-append (waiting_of es p) more, length_waiting es p is.within)

  count_same : (es : List Entry) (a : Log D) (sealer : Sealer) (p q : Pending) → State es a sealer p → IsWaiting sealer (waiting_of es p) q → q.count ≡ p.count
  count_same es a sealer p q is w = w.counted ∙ length_waiting es p is.within

  -- what is kept, part by part
  pub store_more : (es more : List Entry) (a b : Log D) (sealer : Sealer) (p q : Pending) → State es a sealer p → a.state ≡ Open → p.count ≤ 998 → length more ≤ 2 → IsWaiting sealer (waiting_of es p ++ more) q
      → (IsTrue is_known → IsSettled seen may_leave is_usable b) → (IsTrue is_known → recovered (seen b.device) ≡ recovered (seen a.device)) → (IsTrue is_known → HasRoomFor seen q b) → State (es ++ more) b sealer q
  store_more es more a b sealer p q is opened few two w settled same room =
      let count = count_more es more a sealer p q is w in
      record {
        within = omega (arith, count, is.within, length-append es more);
        few = omega (arith, count, few, two);
        file = λ known. kept_so (kept_of es p) (kept_of (es ++ more) q) a b sealer (kept_more es more p q is.within count) opened (is.file known) (settled known) (same known);
        waits = λ works. subst (λ (ws : List Entry). IsWaiting sealer ws q) (sym (waiting_more es more p q is.within count)) w;
        behind = λ known works. room known;
      }

  pub store_still : (es : List Entry) (a b : Log D) (sealer : Sealer) (p q : Pending) → State es a sealer p → a.state ≡ Open → IsWaiting sealer (waiting_of es p) q
      → (IsTrue is_known → IsSettled seen may_leave is_usable b) → (IsTrue is_known → recovered (seen b.device) ≡ recovered (seen a.device)) → (IsTrue is_known → HasRoomFor seen q b) → State es b sealer q
  store_still es a b sealer p q is opened w settled same room =
      let count = count_same es a sealer p q is w in
      record {
        within = omega (arith, count, is.within);
        few = omega (arith, count, is.few);
        file = λ known. kept_so (kept_of es p) (kept_of es q) a b sealer (kept_same es p q count) opened (is.file known) (settled known) (same known);
        waits = λ works. subst (λ (ws : List Entry). IsWaiting sealer ws q) (sym (waiting_same es p q count)) w;
        behind = λ known works. room known;
      }

  -- once all are kept
  pub store_settled : (es : List Entry) (b : Log D) (sealer : Sealer) (q : Pending) → (IsTrue is_known → IsKept seen may_leave is_usable (record { entries = es; log = b; sealer = sealer })) → IsWaiting sealer [] q → State es b sealer q
  store_settled es b sealer q kept w =
      let none : q.count ≡ 0 = w.counted in
      record {
        within = omega (arith, none);
        few = omega (arith, none);
        file = λ known. subst (λ (ks : List Entry). IsKept seen may_leave is_usable (record { entries = ks; log = b; sealer = sealer })) (sym (kept_all es q none)) (kept known);
        waits = λ works. subst (λ (ws : List Entry). IsWaiting sealer ws q) (sym (none_waits es q none)) w;
        behind = λ known works some. absurd (omega (arith, none, some));
      }

  module _ (moment : D → ℕ) (left_since : D → ℕ → List ℕ → Type 0) (has_failed : D → Bool) where
    abbrev Only : StoreView D → List ℕ → Call → Answer → StoreView D → Type 0
    Only old by call answer new = GathersOnly is_known seen may_leave is_usable moment left_since has_failed old by call answer new

    abbrev So : StoreView D → StoreView D → Type 0
    So old new = Settles is_known seen may_leave is_usable moment left_since old new

    abbrev Off : StoreView D → StoreView D → Type 0
    Off old new = BreaksOff is_known moment left_since has_failed old new

    -- the lines of the file were the same at any moment
    abbrev Same : Log D → Log D → Type 0
    Same a b = LeavesOnly moment left_since a.device b.device (λ f. recovered f ≡ recovered (seen a.device))

    -- a crash leaves what is kept, which is the same
    keeps_same : (kept other : List Entry) (a b : Log D) → other ≡ kept → LoadsTo kept (seen a.device) → Same a b → LeavesOnly moment left_since a.device b.device (LoadsEither kept other)
    keeps_same kept other a b is loads run =
        subst (λ (es : List Entry). LeavesOnly moment left_since a.device b.device (LoadsEither kept es)) (sym is) (either_same moment left_since a.device b.device (seen a.device) kept loads run)

    -- the entries wait
    pub gathered : (es more : List Entry) (a b : Log D) (sealer : Sealer) (p q : Pending) (by : List ℕ) (call : Call) (reply : Reply) → IsReady es by call more reply → a.state ≡ Open → b.state ≡ a.state → State es a sealer p
        → IsWaiting sealer (waiting_of es p ++ more) q → (IsTrue is_known → IsSettled seen may_leave is_usable b) → (IsTrue is_known → recovered (seen b.device) ≡ recovered (seen a.device)) → (IsTrue is_known → Same a b)
        → Only (store_of es a sealer p) by call (Given reply) (store_of (es ++ more) b sealer q)
    gathered es more a b sealer p q by call reply are opened state is w settled same run =
        let kept : kept_of (es ++ more) q ≡ kept_of es p = kept_more es more p q is.within (count_more es more a sealer p q is w) in
        record {
          gathers = record {
            answers = are.steps;
            cause = λ known odd. absurd (cc);
            is_open = needs_open (stored (store_of es a sealer p)) call opened;
            query = λ odd. no_query call are.makes odd;
            state = state;
            file = λ known. kept_so (kept_of es p) (kept_of (es ++ more) q) a b sealer kept opened (is.file known) (settled known) (same known);
            kept = inl kept;
            keeps_whole = λ known works. keeps_same (kept_of es p) (kept_of (es ++ more) q) a b kept (is.file known opened).1 (run known);
          };
          same = kept;
        }

    not_kept : (fault : DeviceFault) (b : Log D) → (fault ≡ devices.OutOfMemory) ⊎ (IsTrue is_known → IsTrue (has_failed b.device) ⊎ (2 ^ 60 < b.end)) → IsTrue is_known → answer_to fault ≡ NotKept → IsTrue (has_failed b.device) ⊎ IsFull b
    not_kept devices.OutOfMemory b why known is = absurd (let odd : Given (replies.Refused causes.OutOfMemory) ≡ NotKept = is in cc)
    not_kept devices.StorageFull b (inl odd) known is = absurd (cc)
    not_kept devices.StorageFull b (inr why) known is = why known
    not_kept devices.Failed b (inl odd) known is = absurd (cc)
    not_kept devices.Failed b (inr why) known is = why known

    -- they don't, since memory ran out or the device doesn't take them
    pub not_gathered : (es more : List Entry) (a b : Log D) (sealer : Sealer) (p q : Pending) (by : List ℕ) (call : Call) (reply : Reply) (fault : DeviceFault) → IsReady es by call more reply → a.state ≡ Open → b.state ≡ a.state
        → (fault ≡ devices.OutOfMemory) ⊎ (IsTrue is_known → IsTrue (has_failed b.device) ⊎ (2 ^ 60 < b.end)) → State es a sealer p → IsWaiting sealer (waiting_of es p) q
        → (IsTrue is_known → IsSettled seen may_leave is_usable b) → (IsTrue is_known → recovered (seen b.device) ≡ recovered (seen a.device)) → (IsTrue is_known → Same a b)
        → Only (store_of es a sealer p) by call (answer_to fault) (store_of es b sealer q)
    not_gathered es more a b sealer p q by call reply fault are opened state why is w settled same run =
        let kept : kept_of es q ≡ kept_of es p = kept_same es p q (count_same es a sealer p q is w) in
        record {
          gathers = record {
            answers = answers_fault es by call fault are.makes are.free are.grows;
            cause = λ known odd. not_kept fault b why known odd;
            is_open = needs_open (stored (store_of es a sealer p)) call opened;
            query = λ odd. no_query call are.makes odd;
            state = state;
            file = λ known. kept_so (kept_of es p) (kept_of es q) a b sealer kept opened (is.file known) (settled known) (same known);
            kept = inl kept;
            keeps_whole = λ known works. keeps_same (kept_of es p) (kept_of es q) a b kept (is.file known opened).1 (run known);
          };
          same = kept;
        }

    -- nothing is to be made
    pub replied : (es new : List Entry) (log : Log D) (sealer : Sealer) (p : Pending) (by : List ℕ) (call : Call) (reply : Reply) → new ≡ es → NeedsOpen (stored (store_of es log sealer p)) call → State es log sealer p
        → ((c : List ℕ) → left_since log.device (moment log.device) c → may_leave log.device c) → Steps es by call reply new → Only (store_of es log sealer p) by call (Given reply) (store_of new log sealer p)
    replied es new log sealer p by call reply same is_open is only_now steps =
        subst (λ (xs : List Entry). Only (store_of es log sealer p) by call (Given reply) (store_of xs log sealer p)) (sym same)
        (record {
          gathers = record {
            answers = subst (λ (xs : List Entry). Steps es by call reply xs) same steps;
            cause = λ known odd. absurd (cc);
            is_open = is_open;
            query = λ query. refl;
            state = refl;
            file = is.file;
            kept = inl refl;
            keeps_whole = λ known works. either_start moment left_since seen may_leave is_usable log (kept_of es p) (is.file known works).0 (is.file known works).1 only_now;
          };
          same = refl;
        })

    -- ---- what waits is kept

    -- none does
    pub none_settle : (es : List Entry) (log : Log D) (sealer : Sealer) (p : Pending) → State es log sealer p → p.count ≡ 0 → ((c : List ℕ) → left_since log.device (moment log.device) c → may_leave log.device c)
        → So (store_of es log sealer p) (store_of es log sealer p)
    none_settle es log sealer p is none only_now = record {
      entries = refl;
      kept = kept_all es p none;
      takes = inl refl;
      file = is.file;
      keeps_whole = λ known works. either_start moment left_since seen may_leave is_usable log (kept_of es p) (is.file known works).0 (is.file known works).1 only_now;
    }

    -- a line has them
    abbrev Commits : Log D → Log D → Sealer → Sealer → Pending → Type 0
    Commits a b sealer other p = CommitsLine is_known seen may_leave is_usable moment left_since a b sealer other p

    some_wait : (es : List Entry) (a : Log D) (sealer : Sealer) (p : Pending) → State es a sealer p → 0 < p.count → 0 < length (waiting_of es p)
    some_wait es a sealer p is some = omega (arith, some, length_waiting es p is.within)

    pub settled_file : (es : List Entry) (a b : Log D) (sealer other : Sealer) (p : Pending) → State es a sealer p → a.state ≡ Open → 0 < p.count → Commits a b sealer other p
        → IsTrue is_known → IsKept seen may_leave is_usable (record { entries = es; log = b; sealer = other })
    settled_file es a b sealer other p is opened some commits known works =
        let m = commits known (kept_of es p) (waiting_of es p) (is.waits opened) (some_wait es a sealer p is some) (is.file known opened).1 (is.file known opened).2 in
        (m.0, subst (λ (xs : List Entry). LoadsTo xs (seen b.device)) (all_entries es p) m.1, m.2)

    pub all_settle : (es : List Entry) (a b : Log D) (sealer other : Sealer) (p q : Pending) → State es a sealer p → a.state ≡ Open → b.state ≡ Open → 0 < p.count → Commits a b sealer other p → IsWaiting other [] q
        → So (store_of es a sealer p) (store_of es b other q)
    all_settle es a b sealer other p q is opened still some commits w =
        let all : kept_of es q ≡ es = kept_all es q w.counted in
        record {
          entries = refl;
          kept = all;
          takes = inr (opened, still);
          file = λ known. subst (λ (xs : List Entry). IsKept seen may_leave is_usable (record { entries = xs; log = b; sealer = other })) (sym all) (settled_file es a b sealer other p is opened some commits known);
          keeps_whole = λ known works.
              subst (λ (xs : List Entry). LeavesOnly moment left_since a.device b.device (LoadsEither (kept_of es p) xs)) (all_entries es p ∙ sym all)
              (commits known (kept_of es p) (waiting_of es p) (is.waits opened) (some_wait es a sealer p is some) (is.file known opened).1 (is.file known opened).2).3;
        }

    some_left : (es : List Entry) (a : Log D) (sealer : Sealer) (p : Pending) → State es a sealer p → 0 < p.count → length (kept_of es p) < length es
    some_left es a sealer p is some = omega (arith, some, ap length (all_entries es p), length-append (kept_of es p) (waiting_of es p), length_waiting es p is.within)

    -- it hasn't, or isn't known to have
    pub none_kept : (es : List Entry) (a b : Log D) (sealer other : Sealer) (p q : Pending) → State es a sealer p → a.state ≡ Open → b.state ≢ Open → 0 < p.count → q.count ≡ p.count → (IsTrue is_known → IsTrue (has_failed b.device))
        → LosesLine is_known seen moment left_since a b sealer p → Off (store_of es a sealer p) (store_of es b other q)
    none_kept es a b sealer other p q is opened broken some count failed loses = record {
      entries = refl;
      kept = kept_same es p q count;
      waits = some_left es a sealer p is some;
      broken = broken;
      cause = λ known works. failed known;
      once = λ shut. absurd (shut opened);
      keeps_whole = λ known works.
          subst (λ (xs : List Entry). LeavesOnly moment left_since a.device b.device (LoadsEither (kept_of es p) xs)) (all_entries es p)
          (loses known (kept_of es p) (waiting_of es p) (is.waits opened) (some_wait es a sealer p is some) (is.file known opened).1 (is.file known opened).2);
    }

    -- the log was broken before
    pub still_broken : (es : List Entry) (log : Log D) (sealer : Sealer) (p : Pending) → State es log sealer p → log.state ≢ Open → 0 < p.count → Off (store_of es log sealer p) (store_of es log sealer p)
    still_broken es log sealer p is shut some = record {
      entries = refl;
      kept = refl;
      waits = some_left es log sealer p is some;
      broken = shut;
      cause = λ known works. absurd (shut works);
      once = λ _. refl;
      keeps_whole = λ known works. absurd (shut works);
    }

    -- ---- one behind the other

    pub still_open : (old new : StoreView D) → old.log.state ≡ Open → So old new → new.log.state ≡ Open
    still_open old new works so = ⊎_elim (λ same. ap (λ (g : StoreView D). g.log.state) same ∙ works) (λ took. took.1) so.takes

    -- what waited is kept, and then the call is made
    pub then_gathers : (old mid new : StoreView D) (by : List ℕ) (call : Call) (answer : Answer) → MakesEntries call → old.log.state ≡ Open → So old mid → Only mid by call answer new
        → Gathers is_known seen may_leave is_usable moment left_since has_failed old by call answer new
    then_gathers old mid new by call answer makes opened so k =
        let still : mid.log.state ≡ Open = still_open old mid opened so in
        record {
          answers = subst (λ (es : List Entry). Becomes es by call answer new.entries) so.entries k.gathers.answers;
          cause = k.gathers.cause;
          is_open = needs_open (stored old) call opened;
          query = λ odd. no_query call makes odd;
          state = k.gathers.state ∙ still ∙ sym opened;
          file = k.gathers.file;
          kept = inr (k.same ∙ so.kept ∙ so.entries);
          keeps_whole = λ known works.
              then_on moment left_since old.log.device mid.log.device new.log.device (LoadsEither old.kept mid.kept) (LoadsEither mid.kept new.kept) (LoadsEither old.kept new.kept)
              (so.keeps_whole known works) (k.gathers.keeps_whole known still)
              (λ f p. subst (λ (es : List Entry). LoadsEither old.kept es f) (sym k.same) p)
              (λ f p. inr (⊎_elim (λ loads. subst (λ (es : List Entry). LoadsTo es f) (sym k.same) loads) (λ loads. loads) p));
        }

    -- or nothing had to be
    pub gathers_either : (old mid new : StoreView D) (by : List ℕ) (call : Call) (answer : Answer) → MakesEntries call → old.log.state ≡ Open → (mid ≡ old) ⊎ So old mid → Only mid by call answer new
        → Gathers is_known seen may_leave is_usable moment left_since has_failed old by call answer new
    gathers_either old mid new by call answer makes opened (inl same) k = subst (λ (g : StoreView D). Gathers is_known seen may_leave is_usable moment left_since has_failed g by call answer new) same k.gathers
    gathers_either old mid new by call answer makes opened (inr so) k = then_gathers old mid new by call answer makes opened so k
