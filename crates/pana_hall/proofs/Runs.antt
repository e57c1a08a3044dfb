-- Runs, and the journals that refuse none of their entries.
use Rattle.pana_hall.proofs.Words.{nat_tests, arith, ◌≡◌, ℕ, List, [], ◌∷◌, ◌++◌, length, None, ◌≤◌, refl, sym, ap, ◌∙◌, subst, inl, append-nil, append_assoc, Entry, Call}
use Rattle.pana_hall.proofs.Words.{Cause, living, report_refusal, journal_from, RunsTo, Accepts, AcceptsAll, IsAccepted, map-append, AllByRecursion, families, AreRising, Exchange, IsRun, IsRunFrom}
use Rattle.pana_hall.proofs.Words.{IsNumbered, IsOrderly, OutOfMemory}
use Rattle.pana_calls.specs.declared.call.Call.TheVariants as calls
use Rattle.pana_hall.specs.{Refusal.refusal, Permit.Permits, Permit.PermitsBy, Permit.journal_after}
use Rattle.pana_calls.specs.{declared.reply.Reply.Reply, declared.reply.Reply.TheVariants.Done}
use Rattle.pana_hall.specs.{declared.load_fault.LoadFault.LoadFault, Load.IsLoadFault}
use Rattle.pana_calls.specs.declared.reply.Reply.TheVariants as replies
use Rattle.pana_hall.proofs.{Lists.each_weaker, Sound.accepted_is_sound, Tables.merged, Places.accepted_is_apart}
use Rattle.pana_hall.specs.declared.load_fault.LoadCause.TheVariants.{Refused as LoadRefused}

-- Runs, and the journals that refuse none of their entries.

-- an entry more that the journal accepts
pub accepts_on : (most : ℕ) (journal more : List Entry) (entry : Entry) → AcceptsAll most journal more → Accepts most (journal ++ more) entry → AcceptsAll most journal (more ++ entry ∷ [])
accepts_on most journal [] entry all accepts = (subst (λ j. Accepts most j entry) (append-nil journal) accepts, tt)
accepts_on most journal (e ∷ more) entry all accepts =
    (all.0, accepts_on most (journal ++ e ∷ []) more entry all.1 (subst (λ j. Accepts most j entry) (sym (append_assoc journal (e ∷ []) more)) accepts))

call_accepted : (journal : List Entry) (by : List ℕ) (call : Call) (reply : Reply) → Permits journal by call reply → IsAccepted 8 journal → IsAccepted 8 (journal_after journal by call reply)
unfolding Permits refusal journal_after
call_accepted journal by call reply h1 h2 = grind (arith, nat_tests, accepts_on)

run_accepted_from : (journal : List Entry) (run : List Exchange) → IsRunFrom journal run → IsAccepted 8 journal → IsAccepted 8 (journal_from journal run)
run_accepted_from journal [] permitted accepted = accepted
run_accepted_from journal (x ∷ run) permitted accepted =
    run_accepted_from (journal_after journal x.by x.call x.reply) run permitted.1 (call_accepted journal x.by x.call x.reply permitted.0 accepted)

-- the journal of a run refuses none of its entries
pub run_accepted : (run : List Exchange) → IsRun run → IsAccepted 8 (journal_from [] run)
run_accepted run permitted = run_accepted_from [] run permitted tt

-- the run in which each entry of a journal is done
pub run_of : List Entry → List Exchange
run_of [] = []
run_of (entry ∷ entries) = record { by = entry.by; call = calls.Report entry.report; reply = replies.Done entry.number } ∷ run_of entries

run_of_accepted_from : (journal entries : List Entry) → AcceptsAll 8 journal entries → IsRunFrom journal (run_of entries) × (journal_from journal (run_of entries) ≡ journal ++ entries)
unfolding Permits refusal journal_after run_of
run_of_accepted_from journal [] all = (tt, sym (append-nil journal))
run_of_accepted_from journal (entry ∷ entries) all =
    let rest = run_of_accepted_from (journal ++ entry ∷ []) entries all.1 in
    let permitted : PermitsBy (report_refusal 8 journal (living journal) entry.by entry.report) journal (calls.Report entry.report) (replies.Done entry.number)
    = rw (all.0.free) (inl (ap (λ n. replies.Done n) all.0.next)) in
    ((permitted, rest.0), rest.1 ∙ append_assoc journal (entry ∷ []) entries)

-- and each such journal is that of a run
pub run_of_accepted : (journal : List Entry) → IsAccepted 8 journal → IsRun (run_of journal) × (journal_from [] (run_of journal) ≡ journal)
run_of_accepted journal accepted = run_of_accepted_from [] journal accepted

-- Runs that go on, exchange by exchange.

pub journal_from-append : (journal : List Entry) (run : List Exchange) (x : Exchange)
    → journal_from journal (run ++ x ∷ []) ≡ journal_after (journal_from journal run) x.by x.call x.reply
journal_from-append journal [] x = refl
journal_from-append journal (y ∷ run) x = journal_from-append (journal_after journal y.by y.call y.reply) run x

pub IsRunFrom-append : (journal : List Entry) (run : List Exchange) (x : Exchange) → IsRunFrom journal run
    → Permits (journal_from journal run) x.by x.call x.reply → IsRunFrom journal (run ++ x ∷ [])
IsRunFrom-append journal [] x permitted last = (last, tt)
IsRunFrom-append journal (y ∷ run) x permitted last = (permitted.0, IsRunFrom-append (journal_after journal y.by y.call y.reply) run x permitted.1 last)

-- one call more
pub runs_on : (old new : List Entry) (calls : List (List ℕ × Call)) (replies : List Reply) (by : List ℕ) (call : Call) (reply : Reply) → RunsTo old calls replies new
    → Permits new by call reply → RunsTo old (calls ++ (by, call) ∷ []) (replies ++ reply ∷ []) (journal_after new by call reply)
runs_on old new calls replies by call reply so_far permitted =
    let x : Exchange = record { by = by; call = call; reply = reply } in
    record {
      run = so_far.run ++ x ∷ [];
      permitted = IsRunFrom-append old so_far.run x so_far.permitted (rw (so_far.left) permitted);
      left = journal_from-append old so_far.run x ∙ ap (λ journal. journal_after journal by call reply) so_far.left;
      called = map-append (λ y. (y.by, y.call)) so_far.run (x ∷ []) ∙ ap (λ l. l ++ (by, call) ∷ []) so_far.called;
      replied = map-append (λ y. y.reply) so_far.run (x ∷ []) ∙ ap (λ l. l ++ reply ∷ []) so_far.replied;
    }

-- What one entry more makes of an accepted journal: the facts that the hall's functions are proved from.

-- an accepted journal stays one with an entry more that it accepts
pub next_accepted : (most : ℕ) (journal : List Entry) (entry : Entry) → IsAccepted most journal → Accepts most journal entry → IsAccepted most (journal ++ entry ∷ [])
next_accepted most journal entry accepted accepts = accepts_on most [] journal entry accepted accepts

-- its nth entry has number n
pub numbers : (most : ℕ) (journal : List Entry) → IsAccepted most journal → IsNumbered journal
numbers most journal accepted = (accepted_is_sound most journal accepted).numbered

-- the living copies rise, and none has a number above the journal's length
pub rising : (most : ℕ) (journal : List Entry) → IsAccepted most journal
    → AreRising (λ copy. copy.known.copy) 0 (living journal) × AllByRecursion (λ copy. copy.known.copy ≤ length journal) (living journal)
rising most journal accepted =
    let all = merged most journal (accepted_is_sound most journal accepted) in
    (all.rising, each_weaker (λ copy. (copy.family ≡ families journal copy.known.copy) × (copy.known.copy ≤ length journal)) _ (living journal) (λ copy h. h.1) all.families)

-- and they are in order
pub orderly : (most : ℕ) (journal : List Entry) → IsAccepted most journal → IsOrderly journal
orderly most journal accepted =
    let all = merged most journal (accepted_is_sound most journal accepted) in
    grind (arith, nat_tests, accepted_is_apart, rising, numbers, each_weaker)

-- Entries that a hall recorded load again.

-- each entry is accepted after those before it
accepts_at : (journal before rest : List Entry) (entry : Entry) → AcceptsAll 8 journal (before ++ entry ∷ rest) → Accepts 8 (journal ++ before) entry
accepts_at journal [] rest entry all = subst (λ j. Accepts 8 j entry) (sym (append-nil journal)) all.0
accepts_at journal (e ∷ before) rest entry all = grind (arith, nat_tests, append_assoc, accepts_at (journal ++ e ∷ []) before rest entry all.1)

granted : (journal : List Entry) (entry : Entry) (cause : Cause) → report_refusal 8 journal (living journal) entry.by entry.report ≡ None
    → Permits journal entry.by (calls.Report entry.report) (replies.Refused cause) → cause ≡ OutOfMemory
unfolding Permits refusal
granted journal entry cause free permitted = grind (arith, nat_tests)

-- nothing but memory stops the entries of an accepted journal
pub own_entries : (entries : List Entry) (fault : LoadFault) → IsAccepted 8 entries → IsLoadFault entries fault → fault.cause ≡ LoadRefused OutOfMemory
own_entries entries fault h1 h2 = grind (arith, nat_tests, granted, accepts_at)
