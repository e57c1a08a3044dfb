-- The calls of tracking a folder.
use Rattle.std.proofs.Common.{Result, Ok, Err, IfOk, OnErr, ◌≡◌, ℕ, List, [], ◌∷◌, ◌++◌, Option, None, Some, ◌⊎◌, inl, inr, Bool, true, false, not, ◌&&◌, refl, sym, ap, subst, ◌∙◌, append-nil}
use Rattle.pana_calls.specs.declared.call.Call.{Call}
use Rattle.pana_calls.specs.declared.call.Call.TheVariants as calls
use Rattle.pana_calls.specs.declared.call.Query.TheVariants as queries
use Rattle.pana_calls.specs.Session.{one}
use Rattle.pana_calls.specs.declared.holding.Holding.{Holding}
use Rattle.pana_calls.specs.declared.answer.Answer.{Answer}
use Rattle.pana_calls.specs.declared.answer.NoAnswer.{NoAnswer}
use Rattle.pana_calls.specs.declared.message.Message.{Message}
use Rattle.pana_scan.specs.declared.notices.Notice.{Notice}
use Rattle.pana_track.specs.declared.fault.TrackFault.{TrackFault}
use Rattle.pana_track.specs.declared.fault.TrackFault.TheVariants as faults
use Rattle.pana_track.specs.declared.reading.TrackedListing.{TrackedListing}
use Rattle.pana_track.specs.declared.tally.TrackTally.{TrackTally}
use Rattle.pana_track.specs.Calls.{Asked, Makes, asked}
use Rattle.pana_track.specs.Tally.{noted_all}
use Rattle.pana_track.specs.Reports.{ReportsBy}
use Rattle.pana_calls.specs.Parts.{holdings_in}
use Rattle.pana_track.specs.Track.{Breaks, BreaksAtOne, BreaksAtSome, Follows, IsTrack, RunsShort, Tracks, is_lost, noticed_in}
use Rattle.pana_track.specs.inner.Reporting.{Asks, BreaksOff}
use Rattle.pana_track.specs.inner.Rounds.{BreaksOffBy, ReportsAllBy}
use Rattle.pana_track.proofs.Either.{asked_one, in_turn}

-- some end of what follows from the answer
ends_somehow : (lost : Bool) → (stop : Option TrackFault) × (((lost ≡ true) × ◌≡◌ {A = List Asked} [] [] × (stop ≡ Some faults.Empty)) ⊎ ((lost ≡ false) × RunsShort [] stop))
ends_somehow true = (Some faults.Empty, inl (refl, refl, refl))
ends_somehow false = (Some faults.OutOfMemory, inr (refl, (refl, refl)))

follows_somehow : (together may_be_empty : Bool) (found : TrackedListing) (held : Option (List Holding)) → (stop : Option TrackFault) × Follows together may_be_empty found held [] stop
follows_somehow together may_be_empty found None = (Some faults.OutOfMemory, (refl, refl))
follows_somehow together may_be_empty found (Some holdings) = reported (ends_somehow (is_lost found holdings && not may_be_empty)) where
  reported : ((stop : Option TrackFault) × (((is_lost found holdings && not may_be_empty ≡ true) × ◌≡◌ {A = List Asked} [] [] × (stop ≡ Some faults.Empty)) ⊎ ((is_lost found holdings && not may_be_empty ≡ false) × RunsShort [] stop)))
      → (stop : Option TrackFault) × Follows together may_be_empty found (Some holdings) [] stop
  reported (stop, inl lost) = (stop, inl lost)
  reported (stop, inr short) = (stop, inr (short.0, inr short.1))

-- one notice after another is always right
follows_any : (may_be_empty : Bool) (found : TrackedListing) (held : Option (List Holding)) (reported : List Asked) (stop : Option TrackFault) → Follows false may_be_empty found held reported stop → Follows true may_be_empty found held reported stop
follows_any may_be_empty found None reported stop is = is
follows_any may_be_empty found (Some holdings) reported stop (inl lost) = inl lost
follows_any may_be_empty found (Some holdings) reported stop (inr (there, inl is)) = inr (there, inl (in_turn true found.listing.device (noticed_in found holdings) reported stop is))
follows_any may_be_empty found (Some holdings) reported stop (inr (there, inr short)) = inr (there, inr short)

track_any : (may_be_empty : Bool) (found : TrackedListing) (made : List Asked) (stop : Option TrackFault) → IsTrack false may_be_empty found made stop → IsTrack true may_be_empty found made stop
track_any may_be_empty found [] stop is = is
track_any may_be_empty found (asked ∷ reported) stop (by, call, follows) = (by, call, follows_any may_be_empty found (holdings_in asked.answer) reported stop follows)

-- one call that has no answer is some
breaks_any : {S : Type 0} (step : S → List ℕ → Call → Answer → S → Type 0) (together : Bool) (fails : S → List Message → S → Type 0) (may_be_empty : Bool) (found : TrackedListing) (old new : S) (before after : TrackTally)
    → BreaksAtOne step (one fails) may_be_empty found old new before after → Breaks step together fails may_be_empty found old new before after
breaks_any step false fails may_be_empty found old new before after off = off
breaks_any step true fails may_be_empty found old new before after off = record {
  made = off.made;
  mid = off.mid;
  messages = message ∷ [];
  calls = off.calls;
  next = λ answers many.
      let one = asked_one message (λ (more : List Asked). (stop : Option TrackFault) × IsTrack true may_be_empty found (off.made ++ more) stop) answers many (λ answer. let so = off.next answer in (so.0, track_any may_be_empty found _ so.0 so.1)) in
      ([], one.0, subst (λ (more : List Asked). IsTrack true may_be_empty found (off.made ++ more) one.0) (sym (append-nil (asked (message ∷ []) answers))) one.1);
  failed = off.failed;
  tally = off.tally;
} where
  message : Message
  message = record { by = found.listing.device; call = off.call }

module _ {S : Type 0} (step : S → List ℕ → Call → Answer → S → Type 0) (may_be_empty : Bool) (found : TrackedListing) (device : List ℕ) (own : device ≡ found.listing.device) where
  abbrev query : Call
  query = calls.Query (queries.Holdings device None)

  abbrev asking : Answer → Asked
  asking answer = record { by = device; call = query; answer = answer }

  query_is : query ≡ calls.Query (queries.Holdings found.listing.device None)
  query_is = ap (λ (d : List ℕ). calls.Query (queries.Holdings d None)) own

  -- the question has no answer
  none_asked_one : (fails : S → List ℕ → Call → S → Type 0) (old new : S) (before after : TrackTally) → after ≡ before → fails old device query new → BreaksAtOne step fails may_be_empty found old new before after
  none_asked_one fails old new before after same failed = record {
    made = [];
    mid = old;
    call = query;
    calls = refl;
    next = λ answer. let so = follows_somehow false may_be_empty found (holdings_in answer) in (so.0, (refl, query_is, so.1));
    failed = subst (λ (d : List ℕ). fails old d query new) own failed;
    tally = same;
  }

  pub none_asked : (together : Bool) (fails : S → List Message → S → Type 0) (old new : S) (before after : TrackTally) → after ≡ before → one fails old device query new → Breaks step together fails may_be_empty found old new before after
  none_asked together fails old new before after same failed = breaks_any step together fails may_be_empty found old new before after (none_asked_one (one fails) old new before after same failed)

  module _ (old mid : S) (first before : TrackTally) (held : Option (List Holding)) (asks : Asks step device old mid first before held) where
    -- what follows was reported
    pub tracks : (together : Bool) (new : S) (after : TrackTally) (reported : List Asked) (stop : Option TrackFault) → Makes step mid reported new → after ≡ noted_all before reported → Follows together may_be_empty found held reported stop
        → Tracks step together may_be_empty found old new first after stop
    tracks together new after reported stop makes counts follows = record {
      made = asking asks.0 ∷ reported;
      calls = (mid, asks.1, makes);
      are = (own, query_is, subst (λ (h : Option (List Holding)). Follows together may_be_empty found h reported stop) asks.2 follows);
      tally = counts ∙ ap (λ (t : TrackTally). noted_all t reported) asks.3;
    }

    -- nothing was reported
    pub reports_nothing : (together : Bool) (stop : Option TrackFault) → Follows together may_be_empty found held [] stop → Tracks step together may_be_empty found old mid first before stop
    reports_nothing together stop follows = tracks together mid before [] stop refl refl follows

    -- no holdings were answered
    pub reports_none : (together : Bool) → held ≡ None → Tracks step together may_be_empty found old mid first before (Some faults.OutOfMemory)
    reports_none together none = reports_nothing together (Some faults.OutOfMemory) (subst (λ (h : Option (List Holding)). Follows together may_be_empty found h [] (Some faults.OutOfMemory)) (sym none) (refl, refl))

    module _ (holdings : List Holding) (is : held ≡ Some holdings) where
      follows_by : (together : Bool) (reported : List Asked) (stop : Option TrackFault) → Follows together may_be_empty found (Some holdings) reported stop → Follows together may_be_empty found held reported stop
      follows_by together reported stop follows = subst (λ (h : Option (List Holding)). Follows together may_be_empty found h reported stop) (sym is) follows

      -- the folder has no file, and its device has copies
      pub is_empty : (together : Bool) → is_lost found holdings && not may_be_empty ≡ true → Tracks step together may_be_empty found old mid first before (Some faults.Empty)
      is_empty together lost = reports_nothing together (Some faults.Empty) (follows_by together [] (Some faults.Empty) (inl (lost, refl, refl)))

      module _ (there : is_lost found holdings && not may_be_empty ≡ false) where
        pub runs_short : (together : Bool) → Tracks step together may_be_empty found old mid first before (Some faults.OutOfMemory)
        runs_short together = reports_nothing together (Some faults.OutOfMemory) (follows_by together [] (Some faults.OutOfMemory) (inr (there, inr (refl, refl))))

        module _ (notices : List Notice) (are : notices ≡ noticed_in found holdings) where
          reports_by : (together : Bool) (reported : List Asked) (stop : Option TrackFault) → ReportsBy together device notices reported stop → Follows together may_be_empty found held reported stop
          reports_by together reported stop reports =
              follows_by together reported stop
              (inr (there, inl (subst (λ (d : List ℕ). ReportsBy together d (noticed_in found holdings) reported stop) own (subst (λ (ns : List Notice). ReportsBy together device ns reported stop) are reports))))

          all_reported : (together : Bool) (new : S) (after : TrackTally) (stop : Option TrackFault) → ReportsAllBy step device notices mid new before after together stop → Tracks step together may_be_empty found old new first after stop
          all_reported together new after stop all = tracks together new after all.made stop all.calls all.tally (reports_by together all.made stop all.are)

          breaks_at_one : (fails : S → List ℕ → Call → S → Type 0) (new : S) (after : TrackTally) → BreaksOff step fails device notices mid new before after → BreaksAtOne step fails may_be_empty found old new first after
          breaks_at_one fails new after off = record {
            made = asking asks.0 ∷ off.made;
            mid = off.mid;
            call = off.call;
            calls = (mid, asks.1, off.calls);
            next = λ answer.
                let so = off.next answer in (
                  so.0,
                  (
                    own,
                    query_is,
                    subst (λ (d : List ℕ). Follows false may_be_empty found (holdings_in asks.0) (off.made ++ record { by = d; call = off.call; answer = answer } ∷ []) so.0) own
                        (subst (λ (h : Option (List Holding)). Follows false may_be_empty found h (off.made ++ record { by = device; call = off.call; answer = answer } ∷ []) so.0) asks.2 (reports_by false (off.made ++ record { by = device; call = off.call; answer = answer } ∷ []) so.0 so.1)),
                  ),
                );
            failed = subst (λ (d : List ℕ). fails off.mid d off.call new) own off.failed;
            tally = off.tally ∙ ap (λ (t : TrackTally). noted_all t off.made) asks.3;
          }

          breaks_at_some : (fails : S → List Message → S → Type 0) (new : S) (after : TrackTally) → BreaksOffBy step device notices mid new before after true fails → BreaksAtSome step fails may_be_empty found old new first after
          breaks_at_some fails new after off = record {
            made = asking asks.0 ∷ off.made;
            mid = off.mid;
            messages = off.messages;
            calls = (mid, asks.1, off.calls);
            next = λ answers many.
                let so = off.next answers many in
                let reported = off.made ++ (asked off.messages answers ++ so.0) in
                (so.0, so.1.0, (own, query_is, subst (λ (h : Option (List Holding)). Follows true may_be_empty found h reported so.1.0) asks.2 (reports_by true reported so.1.0 so.1.1)));
            failed = off.failed;
            tally = off.tally ∙ ap (λ (t : TrackTally). noted_all t off.made) asks.3;
          }

          breaks : (together : Bool) (fails : S → List Message → S → Type 0) (new : S) (after : TrackTally) → BreaksOffBy step device notices mid new before after together fails → Breaks step together fails may_be_empty found old new first after
          breaks false fails new after off = breaks_at_one (one fails) new after off
          breaks true fails new after off = breaks_at_some fails new after off

          pub if_reported : (together : Bool) (result : Result (Option TrackFault) NoAnswer) (new : S) (after : TrackTally) → IfOk result (ReportsAllBy step device notices mid new before after together)
              → IfOk result (Tracks step together may_be_empty found old new first after)
          if_reported together (Ok stop) new after all = all_reported together new after stop all
          if_reported together (Err none) new after all = tt

          pub if_broken : (together : Bool) (fails : S → List Message → S → Type 0) (result : Result (Option TrackFault) NoAnswer) (new : S) (after : TrackTally) → OnErr result (BreaksOffBy step device notices mid new before after together fails)
              → OnErr result (Breaks step together fails may_be_empty found old new first after)
          if_broken together fails (Ok stop) new after off = tt
          if_broken together fails (Err none) new after off = breaks together fails new after off
