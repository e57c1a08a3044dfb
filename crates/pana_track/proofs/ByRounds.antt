-- Calls that report what was noticed, by rounds.
use Rattle.std.proofs.Common.{◌≡◌, ℕ, zero, suc, ◌+◌, ◌-◌, ◌<◌, ◌≤◌, drop, take, List, [], ◌∷◌, ◌++◌, length, length-append, length-drop, Option, None, Some, inl, inr, Bool, true, false, refl, sym, ap, subst, ◌∙◌, append-nil, append_assoc, arith}
use Rattle.std.specs.List.{list_any}
use Rattle.std.proofs.lemmas.List.{drop_all, length-take}
use Rattle.std.proofs.Math.Nat.{min-le_right}
use Rattle.pana_calls.specs.Session.{AddsAll, AddsSome}
use Rattle.pana_calls.specs.declared.call.Call.{Call}
use Rattle.pana_calls.specs.declared.answer.Answer.{Answer}
use Rattle.pana_calls.specs.declared.answer.Answer.TheVariants.{NotKept}
use Rattle.pana_calls.specs.declared.message.Message.{Message}
use Rattle.pana_scan.specs.declared.notices.Notice.{Notice}
use Rattle.pana_track.specs.declared.fault.TrackFault.{TrackFault}
use Rattle.pana_track.specs.declared.fault.TrackFault.TheVariants as faults
use Rattle.pana_track.specs.declared.tally.TrackTally.{TrackTally}
use Rattle.pana_track.specs.Calls.{Asked, Makes, asked}
use Rattle.pana_track.specs.Tally.{noted_all}
use Rattle.pana_track.specs.Reports.{IsRound, ReportsRounds, is_unkept, messages_of, moved, stop_before}
use Rattle.pana_track.specs.inner.Rounds.{BreaksList, BreaksRound, BreaksRounds, MakesList, MakesRounds, ReportsList, ReportsRound, stop_behind}
use Rattle.pana_track.proofs.Listed.{as_many, asked_first, asked_on, behind_list, makes_asked, messages_len}
use Rattle.pana_track.proofs.Reported.{makes_on, noted_on}

-- answers, none of which is a promise
abbrev unkept_all : List Message → List Answer
unkept_all [] = []
unkept_all (m ∷ messages) = NotKept ∷ unkept_all messages

unkept_len : (messages : List Message) → length (unkept_all messages) ≡ length messages
unkept_len [] = refl
unkept_len (m ∷ messages) = omega (arith, unkept_len messages)

left_some : (notices : List Notice) → 1 ≤ length notices → Some faults.OutOfMemory ≡ stop_before notices
left_some [] some = absurd (omega (arith, some))
left_some (notice ∷ notices) some = refl

-- ---- one list

module _ {S : Type 0} (step : S → List ℕ → Call → Answer → S → Type 0) (device : List ℕ) (notices : List Notice) (old new : S) (before after : TrackTally) (messages : List Message) (none answers : List Answer)
    (are : messages ≡ messages_of device notices) (empty : none ≡ []) (counts : after ≡ noted_all before (asked (messages_of device notices) answers)) where
  -- all calls of a list have answers
  pub made_list : (left_old left_new : List Notice) (stop : Option TrackFault) (unkept : Bool) → AddsAll step old messages none answers new → left_new ≡ left_old ++ moved notices answers
      → unkept ≡ list_any is_unkept answers → stop ≡ stop_behind unkept → ReportsList step device notices old new before after left_old left_new stop
  made_list left_old left_new stop unkept all left is stops = inl (record {
    answers = answers;
    all = ap length given ∙ as_many step old messages all.given new all.makes ∙ ap length are ∙ messages_len device notices;
    calls = subst (λ (ms : List Message). Makes step old (asked ms answers) new) are (subst (λ (xs : List Answer). Makes step old (asked messages xs) new) (sym given) (makes_asked step old messages all.given new all.makes));
    left = left;
    tally = counts;
    stops = stops ∙ ap stop_behind is;
  }) where
    given : answers ≡ all.given
    given = all.adds ∙ ap (λ (xs : List Answer). xs ++ all.given) empty

  -- some have none
  pub broken_list : (fails : S → List Message → S → Type 0) → AddsSome step fails old messages none answers new → BreaksList step device notices old new before after fails
  broken_list fails some = record {
    answers = answers;
    made = some.made;
    tried = some.tried;
    behind = some.left;
    split = split;
    all = all;
    mid = some.mid;
    calls = subst (λ (xs : List Answer). Makes step old (asked some.made xs) some.mid) (sym given) (makes_asked step old some.made some.adds.given some.mid some.adds.makes);
    failed = some.failed;
    tally = counts ∙ ap (noted_all before) (ap (λ (ms : List Message). asked ms answers) split ∙ asked_first some.made (some.tried ++ some.left) answers all);
  } where
    given : answers ≡ some.adds.given
    given = some.adds.adds ∙ ap (λ (xs : List Answer). xs ++ some.adds.given) empty

    split : messages_of device notices ≡ some.made ++ (some.tried ++ some.left)
    split = sym are ∙ some.split

    all : length answers ≡ length some.made
    all = ap length given ∙ as_many step old some.made some.adds.given some.mid some.adds.makes

-- ---- one round

-- these are the calls of a round
abbrev pub IsSome : List ℕ → List Notice → List Asked → List Notice → Option TrackFault → Type 0
IsSome device notices made left stop = (lists : List (List Answer)) × IsRound device notices lists made left stop

-- of the first so many these calls have reported
pub record RoundSoFar {S : Type 0} (step : S → List ℕ → Call → Answer → S → Type 0) (device : List ℕ) (notices : List Notice) (done : ℕ) (old new : S) (tally_old tally_new : TrackTally) (left_old left_new : List Notice) : Type 0 where
  pub within : done ≤ length notices
  pub made : List Asked
  pub left : List Notice
  pub calls : Makes step old made new
  pub are : (others : List Asked) (behind : List Notice) (stop : Option TrackFault) → IsSome device (drop done notices) others behind stop → IsSome device notices (made ++ others) (left ++ behind) stop
  pub adds : left_new ≡ left_old ++ left
  pub tally : tally_new ≡ noted_all tally_old made

-- the calls of a list, behind which there may be more
ends_list : (device : List ℕ) (rest : List Notice) (answers : List Answer) → length answers ≡ length (take 100 rest)
    → (left : List Notice) × (stop : Option TrackFault) × IsSome device rest (asked (messages_of device (take 100 rest)) answers) left stop
ends_list device rest answers all = by (list_any is_unkept answers) refl where
  A : List Asked
  A = asked (messages_of device (take 100 rest)) answers

  M : List Notice
  M = moved (take 100 rest) answers

  by : (unkept : Bool) → list_any is_unkept answers ≡ unkept → (left : List Notice) × (stop : Option TrackFault) × IsSome device rest A left stop
  by true is = (M, Some faults.NotKept, (answers ∷ [], ([], [], all, sym (append-nil A), sym (append-nil M), inl (is, refl, refl, refl))))
  by false is = (M, stop_before (drop 100 rest), (answers ∷ [], ([], [], all, sym (append-nil A), sym (append-nil M), inr (is, (refl, refl, refl)))))

module _ {S : Type 0} (step : S → List ℕ → Call → Answer → S → Type 0) (device : List ℕ) (notices : List Notice) where
  pub none_yet : (old : S) (counts : TrackTally) (left : List Notice) → RoundSoFar step device notices 0 old old counts counts left left
  none_yet old counts left = record { within = omega arith; made = []; left = []; calls = refl; are = λ others behind stop is. is; adds = sym (append-nil left); tally = refl }

  module _ (done : ℕ) (old mid : S) (first before : TrackTally) (left_old left_mid : List Notice) (far : RoundSoFar step device notices done old mid first before left_old left_mid) where
    abbrev rest : List Notice
    rest = drop done notices

    -- all were reported
    pub round_made : length notices ≤ done → ReportsRound step device notices old mid first before left_old left_mid None
    round_made past = record {
      lists = all.0;
      made = far.made ++ [];
      left = far.left ++ [];
      calls = subst (λ (made : List Asked). Makes step old made mid) (sym (append-nil far.made)) far.calls;
      is = all.1;
      adds = far.adds ∙ ap (λ (left : List Notice). left_old ++ left) (sym (append-nil far.left));
      tally = far.tally ∙ ap (noted_all first) (sym (append-nil far.made));
    } where
      all : IsSome device notices (far.made ++ []) (far.left ++ []) None
      all = far.are [] [] None ([], (refl, refl, ap stop_before (sym (drop_all done notices past))))

    module _ (room : done < length notices) (list : List Notice) (is : list ≡ take 100 rest) (new : S) (after : TrackTally) (left_new : List Notice) where
      -- memory ran out before a list
      pub round_short : (stop : Option TrackFault) → stop ≡ Some faults.OutOfMemory → new ≡ mid → after ≡ before → left_new ≡ left_mid → ReportsRound step device notices old new first after left_old left_new stop
      round_short stop stops same counts left = record {
        lists = all.0;
        made = far.made ++ [];
        left = far.left ++ [];
        calls = subst (λ (s : S). Makes step old (far.made ++ []) s) (sym same) (subst (λ (made : List Asked). Makes step old made mid) (sym (append-nil far.made)) far.calls);
        is = all.1;
        adds = left ∙ far.adds ∙ ap (λ (left : List Notice). left_old ++ left) (sym (append-nil far.left));
        tally = counts ∙ far.tally ∙ ap (noted_all first) (sym (append-nil far.made));
      } where
        all : IsSome device notices (far.made ++ []) (far.left ++ []) stop
        all = far.are [] [] stop ([], (refl, refl, stops ∙ left_some rest (omega (arith, room, length-drop done notices))))

      abbrev asks : List Answer → List Asked
      asks answers = asked (messages_of device (take 100 rest)) answers

      -- the list's calls were made
      list_made : (stop : Option TrackFault) (one : MakesList step device (take 100 rest) mid new before after left_mid left_new stop) → Makes step old (far.made ++ asks one.answers) new
      list_made stop one = makes_on step old mid new far.made (asks one.answers) far.calls one.calls

      list_tally : (stop : Option TrackFault) (one : MakesList step device (take 100 rest) mid new before after left_mid left_new stop) → after ≡ noted_all first (far.made ++ asks one.answers)
      list_tally stop one = one.tally ∙ ap (λ (t : TrackTally). noted_all t (asks one.answers)) far.tally ∙ sym (noted_on first far.made (asks one.answers))

      list_left : (stop : Option TrackFault) (one : MakesList step device (take 100 rest) mid new before after left_mid left_new stop) → left_new ≡ left_old ++ (far.left ++ moved (take 100 rest) one.answers)
      list_left stop one = one.left ∙ ap (λ (left : List Notice). left ++ moved (take 100 rest) one.answers) far.adds ∙ append_assoc left_old far.left (moved (take 100 rest) one.answers)

      is_kept : (b : Bool) → None ≡ stop_behind b → b ≡ false
      is_kept true is = absurd (cc)
      is_kept false is = refl

      is_not_kept : (fault : TrackFault) (b : Bool) → Some fault ≡ stop_behind b → (b ≡ true) × (Some fault ≡ Some faults.NotKept)
      is_not_kept fault true is = (refl, is)
      is_not_kept fault false is = absurd (cc)

      -- more follows
      goes_on : MakesList step device (take 100 rest) mid new before after left_mid left_new None → RoundSoFar step device notices (done + length list) old new first after left_old left_new
      goes_on one = record {
        within = omega (arith, room, ap length is, length-take 100 rest, length-drop done notices, min-le_right 100 (length rest));
        made = far.made ++ asks one.answers;
        left = far.left ++ moved (take 100 rest) one.answers;
        calls = list_made None one;
        are = λ others behind stop more.
            let (lists, so) = more in
            let on = subst (λ (ns : List Notice). IsRound device ns lists others behind stop) (ap (λ (l : List Notice). drop (done + length l) notices) is ∙ behind_list done notices) so in
            subst (λ (made : List Asked). IsSome device notices made ((far.left ++ moved (take 100 rest) one.answers) ++ behind) stop) (sym (append_assoc far.made (asks one.answers) others))
            (subst (λ (left : List Notice). IsSome device notices (far.made ++ (asks one.answers ++ others)) left stop) (sym (append_assoc far.left (moved (take 100 rest) one.answers) behind))
            (far.are (asks one.answers ++ others) (moved (take 100 rest) one.answers ++ behind) stop (one.answers ∷ lists, (others, behind, one.all, refl, refl, inr (is_kept (list_any is_unkept one.answers) one.stops, on)))));
        adds = list_left None one;
        tally = list_tally None one;
      }

      -- it stops behind this list
      stops_behind : (fault : TrackFault) → MakesList step device (take 100 rest) mid new before after left_mid left_new (Some fault) → ReportsRound step device notices old new first after left_old left_new (Some fault)
      stops_behind fault one = record {
        lists = all.0;
        made = far.made ++ asks one.answers;
        left = far.left ++ moved (take 100 rest) one.answers;
        calls = list_made (Some fault) one;
        is = all.1;
        adds = list_left (Some fault) one;
        tally = list_tally (Some fault) one;
      } where
        all : IsSome device notices (far.made ++ asks one.answers) (far.left ++ moved (take 100 rest) one.answers) (Some fault)
        all =
            let so = is_not_kept fault (list_any is_unkept one.answers) one.stops in
            far.are (asks one.answers) (moved (take 100 rest) one.answers) (Some fault)
            (one.answers ∷ [], ([], [], one.all, sym (append-nil (asks one.answers)), sym (append-nil (moved (take 100 rest) one.answers)), inl (so.0, refl, refl, so.1)))

      abbrev OneList : List Notice → Option TrackFault → Type 0
      OneList ns stop = ReportsList step device ns mid new before after left_mid left_new stop

      none_stops : Some faults.OutOfMemory ≡ None → ⊥
      none_stops odd = absurd (cc)

      pub list_reported : OneList list None → RoundSoFar step device notices (done + length list) old new first after left_old left_new
      list_reported one = by (subst (λ (ns : List Notice). OneList ns None) is one) where
        by : OneList (take 100 rest) None → RoundSoFar step device notices (done + length list) old new first after left_old left_new
        by (inl made) = goes_on made
        by (inr short) = absurd (none_stops (sym short.0))

      pub list_stops : (fault : TrackFault) → OneList list (Some fault) → ReportsRound step device notices old new first after left_old left_new (Some fault)
      list_stops fault one = by (subst (λ (ns : List Notice). OneList ns (Some fault)) is one) where
        by : OneList (take 100 rest) (Some fault) → ReportsRound step device notices old new first after left_old left_new (Some fault)
        by (inl made) = stops_behind fault made
        by (inr short) = round_short (Some fault) short.0 short.1 short.2 short.3

      -- some of the list's calls have no answers
      pub list_breaks : (fails : S → List Message → S → Type 0) → BreaksList step device list mid new before after fails → BreaksRound step device notices old new first after fails
      list_breaks fails given = record {
        made = far.made ++ asked off.made off.answers;
        mid = off.mid;
        messages = off.tried;
        calls = makes_on step old mid off.mid far.made (asked off.made off.answers) far.calls off.calls;
        next = next;
        failed = off.failed;
        tally = off.tally ∙ ap (λ (t : TrackTally). noted_all t (asked off.made off.answers)) far.tally ∙ sym (noted_on first far.made (asked off.made off.answers));
      } where
        off : BreaksList step device (take 100 rest) mid new before after fails
        off = subst (λ (ns : List Notice). BreaksList step device ns mid new before after fails) is given

        next : (answers : List Answer) → length answers ≡ length off.tried
            → (others : List Asked) × ((lists : List (List Answer)) × (left : List Notice) × (stop : Option TrackFault) × IsRound device notices lists ((far.made ++ asked off.made off.answers) ++ (asked off.tried answers ++ others)) left stop)
        next answers many = (others, (so.0, far.left ++ end.0, end.1, so.1)) where
          fill : List Answer
          fill = unkept_all off.behind

          whole : List Answer
          whole = off.answers ++ (answers ++ fill)

          others : List Asked
          others = asked off.behind fill

          all : length whole ≡ length (take 100 rest)
          all = omega (arith, many, off.all, unkept_len off.behind, messages_len device (take 100 rest), ap length off.split, length-append off.answers (answers ++ fill), length-append answers fill, length-append off.made (off.tried ++ off.behind), length-append off.tried off.behind)

          parts : asks whole ≡ asked off.made off.answers ++ (asked off.tried answers ++ others)
          parts = ap (λ (ms : List Message). asked ms whole) off.split ∙ asked_on off.made (off.tried ++ off.behind) off.answers (answers ++ fill) off.all
              ∙ ap (λ (xs : List Asked). asked off.made off.answers ++ xs) (asked_on off.tried off.behind answers fill many)

          end : (left : List Notice) × (stop : Option TrackFault) × IsSome device rest (asks whole) left stop
          end = ends_list device rest whole all

          so : IsSome device notices ((far.made ++ asked off.made off.answers) ++ (asked off.tried answers ++ others)) (far.left ++ end.0) end.1
          so = subst (λ (made : List Asked). IsSome device notices made (far.left ++ end.0) end.1) (ap (λ (xs : List Asked). far.made ++ xs) parts ∙ sym (append_assoc far.made (asked off.made off.answers) (asked off.tried answers ++ others)))
              (far.are (asks whole) end.0 end.1 end.2)

-- ---- the rounds

-- where a round stops, or behind it
pub ends_rounds : (rounds : ℕ) (device : List ℕ) (notices : List Notice) → (stop : Option TrackFault) × ReportsRounds rounds device notices [] stop
ends_rounds rounds device [] = (None, (refl, refl))
ends_rounds zero device (notice ∷ notices) = (None, (refl, refl))
ends_rounds (suc rounds) device (notice ∷ notices) = (Some faults.OutOfMemory, ([], [], [], [], refl, inl (faults.OutOfMemory, (refl, refl, refl), refl, refl)))

module _ (device : List ℕ) (rounds : ℕ) (first : List Asked) (left : List Notice) where
  -- one round more
  one_more : (notices : List Notice) (others : List Asked) (stop : Option TrackFault) → 1 ≤ length notices → IsSome device notices first left None → ReportsRounds rounds device left others stop → ReportsRounds (suc rounds) device notices (first ++ others) stop
  one_more [] others stop some is on = absurd (omega (arith, some))
  one_more (notice ∷ notices) others stop some (lists, is) on = (lists, first, others, left, refl, inr (is, on))

  -- the last one
  last_round : (notices : List Notice) (fault : TrackFault) → 1 ≤ length notices → IsSome device notices first left (Some fault) → ReportsRounds (suc rounds) device notices first (Some fault)
  last_round [] fault some is = absurd (omega (arith, some))
  last_round (notice ∷ notices) fault some (lists, is) = (lists, first, [], left, sym (append-nil first), inl (fault, is, refl, refl))

  -- one or the other
  ends_so : (notices : List Notice) (stop : Option TrackFault) → 1 ≤ length notices → IsSome device notices first left stop → (end : Option TrackFault) × ReportsRounds (suc rounds) device notices first end
  ends_so notices (Some fault) some is = (Some fault, last_round notices fault some is)
  ends_so notices None some is =
      let end = ends_rounds rounds device left in
      (end.0, subst (λ (made : List Asked). ReportsRounds (suc rounds) device notices made end.0) (append-nil first) (one_more notices [] end.0 some is end.1))

none_left : (rounds : ℕ) (device : List ℕ) (notices : List Notice) → notices ≡ [] → ReportsRounds rounds device notices [] None
none_left rounds device [] is = (refl, refl)
none_left rounds device (notice ∷ notices) is = absurd (cc)

no_round : (device : List ℕ) (notices : List Notice) → ReportsRounds zero device notices [] None
no_round device [] = (refl, refl)
no_round device (notice ∷ notices) = (refl, refl)

-- these calls were made in so many rounds
pub record RoundsSoFar {S : Type 0} (step : S → List ℕ → Call → Answer → S → Type 0) (device : List ℕ) (notices : List Notice) (index : ℕ) (round : List Notice) (old new : S) (tally_old tally_new : TrackTally) : Type 0 where
  pub made : List Asked
  pub calls : Makes step old made new
  pub are : (others : List Asked) (stop : Option TrackFault) → ReportsRounds (1000 - index) device round others stop → ReportsRounds 1000 device notices (made ++ others) stop
  pub tally : tally_new ≡ noted_all tally_old made

module _ {S : Type 0} (step : S → List ℕ → Call → Answer → S → Type 0) (device : List ℕ) (notices : List Notice) where
  pub first_round : (round : List Notice) (old : S) (counts : TrackTally) → round ≡ notices → RoundsSoFar step device notices 0 round old old counts counts
  first_round round old counts same = record { made = []; calls = refl; are = λ others stop is. subst (λ (ns : List Notice). ReportsRounds 1000 device ns others stop) same is; tally = refl }

  -- memory ran out before the first round
  pub runs_out : (old : S) (counts : TrackTally) → 1 ≤ length notices → MakesRounds step device notices old old counts counts (Some faults.OutOfMemory)
  runs_out old counts some = record { made = []; calls = refl; are = last_round device 999 [] [] notices faults.OutOfMemory some ([], (refl, refl, left_some notices some)); tally = refl }

  module _ (index : ℕ) (round : List Notice) (old mid : S) (first before : TrackTally) (far : RoundsSoFar step device notices index round old mid first before) where
    ends_here : ReportsRounds (1000 - index) device round [] None → MakesRounds step device notices old mid first before None
    ends_here is = record {
      made = far.made;
      calls = far.calls;
      are = subst (λ (made : List Asked). ReportsRounds 1000 device notices made None) (append-nil far.made) (far.are [] None is);
      tally = far.tally;
    }

    -- nothing is left
    pub comes_to_rest : round ≡ [] → MakesRounds step device notices old mid first before None
    comes_to_rest none = ends_here (none_left (1000 - index) device round none)

    -- a thousand rounds were made
    pub all_rounds : 1000 ≤ index → MakesRounds step device notices old mid first before None
    all_rounds past = ends_here (subst (λ (n : ℕ). ReportsRounds n device round [] None) zero_left (no_round device round)) where
      zero_left : 0 ≡ 1000 - index
      zero_left = omega (arith, past)

    module _ (room : index < 1000) (some : 1 ≤ length round) (new : S) (after : TrackTally) where
      next_left : suc (1000 - (index + 1)) ≡ 1000 - index
      next_left = omega (arith, room)

      on : (others : List Asked) (stop : Option TrackFault) → ReportsRounds (suc (1000 - (index + 1))) device round others stop → ReportsRounds 1000 device notices (far.made ++ others) stop
      on others stop is = far.are others stop (subst (λ (n : ℕ). ReportsRounds n device round others stop) next_left is)

      -- a round was made, and these are left
      pub round_on : (left : List Notice) → ReportsRound step device round mid new before after [] left None → RoundsSoFar step device notices (index + 1) left old new first after
      round_on left one = record {
        made = far.made ++ one.made;
        calls = makes_on step old mid new far.made one.made far.calls one.calls;
        are = λ others stop is.
            subst (λ (made : List Asked). ReportsRounds 1000 device notices made stop) (sym (append_assoc far.made one.made others))
            (on (one.made ++ others) stop (one_more device (1000 - (index + 1)) one.made left round others stop some (subst (λ (ns : List Notice). IsSome device round one.made ns None) (sym one.adds) (one.lists, one.is)) is));
        tally = one.tally ∙ ap (λ (t : TrackTally). noted_all t one.made) far.tally ∙ sym (noted_on first far.made one.made);
      }

      -- it stops in a round
      pub round_stops : (left : List Notice) (fault : TrackFault) → ReportsRound step device round mid new before after [] left (Some fault) → MakesRounds step device notices old new first after (Some fault)
      round_stops left fault one = record {
        made = far.made ++ one.made;
        calls = makes_on step old mid new far.made one.made far.calls one.calls;
        are = on one.made (Some fault) (last_round device (1000 - (index + 1)) one.made one.left round fault some (one.lists, one.is));
        tally = one.tally ∙ ap (λ (t : TrackTally). noted_all t one.made) far.tally ∙ sym (noted_on first far.made one.made);
      }

      -- calls of a round have no answers
      pub round_breaks : (fails : S → List Message → S → Type 0) → BreaksRound step device round mid new before after fails → BreaksRounds step device notices old new first after fails
      round_breaks fails off = record {
        made = far.made ++ off.made;
        mid = off.mid;
        messages = off.messages;
        calls = makes_on step old mid off.mid far.made off.made far.calls off.calls;
        next = λ answers many.
            let (others, one) = off.next answers many in
            let (lists, left, stop, is) = one in
            let all = off.made ++ (asked off.messages answers ++ others) in
            let end = ends_so device (1000 - (index + 1)) all left round stop some (lists, is) in (
              others,
              (end.0, subst (λ (made : List Asked). ReportsRounds 1000 device notices made end.0) (sym (append_assoc far.made off.made (asked off.messages answers ++ others))) (on all end.0 end.1)),
            );
        failed = off.failed;
        tally = off.tally ∙ ap (λ (t : TrackTally). noted_all t off.made) far.tally ∙ sym (noted_on first far.made off.made);
      }
