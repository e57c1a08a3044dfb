-- Where the calls of a store's life stand.
use Rattle.std.proofs.Common.{◌≡◌, ◌⊎◌, inl, inr, ◌<◌, ◌≤◌, ℕ, ◌+◌, Bool, IsTrue, List, [], ◌∷◌, ◌++◌, length, map, Option, Some, None, refl, sym, ap, subst, ◌∙◌, append-nil, length-append}
use native.Mathlib.Omega.{arith}
use Rattle.std.specs.Prelude.{MatchOption}
use Rattle.std.specs.List.{AllByRecursion, flat_map}
use Rattle.std.proofs.lemmas.List.{length-map, map-append}
use mathlib.Core.List.{IsPrefix}
use Rattle.pana_journal.specs.declared.entry.Entry.{Entry}
use Rattle.pana_calls.specs.declared.answer.Answer.{Answer}
use Rattle.pana_calls.specs.declared.message.Message.{Message}
use Rattle.pana_shared.specs.declared.record.Record.{Record}
use Rattle.pana_shared.specs.Log.{IsOneOf, Lands, ours}
use Rattle.pana_shared_store.specs.Store.{AreFirst, Becomes, Fails, Makes, StaysOn, StoreView, TriesBy, entries_in, recorded_all}
use Rattle.pana_shared_store.specs.inner.{AreBefore}
use Rattle.pana_shared_store.proofs.Followed.{first_within, still_first}
use Rattle.pana_shared_store.proofs.Placed.{looked_on}
use Rattle.pana_shared_store.proofs.Tried.{stays_none}
use Rattle.pana_shared_laws.specs.Groups.{AreGroups}
use Rattle.pana_shared_laws.specs.Lives.{Deed, Does, IsLife, Life, Lives, Step, Waits, steps_of}
use Rattle.pana_shared_laws.specs.OneHistory.{AreInARow, AreOf, AreWhole, HaveNone, HaveTurns, InOrder, Standing, StandsIn, group_of, place_behind}
use Rattle.pana_shared_laws.proofs.Asked.{Comes, comes, fine_tries}
use Rattle.pana_shared_laws.proofs.Called.{asked_none, fine_made, refused_none, replied, reply_of, rest_made}
use Rattle.pana_shared_laws.proofs.Fine.{IsFine, first_more, goes_within}
use Rattle.pana_shared_laws.proofs.Grouped.{groups_behind}
use Rattle.pana_shared_laws.proofs.Recorded.{all_both}
use Rattle.pana_shared_laws.proofs.Rested.{Rest, rest_slip, rest_tail, rest_unslip}
use Rattle.pana_shared_laws.proofs.Stayed.{fine_stays, rest_stays}
use Rattle.pana_shared_laws.proofs.Stood.{Stood, stood_all, stood_none, turns_from}

abbrev AreAllOrNone : List Standing → Type 0
AreAllOrNone calls = HaveNone calls ⊎ ((at : List Entry) × AreInARow at calls)

-- where the calls of a deed stand, and what is left of the log then
pub record Stands (w : ℕ) (records : List Record) (is_stale : Bool) (begun ended : StoreView) (answer : Option Answer) (steps : List Step) (groups : List (ℕ × List Record)) : Type 0 where
  pub calls : List Standing
  pub are : map (λ call. call.step) calls ≡ steps
  pub stand : AllByRecursion (λ call. StandsIn records call) calls
  pub same : AllByRecursion (λ call. call.step.begun.is_stale ≡ is_stale) calls
  pub order : (from : ℕ) (later : List Standing) → from ≤ length begun.entries → InOrder (place_behind from answer (length ended.entries)) later → InOrder from (calls ++ later)
  pub turns : (from : ℕ) (later : List Standing) → from ≤ begun.turn → HaveTurns ended.turn later → HaveTurns from (calls ++ later)
  pub whole : MatchOption answer (AreAllOrNone calls) (λ a. Unit {0})
  pub rest : Rest w records begun.seen (map (λ call. group_of w call) calls ++ groups)

module _ (is_known : Bool) (known : IsTrue is_known) (w : ℕ) where
  abbrev Fine : StoreView → Type 0
  Fine s = IsFine w s.entries s.turn s.seen

  abbrev Stay : StoreView → StoreView → Type 0
  Stay old new = StaysOn is_known old.entries old.seen new.entries new.seen

  -- a store that has waited, or is broken, has done nothing
  waited : (old new : StoreView) → Fine old → Waits is_known old new → Stay old new
  waited old new fine waits = record {
    goes_on = ([], waits.entries ∙ sym (append-nil old.entries));
    first = λ _. subst (λ (l : List Entry). AreFirst l new.seen.records) (sym waits.entries) (still_first old.entries old.seen [] new.seen.records fine.first waits.reads.grows);
    own = λ _. waits.reads.grows;
    follows = λ _. looked_on old.seen new.seen waits.reads;
  }

  idle : (old new : StoreView) → Fine old → new ≡ old → Stay old new
  idle old new fine same = subst (λ (s : StoreView). Stay old s) (sym same) (stays_none is_known old.entries old.seen (λ _. fine.first))

  fine_stay : (old new : StoreView) → Fine old → Stay old new → old.turn ≤ new.turn → Fine new
  fine_stay old new fine stay later = fine_stays is_known known w old.entries old.turn new.turn old.seen fine new.entries new.seen stay later

  rest_stay : (records : List Record) (groups : List (ℕ × List Record)) (old new : StoreView) → Fine old → Stay old new → old.turn ≤ new.turn → Rest w records new.seen groups → Rest w records old.seen ((length new.entries, []) ∷ groups)
  rest_stay records groups old new fine stay later rest = rest_stays is_known known w old.entries old.turn new.turn old.seen fine new.entries new.seen stay later records groups rest

  fine_waits : (old new : StoreView) → Fine old → Waits is_known old new → Fine new
  fine_waits old new fine waits = fine_stay old new fine (waited old new fine waits) (let t = waits.turn in omega (arith, t))

  rest_waits : (records : List Record) (groups : List (ℕ × List Record)) (old new : StoreView) → Fine old → Waits is_known old new → Rest w records new.seen groups → Rest w records old.seen groups
  rest_waits records groups old new fine waits rest = rest_unslip w records old.seen (length new.entries) groups (rest_stay records groups old new fine (waited old new fine waits) (let t = waits.turn in omega (arith, t)) rest)

  -- ---- one deed

  abbrev Outcome : Deed → Option Answer → Type 0
  Outcome deed answer = MatchOption answer (Fails is_known deed.begun deed.calls deed.ended) (λ answer. (message : Message) × (deed.calls ≡ message ∷ []) × Makes is_known deed.begun message.by message.call answer deed.ended)

  abbrev steps_with : Deed → Option Answer → List Step
  steps_with deed answer = map (λ message. record { begun = deed.begun; by = message.by; call = message.call; answer = answer; ended = deed.ended }) deed.calls

  abbrev Tries : Deed → Type 0
  Tries deed = TriesBy is_known deed.begun.turn deed.ended.turn deed.begun.entries deed.begun.seen deed.calls deed.ended.entries deed.ended.seen

  fine_deed : (deed : Deed) → Fine deed.begun → Does is_known deed → Fine deed.ended
  fine_deed deed fine does = by_answer deed.answer does where
    by_answer : (o : Option Answer) → Outcome deed o → Fine deed.ended
    by_answer (Some answer) (message, is, makes) = fine_made is_known known w deed.begun.entries deed.begun.turn deed.ended.turn deed.begun.seen fine message.by message.call deed.ended.entries deed.ended.seen deed.begun.is_stale answer makes.on makes.turn
    by_answer None (inl (broken, same)) = subst Fine (sym same) fine
    by_answer None (inr none) = by_on none.on where
      by_on : Stay deed.begun deed.ended ⊎ Tries deed → Fine deed.ended
      by_on (inl stay) = fine_stay deed.begun deed.ended fine stay none.turn
      by_on (inr tries) = fine_tries is_known known w deed.begun.entries deed.begun.turn deed.ended.turn deed.begun.seen fine deed.calls deed.ended.entries deed.ended.seen tries

  grown_deed : (deed : Deed) → Does is_known deed → length deed.begun.entries ≤ length deed.ended.entries
  grown_deed deed does = by_answer deed.answer does where
    by_answer : (o : Option Answer) → Outcome deed o → length deed.begun.entries ≤ length deed.ended.entries
    by_answer (Some answer) (message, is, makes) =
        let g = goes_within deed.begun.entries makes.on.on.at makes.on.on.goes_on in
        let l : length deed.ended.entries ≡ length (makes.on.on.at ++ makes.on.on.made) = ap length makes.on.on.makes in
        let p = length-append makes.on.on.at makes.on.on.made in
        omega (arith, g, l, p)
    by_answer None (inl (broken, same)) = let l : length deed.ended.entries ≡ length deed.begun.entries = ap (λ (s : StoreView). length s.entries) same in omega (arith, l)
    by_answer None (inr none) = by_on none.on where
      by_on : Stay deed.begun deed.ended ⊎ Tries deed → length deed.begun.entries ≤ length deed.ended.entries
      by_on (inl stay) = goes_within deed.begun.entries deed.ended.entries stay.goes_on
      by_on (inr tries) = goes_within deed.begun.entries deed.ended.entries tries.on.goes_on

  same_deed : (deed : Deed) → Does is_known deed → deed.ended.is_stale ≡ deed.begun.is_stale
  same_deed deed does = by_answer deed.answer does where
    by_answer : (o : Option Answer) → Outcome deed o → deed.ended.is_stale ≡ deed.begun.is_stale
    by_answer (Some answer) (message, is, makes) = makes.stale
    by_answer None (inl (broken, same)) = ap (λ (s : StoreView). s.is_stale) same
    by_answer None (inr none) = none.stale

  module _ (records : List Record) (is_stale : Bool) (groups : List (ℕ × List Record)) (deed : Deed) (stale : deed.begun.is_stale ≡ is_stale) (fine : Fine deed.begun) (rest : Rest w records deed.ended.seen groups) where
    abbrev Here : Option Answer → Type 0
    Here answer = Stands w records is_stale deed.begun deed.ended answer (steps_with deed answer) groups

    by_makes : (answer : Answer) (message : Message) → deed.calls ≡ message ∷ [] → Makes is_known deed.begun message.by message.call answer deed.ended → Here (Some answer)
    by_makes answer message is makes =
        let on = makes.on.on in
        let here : Becomes on.at message.by message.call answer (on.at ++ on.made) = subst (λ (l : List Entry). Becomes on.at message.by message.call answer l) on.makes on.becomes in
        let first : AreFirst (on.at ++ on.made) deed.ended.seen.records = subst (λ (l : List Entry). AreFirst l deed.ended.seen.records) on.makes (on.first known) in
        let left = rest_made is_known known w deed.begun.entries deed.begun.turn deed.ended.turn deed.begun.seen fine message.by message.call deed.ended.entries deed.ended.seen deed.begun.is_stale answer makes.on makes.turn records groups rest in
        record {
          calls = record { step = record { begun = deed.begun; by = message.by; call = message.call; answer = Some answer; ended = deed.ended }; turn = deed.ended.turn; before = on.at; made = on.made; reply = reply_of answer } ∷ [];
          are = ap (map (λ (message : Message). record { begun = deed.begun; by = message.by; call = message.call; answer = Some answer; ended = deed.ended })) (sym is);
          stand = (
            record {
              first = first_more (on.at ++ on.made) deed.ended.seen.records rest.more records first rest.is;
              begun = (left.more, sym left.is);
              ended = (rest.more, sym rest.is);
              comes = record {
                becomes = here;
                replied = replied on.at on.made message.by message.call answer here;
                all = on.all known;
                there = first_within (on.at ++ on.made) deed.ended.seen.records first;
                turn = refl;
                refused = refused_none on.at on.made message.by message.call answer here;
                asked = asked_none on.at on.made message.by message.call answer here;
              };
            },
            tt,
          );
          same = (stale, tt);
          order = λ from later within all. ((let g = goes_within deed.begun.entries on.at on.goes_on in omega (arith, g, within)), subst (λ (n : ℕ). InOrder n later) (ap length on.makes) all);
          turns = λ from later early all. by_turn from later early all makes.on.later;
          whole = tt;
          rest = left;
        }
      where
        by_turn : (from : ℕ) (later : List Standing) → from ≤ deed.begun.turn → HaveTurns deed.ended.turn later → (makes.on.on.made ≡ []) ⊎ (deed.begun.turn < deed.ended.turn)
            → ((makes.on.on.made ≡ []) × HaveTurns from later) ⊎ ((from < deed.ended.turn) × (deed.begun.turn < deed.ended.turn) × (deed.ended.turn ≤ deed.ended.turn) × HaveTurns deed.ended.turn later)
        by_turn from later early all (inl none) = inl (none, turns_from deed.ended.turn from later (let t = makes.turn in omega (arith, t, early)) all)
        by_turn from later early all (inr is) = inr (omega (arith, is, early), is, omega arith, all)

    -- calls without answers, which stand from a turn on behind the store's
    by_stood : (at : List Entry) (turn : ℕ) (group : List Record) (begun : IsPrefix deed.begun.seen.records records) (ended : IsPrefix deed.ended.seen.records records) → (AreSo : List Standing → Type 0) → Stood w records is_stale deed.begun deed.ended stale begun ended at turn group deed.calls AreSo → ((calls : List Standing) → AreSo calls → AreAllOrNone calls)
        → length deed.begun.entries ≤ length at → deed.begun.turn < turn → Rest w records deed.begun.seen ((length at, group) ∷ groups) → Here None
    by_stood at turn group begun ended AreSo stood all_or_none within behind left = record {
      calls = stood.calls;
      are = stood.are;
      stand = stood.stand;
      same = stood.same;
      order = λ from later early all. stood.order from later (omega (arith, early, within)) all;
      turns = λ from later early all. stood.turns from later (omega (arith, early, behind)) all;
      whole = all_or_none stood.calls stood.whole;
      rest = rest_tail w records deed.begun.seen ((length at, group) ∷ groups) (map (λ (call : Standing). group_of w call) stood.calls ++ groups) (stood.laid groups) left;
    }

    -- they have made nothing
    by_none : AreFirst deed.ended.entries deed.ended.seen.records → length deed.begun.entries ≤ length deed.ended.entries → deed.begun.turn ≤ deed.ended.turn → Rest w records deed.begun.seen ((length deed.ended.entries, []) ∷ groups) → Here None
    by_none first within later left =
        by_stood deed.ended.entries (deed.ended.turn + 1) [] (left.more, sym left.is) (rest.more, sym rest.is) HaveNone
        (stood_none w records is_stale deed.begun deed.ended stale (left.more, sym left.is) (rest.more, sym rest.is) deed.ended.entries (first_more deed.ended.entries deed.ended.seen.records rest.more records first rest.is) deed.calls)
        (λ calls none. inl none) within (omega (arith, later)) left

    by_stay : Stay deed.begun deed.ended → deed.begun.turn ≤ deed.ended.turn → Here None
    by_stay stay later = by_none (stay.first known) (goes_within deed.begun.entries deed.ended.entries stay.goes_on) later (rest_stay records groups deed.begun deed.ended fine stay later rest)

    by_tries : Tries deed → deed.begun.turn ≤ deed.ended.turn → Here None
    by_tries tries later = by_comes (comes is_known known w deed.begun.entries deed.begun.turn deed.ended.turn deed.begun.seen fine deed.calls deed.ended.entries deed.ended.seen tries records groups rest) where
      within : length deed.begun.entries ≤ length deed.ended.entries
      within = goes_within deed.begun.entries deed.ended.entries tries.on.goes_on

      by_comes : Comes is_known known w deed.begun.entries deed.begun.turn deed.ended.turn deed.begun.seen fine deed.calls deed.ended.entries deed.ended.seen tries records groups → Here None
      by_comes (inl left) = by_none (tries.on.first known) within later (rest_slip w records deed.begun.seen (length deed.ended.entries) groups left)
      by_comes (inr came) =
          by_stood deed.ended.entries tries.from (recorded_all w tries.from tries.on.asked) (came.rest.more, sym came.rest.is) (rest.more, sym rest.is) (AreInARow deed.ended.entries)
          (stood_all w records is_stale deed.begun deed.ended stale (came.rest.more, sym came.rest.is) (rest.more, sym rest.is) deed.ended.entries tries.from deed.calls tries.on.asked tries.on.made came.first came.late tries.later tries.until)
          (λ calls all. inr (deed.ended.entries, all)) within tries.later came.rest

    deed_stands : Does is_known deed → Stands w records is_stale deed.begun deed.ended deed.answer (steps_of deed) groups
    deed_stands does = by_answer deed.answer does where
      by_answer : (o : Option Answer) → Outcome deed o → Here o
      by_answer (Some answer) (message, is, makes) = by_makes answer message is makes
      by_answer None (inl (broken, same)) = by_stay (idle deed.begun deed.ended fine same) (let t : deed.ended.turn ≡ deed.begun.turn = ap (λ (s : StoreView). s.turn) same in omega (arith, t))
      by_answer None (inr none) = by_on none.on where
        by_on : Stay deed.begun deed.ended ⊎ Tries deed → Here None
        by_on (inl stay) = by_stay stay none.turn
        by_on (inr tries) = by_tries tries none.turn

  -- ---- all of them

  record Told (records : List Record) (is_stale : Bool) (s : StoreView) (from : ℕ) (deeds : List Deed) : Type 0 where
    pub calls : List Standing
    pub are : map (λ call. call.step) calls ≡ flat_map steps_of deeds
    pub stand : AllByRecursion (λ call. StandsIn records call) calls
    pub order : InOrder from calls
    pub turns : HaveTurns s.turn calls
    pub whole : AreWhole deeds calls
    pub same : AllByRecursion (λ call. call.step.begun.is_stale ≡ is_stale) calls
    pub rest : Rest w records s.seen (map (λ call. group_of w call) calls)

  told : (records : List Record) (is_stale : Bool) (deeds : List Deed) (s last : StoreView) (from : ℕ) → s.is_stale ≡ is_stale → from ≤ length s.entries → Fine s → Lives is_known s deeds last → last.seen.records ≡ records → Told records is_stale s from deeds
  told records is_stale [] s last from same within fine waits ends = record {
    calls = [];
    are = refl;
    stand = tt;
    order = tt;
    turns = tt;
    whole = tt;
    same = tt;
    rest = rest_waits records [] s last fine waits (record { more = []; is = sym ends ∙ sym (append-nil last.seen.records); landed = []; lands = inl refl; laid = refl });
  }
  told records is_stale (deed ∷ deeds) s last from same within fine (waits, does, lives) ends =
      let begun = fine_waits s deed.begun fine waits in
      let later = told records is_stale deeds deed.ended last (place_behind from deed.answer (length deed.ended.entries)) (same_deed deed does ∙ waits.stale ∙ same) (by_answer deed.answer) (fine_deed deed begun does) lives ends in
      let here = deed_stands records is_stale (map (λ (call : Standing). group_of w call) later.calls) deed (waits.stale ∙ same) begun later.rest does in
      record {
        calls = here.calls ++ later.calls;
        are = map-append (λ (call : Standing). call.step) here.calls later.calls ∙ ap (λ (l : List Step). l ++ map (λ (call : Standing). call.step) later.calls) here.are ∙ ap (λ (l : List Step). steps_of deed ++ l) later.are;
        stand = all_both (λ (call : Standing). StandsIn records call) here.calls later.calls here.stand later.stand;
        order = here.order from later.calls (let t : length deed.begun.entries ≡ length s.entries = ap length waits.entries in omega (arith, t, within)) later.order;
        turns = here.turns s.turn later.calls (let t = waits.turn in omega (arith, t)) later.turns;
        whole = (here.calls, later.calls, refl, counted here.calls here.are, here.whole, later.whole);
        same = all_both (λ (call : Standing). call.step.begun.is_stale ≡ is_stale) here.calls later.calls here.same later.same;
        rest = rest_waits records (map (λ (call : Standing). group_of w call) (here.calls ++ later.calls)) s deed.begun fine waits (subst (λ (l : List (ℕ × List Record)). Rest w records deed.begun.seen l) (sym (map-append (λ (call : Standing). group_of w call) here.calls later.calls)) here.rest);
      }
    where
      counted : (calls : List Standing) → map (λ (call : Standing). call.step) calls ≡ steps_of deed → length calls ≡ length deed.calls
      counted calls are = sym (length-map calls (λ (call : Standing). call.step)) ∙ ap length are ∙ length-map deed.calls (λ (message : Message). record { begun = deed.begun; by = message.by; call = message.call; answer = deed.answer; ended = deed.ended })

      grown : length s.entries ≤ length deed.ended.entries
      grown = let l : length deed.begun.entries ≡ length s.entries = ap length waits.entries in let g = grown_deed deed does in omega (arith, l, g)

      by_answer : (o : Option Answer) → place_behind from o (length deed.ended.entries) ≤ length deed.ended.entries
      by_answer None = let g = grown in omega (arith, g, within)
      by_answer (Some answer) = omega arith

-- ---- a life

module _ (is_known : Bool) (known : IsTrue is_known) (w : ℕ) (records : List Record) (life : Life) (is : IsLife is_known w records life) where
  none_loose : (group : List Record) → IsOneOf group life.log.loose → ⊥
  none_loose group one = subst (λ (l : List (List Record)). IsOneOf group l) is.fresh.asked one

  none_put : ours w life.log.records ≡ []
  none_put = subst (λ (n : ℕ). ours n life.log.records ≡ []) is.by is.fresh.put

  fresh : IsFine w [] 0 life.log
  fresh = record {
    first = (entries_in life.log.records, refl);
    writer = is.by;
    turns = subst (λ (l : List Record). AreBefore 1 l) (sym none_put) tt;
    loose = λ alive group one. absurd (none_loose group one);
  }

  opened : Fine is_known known w life.opened
  opened = fine_stays is_known known w [] 0 life.opened.turn life.log fresh life.opened.entries life.opened.seen is.opens.on (omega arith)

  all : Told is_known known w records life.opened.is_stale life.opened 0 life.deeds
  all = told is_known known w records life.opened.is_stale life.deeds life.opened life.last 0 refl (omega arith) opened is.lives is.ends

  from_start : Rest w records life.log (map (λ (call : Standing). group_of w call) all.calls)
  from_start = rest_unslip w records life.log (length life.opened.entries) (map (λ (call : Standing). group_of w call) all.calls)
      (rest_stays is_known known w [] 0 life.opened.turn life.log fresh life.opened.entries life.opened.seen is.opens.on (omega arith) records (map (λ (call : Standing). group_of w call) all.calls) all.rest)

  once : AreGroups 0 w records (map (λ (call : Standing). group_of w call) all.calls)
  once = subst (λ (l : List Record). AreGroups 0 w l (map (λ (call : Standing). group_of w call) all.calls)) (sym from_start.is)
      (groups_behind w 0 life.log.records from_start.more (map (λ (call : Standing). group_of w call) all.calls) none_put
      (by_lands from_start.landed from_start.lands (subst (λ (n : ℕ). AreGroups n w from_start.more ((life.log.at, from_start.landed) ∷ map (λ (call : Standing). group_of w call) all.calls)) (omega arith) from_start.laid)))
    where
      by_lands : (landed : List Record) → Lands life.log landed records → AreGroups (0 + length life.log.records) w from_start.more ((life.log.at, landed) ∷ map (λ (call : Standing). group_of w call) all.calls)
          → AreGroups (0 + length life.log.records) w from_start.more (map (λ (call : Standing). group_of w call) all.calls)
      by_lands landed (inr (one, alive, there)) laid = absurd (none_loose landed one)
      by_lands landed (inl none) laid = subst (λ (l : List Record). AreGroups (0 + length life.log.records) w from_start.more ((life.log.at, l) ∷ map (λ (call : Standing). group_of w call) all.calls)) none laid

  pub lived : (calls : List Standing) × AreOf w records life calls
  lived = (all.calls, record { steps = all.are; stand = all.stand; order = all.order; turns = turns_from life.opened.turn 0 all.calls (omega arith) all.turns; once = once; whole = all.whole; stale = all.same })
