-- Calls of a store in a list: some of them together, the others one by one.
use Rattle.std.proofs.Common.{◌≡◌, ◌⊎◌, ◌<◌, ◌≤◌, ℕ, ◌+◌, ◌^◌, Bool, true, false, List, [], ◌∷◌, ◌++◌, length, take, get_or, length-take-le, Some, inl, inr, refl, sym, ap, subst, ◌∙◌, append_assoc, append-nil}
use native.Mathlib.Omega.{arith}
use Rattle.std.specs.Prelude.{IsTrue, is_some}
use Rattle.pana_journal.specs.declared.entry.Entry.{Entry}
use Rattle.pana_calls.specs.declared.answer.Answer.{Answer}
use Rattle.pana_calls.specs.declared.call.Call.{Call}
use Rattle.pana_calls.specs.declared.message.Message.{Message}
use Rattle.pana_calls.specs.Session.{AddsAll, AddsSome, MakesAll}
use Rattle.pana_calls.proofs.Calls.{Completes, none_left}
use Rattle.pana_shared.specs.declared.read_fault.ReadFault.{ReadFault}
use Rattle.pana_shared.specs.declared.read_fault.ReadFault.TheVariants.{NoAnswer, Foreign, OutOfMemory}
use Rattle.pana_shared.specs.declared.record.Record.{Record}
use Rattle.pana_shared.specs.Log.{Follows, Grows, HaveSome, IsAt, IsOneOf, LogView}
use Rattle.pana_shared.proofs.Grown.{grows_on}
use Rattle.pana_shared_store.specs.Store.{Fails, HasCause, Makes, MakesBy, MakesNone, MakesOn, StaysOn, StoreView, TriesBy, TriesOn, Why, foreign_of, recorded, recorded_all}
use Rattle.pana_shared_store.specs.declared.grouping.Grouped.TheVariants.{Made}
use Rattle.pana_shared_store.specs.inner.{IsStore}
use Rattle.pana_shared_store.specs.inner.Groups.{Calls, FailsFor, Goes, Groups, GroupsNot, Moment, Waits, moment_of}
use Rattle.pana_shared_store.proofs.Readied.{goes_on_within}
use Rattle.pana_shared_store.proofs.Strange.{why_on}
use Rattle.pana_shared_store.proofs.Tried.{follows_on, goes_both, stays_none, within}

-- ---- steps of a store

-- steps of what a store goes by are steps of the store
pub lift_all : (is_known : Bool) (new : StoreView) (messages : List Message) (answers : List Answer) (old : StoreView) → old.broken ≡ false → new.broken ≡ false → new.is_stale ≡ old.is_stale → 0 < length messages
    → MakesAll (Goes is_known old.is_stale) (moment_of old) messages answers (moment_of new) → MakesAll (Makes is_known) old messages answers new
lift_all is_known new [] answers old whole same stale some all = absurd (omega (arith, some))
lift_all is_known new (m ∷ ms) [] old whole same stale some all = absurd all
lift_all is_known new (m ∷ []) (a ∷ []) old whole same stale some (mid, goes, is) =
    let last : Goes is_known old.is_stale (moment_of old) m.by m.call a (moment_of new) = subst (Goes is_known old.is_stale (moment_of old) m.by m.call a) (sym is) goes in
    (new, record { on = last.0; turn = last.1; whole = whole; same = same; stale = stale }, refl)
lift_all is_known new (m ∷ []) (a ∷ b ∷ answers) old whole same stale some (mid, goes, rest) = absurd rest
lift_all is_known new (m ∷ n ∷ ms) (a ∷ []) old whole same stale some (mid, goes, rest) = absurd rest
lift_all is_known new (m ∷ n ∷ ms) (a ∷ b ∷ answers) old whole same stale some (mid, goes, rest) =
    let between : StoreView = record { entries = mid.entries; seen = mid.seen; silences = new.silences; turn = mid.turn; broken = false; fault = new.fault; is_stale = old.is_stale } in
    (between, record { on = goes.0; turn = goes.1; whole = whole; same = refl; stale = refl }, lift_all is_known new (n ∷ ms) (b ∷ answers) between refl same stale (omega arith) rest)

-- ---- what was waited before

module _ (is_known : Bool) (old mid new : List Entry) (before between after : LogView) (some : IsTrue is_known → HaveSome before.loose) (stays : StaysOn is_known old before mid between) where
  stays_makes : (is_stale : Bool) (turn : ℕ) (by : List ℕ) (call : Call) (answer : Answer) → MakesOn is_known is_stale turn mid between by call answer new after → MakesOn is_known is_stale turn old before by call answer new after
  stays_makes is_stale turn by call answer makes = record {
    at = makes.at;
    goes_on = goes_both old mid makes.at stays.goes_on makes.goes_on;
    becomes = makes.becomes;
    made = makes.made;
    makes = makes.makes;
    all = λ known asks. (let w = within before [] between.records (stays.own known) in let a = makes.all known asks in omega (arith, w, a));
    first = makes.first;
    own = λ known. grows_on before between after.records (stays.follows known) (stays.own known) (recorded before.writer turn makes.made) (some known) (subst (λ (w : ℕ). Grows between (recorded w turn makes.made) after.records) (stays.follows known).0 (makes.own known));
    stands = λ known some. subst (λ (w : ℕ). IsAt (length makes.at) (recorded w turn makes.made) after.records) (stays.follows known).0 (makes.stands known some);
    follows = λ known. follows_on before between after (within between (recorded between.writer turn makes.made) after.records (makes.own known)) (stays.follows known) (makes.follows known);
  }

  stays_both : StaysOn is_known mid between new after → StaysOn is_known old before new after
  stays_both later = record {
    goes_on = goes_both old mid new stays.goes_on later.goes_on;
    first = later.first;
    own = λ known. grows_on before between after.records (stays.follows known) (stays.own known) [] (some known) (later.own known);
    follows = λ known. follows_on before between after (within between [] after.records (later.own known)) (stays.follows known) (later.follows known);
  }

  stays_tries : (turn : ℕ) (calls : List Message) → TriesOn is_known turn mid between calls new after → TriesOn is_known turn old before calls new after
  stays_tries turn calls tries = record {
    goes_on = goes_both old mid new stays.goes_on tries.goes_on;
    asked = tries.asked;
    made = tries.made;
    first = tries.first;
    own = λ known. by_growth known (tries.own known);
    place = tries.place;
    writer = λ known. tries.writer known ∙ (stays.follows known).0;
    loose = λ known alive group one. by_one known alive group (stays.follows known) (tries.loose known alive group one);
  } where
    by_growth : IsTrue is_known → Grows between [] after.records ⊎ (Grows between (recorded_all between.writer turn tries.asked) after.records × IsAt (length new) (recorded_all between.writer turn tries.asked) after.records)
        → Grows before [] after.records ⊎ (Grows before (recorded_all before.writer turn tries.asked) after.records × IsAt (length new) (recorded_all before.writer turn tries.asked) after.records)
    by_growth known (inl none) = inl (grows_on before between after.records (stays.follows known) (stays.own known) [] (some known) none)
    by_growth known (inr (all, there)) = inr (
      grows_on before between after.records (stays.follows known) (stays.own known) (recorded_all before.writer turn tries.asked) (some known) (subst (λ (w : ℕ). Grows between (recorded_all w turn tries.asked) after.records) (stays.follows known).0 all),
      subst (λ (w : ℕ). IsAt (length new) (recorded_all w turn tries.asked) after.records) (stays.follows known).0 there,
    )

    length_on : IsTrue is_known → length between.records ≤ length after.records
    length_on known = by_case (tries.own known) where
      by_case : Grows between [] after.records ⊎ (Grows between (recorded_all between.writer turn tries.asked) after.records × IsAt (length new) (recorded_all between.writer turn tries.asked) after.records) → length between.records ≤ length after.records
      by_case (inl none) = within between [] after.records none
      by_case (inr (all, there)) = within between (recorded_all between.writer turn tries.asked) after.records all

    by_one : IsTrue is_known → length after.records ≤ after.at → (group : List Record) → Follows before between → ((after.at ≡ between.at) × IsOneOf group between.loose) ⊎ (group ≡ recorded_all between.writer turn tries.asked) → ((after.at ≡ before.at) × IsOneOf group before.loose) ⊎ (group ≡ recorded_all before.writer turn tries.asked)
    by_one known alive group (same, where_loose) (inr is) = inr (is ∙ ap (λ (w : ℕ). recorded_all w turn tries.asked) same)
    by_one known alive group (same, inl dead) (inl (place, one)) = absurd (let l = length_on known in omega (arith, l, dead, place, alive))
    by_one known alive group (same, inr (at, fewer)) (inl (place, one)) = inl (place ∙ at, fewer group one)

module _ (is_known : Bool) (old mid new : StoreView) (waits : Waits is_known old mid) where
  pub waits_makes : (by : List ℕ) (call : Call) (answer : Answer) → Makes is_known mid by call answer new → Makes is_known old by call answer new
  unfolding stays_makes
  waits_makes by call answer makes = record {
    on = subst (λ (b : Bool). MakesBy is_known b old.turn new.turn old.entries old.seen by call answer new.entries new.seen) waits.stale (record { on = stays_makes is_known old.entries mid.entries new.entries old.seen mid.seen new.seen waits.some waits.on mid.is_stale new.turn by call answer makes.on.on; later = by_turn makes.on.later });
    turn = (let w = waits.turn in let t = makes.turn in omega (arith, w, t));
    whole = waits.whole;
    same = makes.same;
    stale = makes.stale ∙ waits.stale;
  } where
    by_turn : (makes.on.on.made ≡ []) ⊎ (mid.turn < new.turn) → (makes.on.on.made ≡ []) ⊎ (old.turn < new.turn)
    by_turn (inl none) = inl none
    by_turn (inr later) = inr (let w = waits.turn in omega (arith, w, later))

  why_waits : (fault : ReadFault) (records : List Record) → mid.silences ≤ old.silences → Why fault mid.turn mid.entries mid.silences new.entries records new.silences → Why fault old.turn old.entries old.silences new.entries records new.silences
  why_waits NoAnswer records heard (inl silent) = inl (omega (arith, heard, silent))
  why_waits NoAnswer records heard (inr (inl late)) = inr (inl (let w = goes_on_within old.entries mid.entries waits.on.goes_on in omega (arith, w, late)))
  why_waits NoAnswer records heard (inr (inr over)) = inr (inr (by_room waits.room)) where
    by_room : (mid.turn ≡ old.turn) ⊎ (mid.turn + 1 < 2 ^ 64) → 2 ^ 64 ≤ old.turn + 1
    by_room (inl same) = omega (arith, same, over)
    by_room (inr room) = absurd (omega (arith, room, over))
  why_waits (Foreign number) records heard why = why
  why_waits OutOfMemory records heard why = tt

  pub waits_fails : (calls : List Message) → FailsFor is_known mid calls new → FailsFor is_known old calls new
  waits_fails calls (fails, cause) = (inr (by_fails fails), by_cause cause) where
    not_both : mid.broken ≡ true → ⊥
    not_both broken = let f : false ≡ true = sym waits.same ∙ broken in cc

    by_on : StaysOn is_known mid.entries mid.seen new.entries new.seen ⊎ TriesBy is_known mid.turn new.turn mid.entries mid.seen calls new.entries new.seen → StaysOn is_known old.entries old.seen new.entries new.seen ⊎ TriesBy is_known old.turn new.turn old.entries old.seen calls new.entries new.seen
    by_on (inl stays) = inl (stays_both is_known old.entries mid.entries new.entries old.seen mid.seen new.seen waits.some waits.on stays)
    by_on (inr tries) = inr (record { from = tries.from; on = stays_tries is_known old.entries mid.entries new.entries old.seen mid.seen new.seen waits.some waits.on tries.from calls tries.on; later = (let w = waits.turn in let l = tries.later in omega (arith, w, l)); until = tries.until })

    by_fails : Fails is_known mid calls new → MakesNone is_known old calls new
    by_fails (inl (broken, same)) = absurd (not_both broken)
    by_fails (inr none) = record { on = by_on none.on; turn = (let w = waits.turn in let t = none.turn in omega (arith, w, t)); whole = waits.whole; stale = none.stale ∙ waits.stale }

    by_cause : HasCause is_known mid new → HasCause is_known old new
    by_cause (inl broken) = absurd (not_both broken)
    by_cause (inr (fault, is)) = inr (fault, record { known = is.known; broken = is.broken; why = λ known. why_waits fault new.seen.records (waits.heard known) (is.why known) })

-- ---- lists

module _ {S : Type 0} (step : S → List ℕ → Call → Answer → S → Type 0) (fails : S → List Message → S → Type 0) where
  makes_append : (first later : List Message) (given more : List Answer) (old mid new : S) → MakesAll step old first given mid → MakesAll step mid later more new → MakesAll step old (first ++ later) (given ++ more) new
  makes_append [] later [] more old mid new is all = subst (λ (s : S). MakesAll step s later more new) is all
  makes_append [] later (a ∷ given) more old mid new is all = absurd is
  makes_append (m ∷ first) later [] more old mid new is all = absurd is
  makes_append (m ∷ first) later (a ∷ given) more old mid new (next, made, rest) all = (next, made, makes_append first later given more next mid new rest all)

  adds_append : (first later : List Message) (given between after : List Answer) (old mid new : S) → AddsAll step old first given between mid → AddsAll step mid later between after new → AddsAll step old (first ++ later) given after new
  adds_append first later given between after old mid new one two = record {
    given = one.given ++ two.given;
    adds = two.adds ∙ ap (λ (l : List Answer). l ++ two.given) one.adds ∙ append_assoc given one.given two.given;
    makes = makes_append first later one.given two.given old mid new one.makes two.makes;
  }

  some_append : (first later : List Message) (given between after : List Answer) (old mid new : S) → AddsAll step old first given between mid → AddsSome step fails mid later between after new → AddsSome step fails old (first ++ later) given after new
  some_append first later given between after old mid new one two = record {
    made = first ++ two.made;
    tried = two.tried;
    left = two.left;
    split = ap (λ (l : List Message). first ++ l) two.split ∙ sym (append_assoc first two.made (two.tried ++ two.left));
    some = two.some;
    mid = two.mid;
    adds = adds_append first two.made given between after old mid two.mid one two.adds;
    failed = two.failed;
  }

  -- several calls more are made
  pub goes_many : (old mid after : S) (all front left : List Message) (given_old given between : List Answer) → AddsAll step mid front given between after → Completes step fails old all given_old mid (front ++ left) given → Completes step fails old all given_old after left between
  goes_many old mid after all front left given_old given between made far = record {
    all = λ given_new new adds. far.all given_new new (adds_append front left given between given_new mid after new made adds);
    some = λ given_new new adds. far.some given_new new (some_append front left given between given_new mid after new made adds);
  }

  -- the first calls have no answers
  pub fails_first : (old new : S) (messages tried left : List Message) (given : List Answer) → messages ≡ tried ++ left → 0 < length tried → fails old tried new → AddsSome step fails old messages given given new
  fails_first old new messages tried left given split some failed = record { made = []; tried = tried; left = left; split = split; some = some; mid = old; adds = none_left step fails old given; failed = failed }

-- what was waited before a list
module _ (is_known : Bool) (old mid new : StoreView) (waits : Waits is_known old mid) where
  pub waits_all : (messages : List Message) (given after : List Answer) → 0 < length messages → AddsAll (Makes is_known) mid messages given after new → AddsAll (Makes is_known) old messages given after new
  waits_all messages given after some adds = record { given = adds.given; adds = adds.adds; makes = by_list messages adds.given some adds.makes } where
    by_list : (ms : List Message) (answers : List Answer) → 0 < length ms → MakesAll (Makes is_known) mid ms answers new → MakesAll (Makes is_known) old ms answers new
    by_list [] answers some makes = absurd (omega (arith, some))
    by_list (m ∷ ms) [] some makes = absurd makes
    by_list (m ∷ ms) (a ∷ answers) some (next, made, rest) = (next, waits_makes is_known old mid next waits m.by m.call a made, rest)

-- and before calls of which some have no answers
pub waits_some : (is_known : Bool) (old mid new : StoreView) (messages : List Message) (given after : List Answer) → Waits is_known old mid → AddsSome (Makes is_known) (FailsFor is_known) mid messages given after new → AddsSome (Makes is_known) (FailsFor is_known) old messages given after new
waits_some is_known old mid new messages given after waits adds = by_made adds.made adds.split adds.adds where
  by_made : (made : List Message) → messages ≡ made ++ (adds.tried ++ adds.left) → AddsAll (Makes is_known) mid made given after adds.mid → AddsSome (Makes is_known) (FailsFor is_known) old messages given after new
  by_made [] split none = by_none none.given none.adds none.makes where
    by_none : (answers : List Answer) → after ≡ given ++ answers → MakesAll (Makes is_known) mid [] answers adds.mid → AddsSome (Makes is_known) (FailsFor is_known) old messages given after new
    by_none [] is same = record {
      made = [];
      tried = adds.tried;
      left = adds.left;
      split = split;
      some = adds.some;
      mid = old;
      adds = record { given = []; adds = is; makes = refl };
      failed = waits_fails is_known old mid new waits adds.tried (subst (λ (s : StoreView). FailsFor is_known s adds.tried new) same adds.failed);
    }
    by_none (a ∷ answers) is same = absurd same
  by_made (m ∷ made) split all = record {
    made = m ∷ made;
    tried = adds.tried;
    left = adds.left;
    split = split;
    some = adds.some;
    mid = adds.mid;
    adds = waits_all is_known old mid adds.mid waits (m ∷ made) given after (omega arith) all;
    failed = adds.failed;
  }

-- ---- calls that were to be made together, by a store

pub waits_none : (is_known : Bool) (store : StoreView) → (IsTrue is_known → IsStore store.entries store.turn store.seen) → store.broken ≡ false → Waits is_known store store
waits_none is_known store stands whole = record {
  on = stays_none is_known store.entries store.seen (λ known. (stands known).first);
  some = λ known. (stands known).some;
  turn = omega arith;
  room = inl refl;
  heard = λ known. omega arith;
  whole = whole;
  same = whole;
  stale = refl;
}

module _ (is_known : Bool) (old new : StoreView) (calls : List Message) (before after : List Answer) (whole : old.broken ≡ false) (same : new.broken ≡ false) (stale : new.is_stale ≡ old.is_stale) where
  pub calls_made : (count : ℕ) → Groups is_known old.is_stale (moment_of old) calls before (Made count) (moment_of new) after → Calls is_known old calls before (Some count) new after
  calls_made count (some, within, given, adds, makes) = (some, within, record { given = given; adds = adds; makes = lift_all is_known new (take count calls) given old whole same stale (let l = length-take-le count calls within in omega (arith, l, some)) makes })

-- a cause goes for the turns that a store has had
pub why_here : (old : StoreView) (new : List Entry) (fault : ReadFault) (records : List Record) (after : ℕ) → Why fault 0 old.entries old.silences new records after → Why fault old.turn old.entries old.silences new records after
why_here old new fault records after why = why_on fault old.turn old.entries old.entries new old.silences old.silences after records ([], sym (append-nil old.entries)) (omega arith) why

-- the first of the calls have no answers, for this cause
pub calls_fail : (is_known : Bool) (old mid new : StoreView) (calls : List Message) (given : List Answer) (fault : ReadFault) → old.broken ≡ false → GroupsNot is_known (moment_of old) calls (moment_of mid) → moment_of new ≡ moment_of mid → old.turn ≤ mid.turn → new.is_stale ≡ old.is_stale → new.fault ≡ Some fault
    → new.broken ≡ is_some (foreign_of new.fault) → (IsTrue is_known → Why fault old.turn old.entries old.silences new.entries new.seen.records new.silences) → AddsSome (Makes is_known) (FailsFor is_known) old calls given given new
calls_fail is_known old mid new calls given fault whole none same turn stale is broken why =
    let here : GroupsNot is_known (moment_of old) calls (moment_of new) = subst (GroupsNot is_known (moment_of old) calls) (sym same) none in
    let later : old.turn ≤ new.turn = subst (λ (m : Moment). old.turn ≤ m.turn) (sym same) turn in
    fails_first (Makes is_known) (FailsFor is_known) old new calls here.tried here.left given here.split here.some (
      inr (record { on = here.on; turn = later; whole = whole; stale = stale }),
      inr (fault, record { known = is; broken = broken; why = why }),
    )

-- the first call of a list
pub first_call : (calls : List Message) (message : Message) → 0 < length calls → message ≡ get_or calls 0 message → (left : List Message) × (calls ≡ message ∷ left)
first_call [] message some is = absurd (omega (arith, some))
first_call (m ∷ left) message some is = (left, ap (λ (x : Message). x ∷ left) (sym is))

-- a store that is broken has no answers
pub calls_broken : (is_known : Bool) (store : StoreView) (calls : List Message) (given : List Answer) → 0 < length calls → store.broken ≡ true → AddsSome (Makes is_known) (FailsFor is_known) store calls given given store
calls_broken is_known store calls given some broken = fails_first (Makes is_known) (FailsFor is_known) store store calls calls [] given (sym (append-nil calls)) some (inl (broken, refl), inl broken)

-- there are as many answers as calls
pub makes_even : {S : Type 0} (step : S → List ℕ → Call → Answer → S → Type 0) (messages : List Message) (answers : List Answer) (old new : S) → MakesAll step old messages answers new → length answers ≡ length messages
makes_even step [] [] old new all = refl
makes_even step [] (a ∷ answers) old new all = absurd all
makes_even step (m ∷ messages) [] old new all = absurd all
makes_even step (m ∷ messages) (a ∷ answers) old new (mid, made, rest) = let e = makes_even step messages answers mid new rest in omega (arith, e)

pub some_first : (calls : List Message) → 0 < length calls → 0 < length (take 1 calls)
some_first [] some = absurd (omega (arith, some))
some_first (m ∷ calls) some = omega arith
