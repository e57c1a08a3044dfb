-- A group of several calls' records, which is put behind the entries that a hall had, and what is left then.
use Rattle.std.proofs.Common.{◌≡◌, ◌≢◌, ◌⊎◌, ◌<◌, ◌≤◌, ℕ, ◌+◌, ◌==◌, Bool, true, false, List, [], ◌∷◌, ◌++◌, length, take, take_at, inl, inr, refl, sym, ap, subst, ◌∙◌, append-nil, length-append}
use native.Mathlib.Omega.{arith}
use Rattle.std.specs.Prelude.{IsTrue}
use Rattle.std.specs.List.{AllByRecursion}
use Rattle.std.specs.Global.{Vec}
use Rattle.std.proofs.Math.Dec.{leb}
use Rattle.std.proofs.lemmas.Bool.Decides.{leb_tells}
use Rattle.pana_journal.specs.declared.entry.Entry.{Entry}
use Rattle.pana_calls.specs.declared.answer.Answer.{Answer}
use Rattle.pana_calls.specs.declared.message.Message.{Message}
use Rattle.pana_calls.specs.Session.{MakesAll}
use Rattle.pana_shared.specs.declared.record.Record.{Record}
use Rattle.pana_shared.specs.Log.{Grows, IsAt, IsOneOf, Lands, LogView, MayAppend, Reads, loose_at, ours}
use Rattle.pana_shared.proofs.Grown.{at_one, at_within, one_of_kept, ours_both}
use Rattle.pana_shared.proofs.Splits.{same_front}
use Rattle.pana_shared_store.specs.declared.placing.Placed.{Placed}
use Rattle.pana_shared_store.specs.declared.placing.Placed.TheVariants.{Ours, Others}
use Rattle.pana_shared_store.specs.Store.{AreFirst, AreMade, StaysOn, TriesBy, asks_all, entries_in, recorded_all}
use Rattle.pana_shared_store.specs.inner.{AreBefore, IsNew, IsReady, IsStore, IsUnusedGroup, LooksOn, Places, PlacesNone}
use Rattle.pana_shared_store.specs.inner.Groups.{AreBehind, Gathers, Goes, GroupsNot, joined, moment}
use Rattle.pana_shared_store.proofs.Chained.{Leads, chain, chain_asked}
use Rattle.pana_shared_store.proofs.Followed.{first_within, length_entries, page_first, still_first}
use Rattle.pana_shared_store.proofs.Gathered.{AreLate, all_before, all_entries, all_late, all_own, are_made, groups_even, nothing_made, ours_own}
use Rattle.pana_shared_store.proofs.Placed.{looked_on}
use Rattle.pana_shared_store.proofs.Readied.{before_at, before_mono, store_asked, store_looked}

-- ---- before

-- what is of earlier turns is of the turns before a later one
pub ready_until : (turn later : ℕ) (entries : List Entry) (view : LogView) → turn ≤ later → IsReady turn entries view → IsReady later entries view
ready_until turn later entries view within ready = record { put = before_mono turn later (ours view.writer view.records) within ready.put; loose = by_loose ready.loose } where
  by_loose : (view.at < length entries) ⊎ ((group : List Record) → IsOneOf group view.loose → AreBefore turn group) → (view.at < length entries) ⊎ ((group : List Record) → IsOneOf group view.loose → AreBefore later group)
  by_loose (inl early) = inl early
  by_loose (inr all) = inr (λ group one. before_mono turn later group within (all group one))

pub store_until : (turn later : ℕ) (entries : List Entry) (view : LogView) → turn ≤ later → IsStore entries turn view → IsStore entries later view
store_until turn later entries view within store = record { first = store.first; at = store.at; some = store.some; ready = ready_until (turn + 1) (later + 1) entries view (omega (arith, within)) store.ready }

module _ (entries : List Entry) (turn : ℕ) (view : LogView) (group : List Record) (store : IsStore entries turn view) (some : group ≢ []) (own : AllByRecursion (λ r. r.writer ≡ view.writer) group) (late : AreLate (turn + 1) group) where
  pub may_group : MayAppend view (length entries) group
  may_group = record { some = some; own = own; only = by_order (leb_tells (length entries) view.at) } where
    by_order : ((leb (length entries) view.at ≡ true) × (length entries ≤ view.at)) ⊎ ((leb (length entries) view.at ≡ false) × (view.at < length entries)) → (view.at ≡ length entries) ⊎ (view.at < length view.records) ⊎ (view.loose ≡ [])
    by_order (inl (_, behind)) = inl (let a = store.at in omega (arith, a, behind))
    by_order (inr (_, early)) = inr (inl (let f = first_within entries view.records store.first in omega (arith, f, early)))

  turn_of : (r : Record) (rest : List Record) → group ≡ r ∷ rest → turn + 1 ≤ r.turn
  turn_of r rest is = (subst (λ (l : List Record). AreLate (turn + 1) l) is late).0

  -- no group that is loose there begins with its first record
  not_loose : (s : Record) (others : List Record) → view.at ≡ length entries → IsOneOf (s ∷ others) view.loose → s.turn < turn + 1
  not_loose s others place one = by_loose store.ready.loose where
    by_loose : (view.at < length entries) ⊎ ((group : List Record) → IsOneOf group view.loose → AreBefore (turn + 1) group) → s.turn < turn + 1
    by_loose (inl early) = absurd (omega (arith, early, place))
    by_loose (inr all) = (all (s ∷ others) one).0

  pub group_new : IsNew group (loose_at (length entries) view)
  group_new r s rest others is one same =
      let kept = one_of_kept (view.at == length entries) (s ∷ others) view.loose one in
      let k = kept.0 in
      let place : view.at ≡ length entries = grind (arith, k) in
      let before = not_loose s others place kept.1 in
      let after = turn_of r rest is in
      let even : s.turn ≡ r.turn = ap (λ (x : Record). x.turn) same in
      omega (arith, before, after, even)

  pub group_unused : IsUnusedGroup group (ours view.writer view.records)
  group_unused r rest front back is there =
      let before = before_at (turn + 1) front back r (subst (λ (l : List Record). AreBefore (turn + 1) l) there store.ready.put) in
      let after = turn_of r rest is in
      omega (arith, before, after)

  -- ---- behind

  module _ (after : LogView) (places : Places view (length entries) group Ours after) where
    -- the log had no more than the entries
    whole : entries_in view.records ≡ entries
    whole = by_rest (store.first.0) (store.first.1) where
      by_rest : (rest : List Entry) → entries_in view.records ≡ entries ++ rest → entries_in view.records ≡ entries
      by_rest [] is = is ∙ append-nil entries
      by_rest (e ∷ rest) is =
          let l : length (entries_in view.records) ≡ length (entries ++ e ∷ rest) = ap length is in
          let parts = length-append entries (e ∷ rest) in
          let even = length_entries view.records in
          let w = places.3 in
          absurd (omega (arith, l, parts, even, w))

    none_landed : (landed : List Record) → Lands view landed after.records → landed ≡ []
    none_landed landed (inl is) = is
    none_landed [] (inr (one, alive, there)) = refl
    none_landed (s ∷ others) (inr (one, alive, there)) = by_group group refl where
      place : view.at ≡ length entries
      place = let a = store.at in let f = first_within entries view.records store.first in omega (arith, a, f, alive)

      by_group : (g : List Record) → group ≡ g → s ∷ others ≡ []
      by_group [] is = absurd (some is)
      by_group (r ∷ rest) is =
          let same : s ≡ r = at_one (length entries) s r others rest after.records (subst (λ (n : ℕ). IsAt n (s ∷ others) after.records) place there) (subst (λ (l : List Record). IsAt (length entries) l after.records) is places.2) in
          let before = not_loose s others place one in
          let later = turn_of r rest is in
          let even : s.turn ≡ r.turn = ap (λ (x : Record). x.turn) same in
          absurd (omega (arith, before, later, even))

    -- so it stands right behind what the log had
    right_behind : (view.records ≡ (places.2).before) × ((places.1).more ≡ group ++ (places.2).after)
    right_behind =
        let even : length view.records ≡ length (places.2).before = (let l = length_entries view.records in let w : length (entries_in view.records) ≡ length entries = ap length whole in let b = (places.2).behind in omega (arith, l, w, b)) in
        same_front view.records (places.2).before (places.1).more (group ++ (places.2).after) (sym (places.1).longer ∙ (places.2).whole) even

    none_other : ours view.writer (places.2).after ≡ []
    none_other = by_length (ours view.writer (places.2).after) lengths where
      landed : (places.1).landed ≡ []
      landed = none_landed (places.1).landed (places.1).lands

      both : group ++ ours view.writer (places.2).after ≡ group
      both = ap (λ (l : List Record). l ++ ours view.writer (places.2).after) (sym (ours_own view.writer group own)) ∙ sym (ours_both view.writer group (places.2).after) ∙ ap (ours view.writer) (sym (right_behind.1)) ∙ (places.1).own ∙ ap (λ (l : List Record). l ++ group) landed

      lengths : length (ours view.writer (places.2).after) ≡ 0
      lengths = let l : length (group ++ ours view.writer (places.2).after) ≡ length group = ap length both in let p = length-append group (ours view.writer (places.2).after) in omega (arith, l, p)

      by_length : (l : List Record) → length l ≡ 0 → l ≡ []
      by_length [] is = refl
      by_length (r ∷ l) is = absurd (omega (arith, is))

    pub leads : (groups : List (List Entry)) → group ≡ recorded_all view.writer (turn + 1) groups → Leads entries view turn groups after
    leads groups is = record {
      writer = (places.0).writer;
      whole = whole;
      others = (places.2).after;
      records = (places.1).longer ∙ ap (λ (l : List Record). view.records ++ l) (right_behind.1 ∙ ap (λ (l : List Record). l ++ (places.2).after) is);
      foreign = none_other;
      at = let p = (places.0).place in let l = length_entries view.records in let w : length (entries_in view.records) ≡ length entries = ap length whole in omega (arith, p, l, w);
      within = let p = (places.0).place in let w = places.4 in omega (arith, p, w);
    }

-- once a group of several calls was asked for: of the turns behind this one up to a later one
module _ (entries : List Entry) (turn later : ℕ) (view after : LogView) (group : List Record) (store : IsStore entries turn view) (within : turn < later) (some : group ≢ []) (before : AreBefore (later + 1) group) where
  store_later : IsStore entries later view
  store_later = store_until turn later entries view (omega (arith, within)) store

  ready : IsReady later entries view
  ready = ready_until (turn + 1) later entries view (omega (arith, within)) store.ready

  pub group_ours : (new made : List Entry) → new ≡ entries ++ made → entries_in group ≡ made → Places view (length entries) group Ours after → IsStore new later after
  group_ours new made is entries_are (loosens, grows, there, behind, at_within) =
      store_asked later entries view after store_later ready group some before loosens group new grows before (made, is)
      (subst (λ (l : List Entry). AreFirst l after.records) (sym is) (page_first entries made [] group after.records (still_first entries view group after.records store.first grows) there (entries_are ∙ sym (append-nil made))))

  pub group_others : (page : Vec Record) → Places view (length entries) group (Others page) after → IsStore entries later after
  group_others page (loosens, grows, some_there, there) =
      store_asked later entries view after store_later ready group some before loosens [] entries grows tt ([], sym (append-nil entries)) (still_first entries view [] after.records store.first grows)

  pub group_full : Reads view after → IsStore entries later after
  group_full reads = store_looked later entries entries view after store_later reads ([], sym (append-nil entries)) (still_first entries view [] after.records store.first reads.grows)

  pub group_unknown : PlacesNone view (length entries) group after → IsStore entries later after
  group_unknown (loosens, grows) = by_growth grows where
    by_growth : Grows view [] after.records ⊎ (Grows view group after.records × IsAt (length entries) group after.records) → IsStore entries later after
    by_growth (inl none) = store_asked later entries view after store_later ready group some before loosens [] entries none tt ([], sym (append-nil entries)) (still_first entries view [] after.records store.first none)
    by_growth (inr (all, there)) = store_asked later entries view after store_later ready group some before loosens group entries all before ([], sym (append-nil entries)) (still_first entries view group after.records store.first all)

-- nothing stays asked for that is still free
module _ (is_known : Bool) (entries : List Entry) (turn : ℕ) (view after : LogView) (group : List Record) (store : IsTrue is_known → IsStore entries turn view) where
  pub others_stay : (page : Vec Record) → (IsTrue is_known → Places view (length entries) group (Others page) after) → StaysOn is_known entries view entries after
  others_stay page places = record {
    goes_on = ([], sym (append-nil entries));
    first = λ known. still_first entries view [] after.records (store known).first (places known).1;
    own = λ known. (places known).1;
    follows = λ known. (((places known).0).writer, inl (let p = ((places known).0).place in let w = some_within (length entries) page.items after.records (places known).2 (places known).3 in omega (arith, p, w)));
  } where
    some_within : (at : ℕ) (page records : List Record) → page ≢ [] → IsAt at page records → at < length records
    some_within at [] records some there = absurd (some refl)
    some_within at (r ∷ rest) records some there = at_within at r rest records there

  pub reads_stay : (IsTrue is_known → Reads view after) → StaysOn is_known entries view entries after
  reads_stay reads = record {
    goes_on = ([], sym (append-nil entries));
    first = λ known. still_first entries view [] after.records (store known).first (reads known).grows;
    own = λ known. (reads known).grows;
    follows = λ known. looked_on view after (reads known);
  }

  -- it isn't known whether the calls were made
  pub unknown_tries : (messages : List Message) (asked : List (List Entry)) (later : ℕ) → AreMade entries messages asked → (IsTrue is_known → group ≡ recorded_all view.writer (turn + 1) asked) → later ≡ turn + length messages → (IsTrue is_known → PlacesNone view (length entries) group after)
      → TriesBy is_known turn later entries view messages entries after
  unknown_tries messages asked later are is until places = record {
    from = turn + 1;
    later = omega arith;
    until = omega (arith, until);
    on = record {
      goes_on = ([], sym (append-nil entries));
      asked = asked;
      made = are;
      first = λ known. by_first known (places known).1;
      own = λ known. subst (λ (l : List Record). Grows view [] after.records ⊎ (Grows view l after.records × IsAt (length entries) l after.records)) (is known) (places known).1;
      place = λ known. ((places known).0).place;
      writer = λ known. ((places known).0).writer;
      loose = λ known alive g one. by_one known g (((places known).0).place) (((places known).0).loose g one);
    };
  } where
    by_first : IsTrue is_known → Grows view [] after.records ⊎ (Grows view group after.records × IsAt (length entries) group after.records) → AreFirst entries after.records
    by_first known (inl none) = still_first entries view [] after.records (store known).first none
    by_first known (inr (all, there)) = still_first entries view group after.records (store known).first all

    by_one : IsTrue is_known → (g : List Record) → after.at ≡ length entries → IsOneOf g (loose_at (length entries) view) ⊎ (g ≡ group) → ((after.at ≡ view.at) × IsOneOf g view.loose) ⊎ (g ≡ recorded_all view.writer (turn + 1) asked)
    by_one known g place (inl one) = inl (let kept = one_of_kept (view.at == length entries) g view.loose one in let k = kept.0 in let at : view.at ≡ length entries = grind (arith, k) in (place ∙ sym at, kept.1))
    by_one known g place (inr same) = inr (same ∙ is known)

-- Calls that were gathered in a hall behind its entries, as of the turns behind this one, and are to be put at this place.
module _ (is_known is_stale : Bool) (old new : List Entry) (turn later at writer : ℕ) (view after : LogView) (calls messages : List Message) (before answers : List Answer) (group : List Record)
    (store : IsTrue is_known → IsStore old turn view) (own : IsTrue is_known → writer ≡ view.writer) (gathers : Gathers writer turn old before messages new answers group) (place : at ≡ length old) (some : 0 < length messages) (until : later ≡ turn + length messages) where
  records_are : IsTrue is_known → group ≡ recorded_all view.writer (turn + 1) gathers.asked
  records_are known = gathers.records ∙ ap (λ (w : ℕ). recorded_all w (turn + 1) gathers.asked) (own known)

  own_all : IsTrue is_known → AllByRecursion (λ r. r.writer ≡ view.writer) group
  own_all known = subst (λ (l : List Record). AllByRecursion (λ r. r.writer ≡ view.writer) l) (sym (records_are known)) (all_own view.writer (turn + 1) gathers.asked)

  late_all : AreLate (turn + 1) group
  late_all = subst (λ (l : List Record). AreLate (turn + 1) l) (sym gathers.records) (all_late writer (turn + 1) gathers.asked)

  even : length gathers.asked ≡ length messages
  even = groups_even old messages gathers.given gathers.asked gathers.are

  before_all : AreBefore (later + 1) group
  before_all = subst (λ (l : List Record). AreBefore (later + 1) l) (sym gathers.records) (before_mono ((turn + 1) + length gathers.asked) (later + 1) (recorded_all writer (turn + 1) gathers.asked) (let e = even in omega (arith, e, until)) (all_before writer (turn + 1) gathers.asked))

  grows : turn < later
  grows = omega (arith, some, until)

  -- the hall's first entries
  pub first_are : take at new ≡ old
  first_are = ap (λ (l : List Entry). take at l) gathers.makes ∙ take_at old (joined gathers.asked) at (sym place)

  -- none of them makes an entry
  pub none_made : group ≡ [] → new ≡ old
  none_made none = gathers.makes ∙ ap (λ (l : List Entry). old ++ l) (nothing_made writer (turn + 1) gathers.asked (sym gathers.records ∙ none)) ∙ append-nil old

  pub asked_all : group ≡ [] → (IsTrue is_known → Reads view after) → (IsTrue is_known → AreFirst old after.records) → (IsTrue is_known → AreBehind is_stale messages (length view.records ≤ length old)) → MakesAll (Goes is_known is_stale) (moment old view turn) messages gathers.given (moment old after turn)
  asked_all none reads first behind = chain_asked is_known is_stale old view after turn reads (λ known. (store known).first) first messages gathers.given gathers.asked old refl gathers.are (nothing_made writer (turn + 1) gathers.asked (sym gathers.records ∙ none)) some behind

  module _ (one : group ≢ []) where
    pub may_put_all : IsTrue is_known → MayAppend view at group
    may_put_all known = subst (λ (n : ℕ). MayAppend view n group) (sym place) (may_group old turn view group (store known) one (own_all known) late_all)

    pub is_new_all : IsTrue is_known → IsNew group (loose_at at view)
    is_new_all known = subst (λ (n : ℕ). IsNew group (loose_at n view)) (sym place) (group_new old turn view group (store known) one (own_all known) late_all)

    pub is_unused_all : IsTrue is_known → IsUnusedGroup group (ours view.writer view.records)
    is_unused_all known = group_unused old turn view group (store known) one (own_all known) late_all

    here : (placed : Placed) → Places view at group placed after → Places view (length old) group placed after
    here placed places = subst (λ (n : ℕ). Places view n group placed after) place places

    pub ours_store : IsTrue is_known → Places view at group Ours after → IsStore new later after
    ours_store known places = group_ours old turn later view after group (store known) grows one before_all new (joined gathers.asked) gathers.makes (ap entries_in gathers.records ∙ all_entries writer (turn + 1) gathers.asked) (here Ours places)

    pub ours_all : (IsTrue is_known → Places view at group Ours after) → MakesAll (Goes is_known is_stale) (moment old view turn) messages gathers.given (moment new after later)
    ours_all places = chain is_known is_stale after messages gathers.given gathers.asked old new view turn later (λ known. leads old turn view group (store known) one (own_all known) late_all after (here Ours (places known)) gathers.asked (records_are known)) gathers.are some gathers.makes until

    pub others_store : (page : Vec Record) → IsTrue is_known → Places view at group (Others page) after → IsStore (take at new) later after
    others_store page known places = subst (λ (l : List Entry). IsStore l later after) (sym first_are) (group_others old turn later view after group (store known) grows one before_all page (here (Others page) places))

    pub others_stay_all : (page : Vec Record) → (IsTrue is_known → Places view at group (Others page) after) → StaysOn is_known old view (take at new) after
    others_stay_all page places = subst (λ (l : List Entry). StaysOn is_known old view l after) (sym first_are) (others_stay is_known old turn view after group store page (λ known. here (Others page) (places known)))

    pub full_store : IsTrue is_known → Reads view after → IsStore (take at new) later after
    full_store known reads = subst (λ (l : List Entry). IsStore l later after) (sym first_are) (group_full old turn later view after group (store known) grows one before_all reads)

    pub full_stay : (IsTrue is_known → Reads view after) → StaysOn is_known old view (take at new) after
    full_stay reads = subst (λ (l : List Entry). StaysOn is_known old view l after) (sym first_are) (reads_stay is_known old turn view after group store reads)

    pub unknown_store : IsTrue is_known → PlacesNone view at group after → IsStore (take at new) later after
    unknown_store known places = subst (λ (l : List Entry). IsStore l later after) (sym first_are) (group_unknown old turn later view after group (store known) grows one before_all (subst (λ (n : ℕ). PlacesNone view n group after) place places))

    pub unknown_not : (left : List Message) → calls ≡ messages ++ left → (IsTrue is_known → PlacesNone view at group after) → GroupsNot is_known (moment old view turn) calls (moment (take at new) after later)
    unknown_not left split places = record {
      tried = messages;
      left = left;
      split = split;
      some = some;
      on = inr (subst (λ (l : List Entry). TriesBy is_known turn later old view messages l after) (sym first_are)
          (unknown_tries is_known old turn view after group store messages gathers.asked later (are_made old messages gathers.given gathers.asked gathers.are) records_are until (λ known. subst (λ (n : ℕ). PlacesNone view n group after) place (places known))));
    }

-- the log was read on behind calls that make no entry
pub looks_from : (is_known : Bool) (old mid new : List Entry) (view after : LogView) → mid ≡ old → LooksOn is_known mid view new after → LooksOn is_known old view new after
looks_from is_known old mid new view after same looks = subst (λ (l : List Entry). LooksOn is_known l view new after) same looks

looks_stay : (is_known : Bool) (old new : List Entry) (view after : LogView) → LooksOn is_known old view new after → StaysOn is_known old view new after
looks_stay is_known old new view after looks = record { goes_on = looks.goes_on; first = looks.first; own = λ known. (looks.reads known).grows; follows = λ known. looked_on view after (looks.reads known) }

pub stays_not : (is_known : Bool) (old new : List Entry) (turn later : ℕ) (view after : LogView) (calls : List Message) → 0 < length calls → StaysOn is_known old view new after → GroupsNot is_known (moment old view turn) calls (moment new after later)
stays_not is_known old new turn later view after calls some stays = record { tried = calls; left = []; split = sym (append-nil calls); some = some; on = inl stays }

pub looks_not : (is_known : Bool) (old new : List Entry) (turn later : ℕ) (view after : LogView) (calls : List Message) → 0 < length calls → LooksOn is_known old view new after → GroupsNot is_known (moment old view turn) calls (moment new after later)
looks_not is_known old new turn later view after calls some looks = stays_not is_known old new turn later view after calls some (looks_stay is_known old new view after looks)

-- what calls are answered behind, where all of them are questions, or not
behind_all : (is_stale : Bool) (calls : List Message) (All : Type 0) → All → AreBehind is_stale calls All
behind_all is_stale [] All all = tt
behind_all is_stale (m ∷ calls) All all = (λ asks. all, behind_all is_stale calls All all)

behind_questions : (calls : List Message) (All : Type 0) → AllByRecursion (λ m. asks_all true m.call ≡ false) calls → AreBehind true calls All
behind_questions [] All questions = tt
behind_questions (m ∷ calls) All (is, questions) = (λ asks. absurd (let f : false ≡ true = sym is ∙ asks in cc), behind_questions calls All questions)

pub behind_by : (is_stale result : Bool) (calls : List Message) (All : Type 0) → (result ≡ false → All) → (is_stale ≡ false → result ≡ false) → (IsTrue result → AllByRecursion (λ m. asks_all true m.call ≡ false) calls) → AreBehind is_stale calls All
behind_by is_stale false calls All all fresh questions = behind_all is_stale calls All (all refl)
behind_by false true calls All all fresh questions = absurd (let f : true ≡ false = fresh refl in cc)
behind_by true true calls All all fresh questions = behind_questions calls All (questions refl)
