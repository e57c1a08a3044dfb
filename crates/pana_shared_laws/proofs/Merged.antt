-- The calls of all stores that have made entries, as one run.
use Rattle.std.proofs.Common.{◌≡◌, ◌≢◌, ◌⊎◌, inl, inr, ◌<◌, ◌≤◌, ℕ, zero, suc, ◌+◌, ◌==◌, Bool, true, false, cond, List, [], ◌∷◌, ◌++◌, length, map, filter, Option, Some, None, refl, sym, ap, subst, ◌∙◌, append_assoc, append-nil, length-append}
use native.Mathlib.Omega.{arith}
use Rattle.std.proofs.Math.Dec.{leb}
use Rattle.std.proofs.lemmas.Bool.Decides.{leb_tells}
use Rattle.std.specs.Prelude.{MatchOption}
use Rattle.std.specs.List.{AllByRecursion}
use Rattle.pana_journal.specs.declared.entry.Entry.{Entry}
use Rattle.pana_calls.specs.declared.answer.Answer.{Answer}
use Rattle.pana_hall.specs.Permit.{journal_after}
use Rattle.pana_hall.specs.Run.{IsRunFrom, journal_from}
use Rattle.pana_hall.specs.Step.{Steps}
use Rattle.pana_shared.specs.declared.record.Record.{Record}
use Rattle.pana_shared.specs.Log.{ours}
use Rattle.pana_shared.proofs.Splits.{same_front, splits}
use Rattle.pana_shared_store.specs.Store.{AreFirst, Becomes, entries_in, recorded}
use Rattle.pana_shared_store.proofs.Followed.{entries_both, length_entries}
use Rattle.pana_shared_store.proofs.Readied.{recorded_entries}
use Rattle.pana_shared_laws.specs.Groups.{AreGroups}
use Rattle.pana_shared_laws.specs.OneHistory.{AreBehind, IsAnswered, IsUnanswered, Standing, StandsIn, Turn, are_some, calls_by, exchanges, group_of}
use Rattle.pana_shared_laws.proofs.Fine.{length_recorded, recorded_own}
use Rattle.pana_shared_laws.proofs.Grouped.{none_in}

-- a record in a list of one writer's is the writer's
own_at : (w : ℕ) (front m : List Record) (x : Record) → AllByRecursion (λ r. r.writer ≡ w) (front ++ (x ∷ m)) → x.writer ≡ w
own_at w [] m x all = all.0
own_at w (y ∷ front) m x all = own_at w front m x all.1

module _ (records : List Record) where
  abbrev Some_of : List Standing → List Standing
  Some_of calls = filter (λ call. are_some call.made) calls

  abbrev Groups : ℕ → List Standing → List (ℕ × List Record)
  Groups w calls = map (λ call. group_of w call) calls

  abbrev All : List Standing → Type 0
  All calls = AllByRecursion (λ call. StandsIn records call) calls

  without : (call : Standing) (calls : List Standing) → [] ≡ call.made → Some_of (call ∷ calls) ≡ Some_of calls
  without call calls is = let e : are_some call.made ≡ false = ap are_some (sym is) in rw e refl

  with_it : (call : Standing) (calls : List Standing) (e : Entry) (es : List Entry) → e ∷ es ≡ call.made → Some_of (call ∷ calls) ≡ call ∷ Some_of calls
  with_it call calls e es is = let f : are_some call.made ≡ true = ap are_some (sym is) in rw f refl

  -- a call that has made entries was made as by a hall alone
  made_so : (call : Standing) → StandsIn records call → call.made ≢ [] → Steps call.before call.step.by call.step.call call.reply (call.before ++ call.made)
  made_so call stands some = by_answer call.step.answer stands.comes where
    by_answer : (o : Option Answer) → MatchOption o (IsUnanswered call) (λ answer. IsAnswered call answer) → Steps call.before call.step.by call.step.call call.reply (call.before ++ call.made)
    by_answer (Some answer) answered = subst (λ (a : Answer). Becomes call.before call.step.by call.step.call a (call.before ++ call.made)) (answered.replied some) answered.becomes
    by_answer None (inl none) = absurd (some none)
    by_answer None (inr made) = made.0

  -- where nothing is left of a log, no call has made any
  none_left : (w from : ℕ) (calls : List Standing) → AreGroups from w [] (Groups w calls) → Some_of calls ≡ []
  none_left w from [] groups = refl
  none_left w from (call ∷ calls) groups = by_made (none_left w from calls) call.made refl groups where
    by_made : (AreGroups from w [] (Groups w calls) → Some_of calls ≡ []) → (m : List Entry) → m ≡ call.made → AreGroups from w [] ((length call.before, recorded w call.turn m) ∷ Groups w calls) → Some_of (call ∷ calls) ≡ []
    by_made others [] is rest = without call calls is ∙ others rest
    by_made others (e ∷ es) is (before, after, whole, place, nothing, more) = absurd (nowhere before whole) where
      nowhere : (b : List Record) → [] ≡ b ++ (recorded w call.turn (e ∷ es) ++ after) → ⊥
      nowhere [] none = (let f : [] ≡ recorded w call.turn (e ∷ es) ++ after = none in cc)
      nowhere (x ∷ b) none = (let f : [] ≡ x ∷ (b ++ (recorded w call.turn (e ∷ es) ++ after)) = none in cc)

  -- what another writer has put first is nothing of this one's
  past : (w other turn from : ℕ) (made : List Entry) (after : List Record) (calls : List Standing) → (other ≡ w → ⊥) → AreGroups from w (recorded other turn made ++ after) (Groups w calls)
      → AreGroups (from + length (recorded other turn made)) w after (Groups w calls)
  past w other turn from made after [] differs groups = (none_in w (recorded other turn made) after groups).1
  past w other turn from made after (call ∷ calls) differs groups = by_made (past w other turn from made after calls differs) call.made groups where
    by_made : (AreGroups from w (recorded other turn made ++ after) (Groups w calls) → AreGroups (from + length (recorded other turn made)) w after (Groups w calls))
        → (m : List Entry) → AreGroups from w (recorded other turn made ++ after) ((length call.before, recorded w call.turn m) ∷ Groups w calls)
        → AreGroups (from + length (recorded other turn made)) w after ((length call.before, recorded w call.turn m) ∷ Groups w calls)
    by_made goes [] rest = goes rest
    by_made goes (e ∷ es) (before, behind, whole, place, nothing, more) = by_order (leb_tells (length (recorded other turn made)) (length before)) where
      by_front : (m : List Record) → recorded other turn made ≡ before ++ m → recorded w call.turn (e ∷ es) ++ behind ≡ m ++ after → 0 < length m → ⊥
      by_front [] is goes_on some = omega (arith, some)
      by_front (x ∷ m) is goes_on some =
          let theirs : x.writer ≡ other = own_at other before m x (subst (λ (l : List Record). AllByRecursion (λ r. r.writer ≡ other) l) is (recorded_own other turn made)) in
          let same : record { entry = e; writer = w; turn = call.turn } ≡ x = cc in
          let mine : w ≡ x.writer = ap (λ (r : Record). r.writer) same in
          differs (sym theirs ∙ sym mine)

      by_order : ((leb (length (recorded other turn made)) (length before) ≡ true) × (length (recorded other turn made) ≤ length before)) ⊎ ((leb (length (recorded other turn made)) (length before) ≡ false) × (length before < length (recorded other turn made))) → AreGroups (from + length (recorded other turn made)) w after ((length call.before, recorded w call.turn (e ∷ es)) ∷ Groups w calls)
      by_order (inl (_, within)) =
          let parts = splits (recorded other turn made) before after (recorded w call.turn (e ∷ es) ++ behind) whole within in
          let l : length before ≡ length (recorded other turn made ++ parts.0) = ap length parts.1 in
          let p = length-append (recorded other turn made) parts.0 in
          (parts.0, behind, parts.2, omega (arith, l, p, place), (none_in w (recorded other turn made) parts.0 (subst (λ (b : List Record). ours w b ≡ []) parts.1 nothing)).1, more)
      by_order (inr (_, early)) =
          let parts = splits before (recorded other turn made) (recorded w call.turn (e ∷ es) ++ behind) after (sym whole) (omega (arith, early)) in
          let l : length (recorded other turn made) ≡ length (before ++ parts.0) = ap length parts.1 in
          let p = length-append before parts.0 in
          absurd (by_front parts.0 parts.1 parts.2 (omega (arith, l, p, early)))

  -- ---- the next call

  -- the first call of a writer that has made any, where its record is the next
  record Next (w from : ℕ) (rest : List Record) (calls : List Standing) : Type 0 where
    pub call : Standing
    pub others : List Standing
    pub some : call.made ≢ []
    pub is : Some_of calls ≡ call ∷ Some_of others
    pub place : length call.before ≡ from
    pub after : List Record
    pub whole : rest ≡ recorded w call.turn call.made ++ after
    pub groups : AreGroups (from + length (recorded w call.turn call.made)) w after (Groups w others)
    pub stands : StandsIn records call
    pub all : All others

  next : (w from : ℕ) (r : Record) (rest : List Record) (calls : List Standing) → r.writer ≡ w → AreGroups from w (r ∷ rest) (Groups w calls) → All calls → Next w from (r ∷ rest) calls
  next w from r rest [] own groups all = absurd (let e : ours w (r ∷ rest) ≡ r ∷ ours w rest = grind (arith, own) in let f : r ∷ ours w rest ≡ [] = sym e ∙ groups in cc)
  next w from r rest (call ∷ calls) own groups all = by_made (λ (g : AreGroups from w (r ∷ rest) (Groups w calls)). next w from r rest calls own g all.1) call.made refl groups where
    by_made : (AreGroups from w (r ∷ rest) (Groups w calls) → Next w from (r ∷ rest) calls) → (m : List Entry) → m ≡ call.made → AreGroups from w (r ∷ rest) ((length call.before, recorded w call.turn m) ∷ Groups w calls) → Next w from (r ∷ rest) (call ∷ calls)
    by_made goes [] is g =
        let found = goes g in
        record { call = found.call; others = found.others; some = found.some; is = without call calls is ∙ found.is; place = found.place; after = found.after; whole = found.whole; groups = found.groups; stands = found.stands; all = found.all }
    by_made goes (e ∷ es) is (before, after, whole, place, nothing, more) = by_before before whole place nothing where
      by_before : (b : List Record) → r ∷ rest ≡ b ++ (recorded w call.turn (e ∷ es) ++ after) → from + length b ≡ length call.before → ours w b ≡ [] → Next w from (r ∷ rest) (call ∷ calls)
      by_before (x ∷ b) same at none = absurd (
          let first : r ≡ x = cc in
          let mine : x.writer ≡ w = ap (λ (y : Record). y.writer) (sym first) ∙ own in
          let has : ours w (x ∷ b) ≡ x ∷ ours w b = grind (arith, mine) in
          let no : x ∷ ours w b ≡ [] = sym has ∙ none in
          cc
          )
      by_before [] same at none = record {
        call = call;
        others = calls;
        some = λ none. (let f : e ∷ es ≡ [] = is ∙ none in cc);
        is = with_it call calls e es is;
        place = omega (arith, at);
        after = after;
        whole = subst (λ (m : List Entry). r ∷ rest ≡ recorded w call.turn m ++ after) is same;
        groups = subst (λ (m : List Entry). AreGroups (from + length (recorded w call.turn m)) w after (Groups w calls)) is (subst (λ (n : ℕ). AreGroups n w after (Groups w calls)) (omega (arith, at)) more);
        stands = all.0;
        all = all.1;
      }

  -- ---- all of them

  -- the calls that are left behind the first records make the others, as one run
  pub record Merged (front rest : List Record) (left : ℕ → List Standing) : Type 0 where
    pub turns : List Turn
    pub run : IsRunFrom (entries_in front) (exchanges turns)
    pub journal : entries_in (front ++ rest) ≡ journal_from (entries_in front) (exchanges turns)
    pub behind : AreBehind (entries_in front) turns
    pub each : (w : ℕ) → calls_by w turns ≡ Some_of (left w)

  -- what is left of each writer's once one of them has made its next
  later : ℕ → List Standing → (ℕ → List Standing) → ℕ → List Standing
  later w others left v = cond (w == v) others (left v)

  module _ (front : List Record) (r : Record) (rest : List Record) (left : ℕ → List Standing) (whole : records ≡ front ++ (r ∷ rest)) (found : Next r.writer (length front) (r ∷ rest) (left r.writer)) where
    group : List Record
    group = recorded r.writer found.call.turn found.call.made

    -- it stands right behind what those before it have made
    before_is : found.call.before ≡ entries_in front
    before_is = by_first found.stands.first where
      by_first : AreFirst (found.call.before ++ found.call.made) records → found.call.before ≡ entries_in front
      by_first (back, is) = (same_front found.call.before (entries_in front) (found.call.made ++ back) (entries_in (r ∷ rest))
          (sym (append_assoc found.call.before found.call.made back) ∙ sym is ∙ ap entries_in whole ∙ entries_both front (r ∷ rest))
          (found.place ∙ sym (length_entries front))).0

    steps : Steps (entries_in front) found.call.step.by found.call.step.call found.call.reply (entries_in front ++ found.call.made)
    steps = subst (λ (l : List Entry). Steps l found.call.step.by found.call.step.call found.call.reply (l ++ found.call.made)) before_is (made_so found.call found.stands found.some)

    entries_then : entries_in (front ++ group) ≡ entries_in front ++ found.call.made
    unfolding group
    entries_then = entries_both front group ∙ ap (λ (l : List Entry). entries_in front ++ l) (recorded_entries r.writer found.call.turn found.call.made)

    journal_then : entries_in (front ++ group) ≡ journal_after (entries_in front) found.call.step.by found.call.step.call found.call.reply
    journal_then = entries_then ∙ steps.1

    whole_then : records ≡ (front ++ group) ++ found.after
    unfolding group
    whole_then = whole ∙ ap (λ (l : List Record). front ++ l) found.whole ∙ sym (append_assoc front group found.after)

    shorter : length found.after < length (r ∷ rest)
    shorter =
        let l : length (r ∷ rest) ≡ length (recorded r.writer found.call.turn found.call.made ++ found.after) = ap length found.whole in
        let p = length-append (recorded r.writer found.call.turn found.call.made) found.after in
        let q = length_recorded r.writer found.call.turn found.call.made in
        let s : 0 < length found.call.made = (by_made found.call.made found.some) in
        omega (arith, l, p, q, s)
      where
        by_made : (m : List Entry) → m ≢ [] → 0 < length m
        by_made [] none = absurd (none refl)
        by_made (e ∷ es) none = omega arith

    groups_then : ((w : ℕ) → AreGroups (length front) w (r ∷ rest) (Groups w (left w))) → (w : ℕ) → AreGroups (length (front ++ group)) w found.after (Groups w (later r.writer found.others left w))
    unfolding group later
    groups_then groups w = subst (λ (n : ℕ). AreGroups n w found.after (Groups w (cond (r.writer == w) found.others (left w)))) (sym (length-append front group)) (by_writer (r.writer == w) refl) where
      by_writer : (b : Bool) → (r.writer == w) ≡ b → AreGroups (length front + length group) w found.after (Groups w (cond b found.others (left w)))
      by_writer true e = let is : r.writer ≡ w = grind (arith, e) in subst (λ (n : ℕ). AreGroups (length front + length group) n found.after (Groups n found.others)) is found.groups
      by_writer false e =
          let differs : r.writer ≡ w → ⊥ = grind (arith, e) in
          past w r.writer found.call.turn (length front) found.call.made found.after (left w) differs (subst (λ (l : List Record). AreGroups (length front) w l (Groups w (left w))) found.whole (groups w))

    all_then : ((w : ℕ) → All (left w)) → (w : ℕ) → All (later r.writer found.others left w)
    unfolding later
    all_then all w = by_writer (r.writer == w) where
      by_writer : (b : Bool) → All (cond b found.others (left w))
      by_writer true = found.all
      by_writer false = all w

    merged_then : Merged (front ++ group) found.after (later r.writer found.others left) → Merged front (r ∷ rest) left
    unfolding later
    merged_then more = record {
      turns = record { writer = r.writer; call = found.call } ∷ more.turns;
      run = (steps.0, subst (λ (l : List Entry). IsRunFrom l (exchanges more.turns)) journal_then more.run);
      journal = ap entries_in (sym whole) ∙ ap entries_in whole_then ∙ more.journal ∙ ap (λ (l : List Entry). journal_from l (exchanges more.turns)) journal_then;
      behind = (before_is, subst (λ (l : List Entry). AreBehind l more.turns) entries_then more.behind);
      each = λ w. by_writer w (r.writer == w) refl (more.each w);
    } where
      by_writer : (w : ℕ) (b : Bool) → (r.writer == w) ≡ b → calls_by w more.turns ≡ Some_of (cond (r.writer == w) found.others (left w)) → calls_by w (record { writer = r.writer; call = found.call } ∷ more.turns) ≡ Some_of (left w)
      by_writer w true e is =
          let same : r.writer ≡ w = grind (arith, e) in
          let others : calls_by w more.turns ≡ Some_of found.others = is ∙ ap (λ (b : Bool). Some_of (cond b found.others (left w))) e in
          rw e (ap (λ (l : List Standing). found.call ∷ l) others ∙ sym found.is ∙ ap (λ (n : ℕ). Some_of (left n)) same)
      by_writer w false e is = rw e (is ∙ ap (λ (b : Bool). Some_of (cond b found.others (left w))) e)

  pub merge : (n : ℕ) (front rest : List Record) (left : ℕ → List Standing) → length rest ≤ n → records ≡ front ++ rest → ((w : ℕ) → AreGroups (length front) w rest (Groups w (left w))) → ((w : ℕ) → All (left w)) → Merged front rest left
  merge n front [] left within whole groups all = record {
    turns = [];
    run = tt;
    journal = ap entries_in (append-nil front);
    behind = tt;
    each = λ w. sym (none_left w (length front) (left w) (groups w));
  }
  merge zero front (r ∷ rest) left within whole groups all = absurd (omega (arith, within))
  merge (suc n) front (r ∷ rest) left within whole groups all =
      let found = next r.writer (length front) r rest (left r.writer) refl (groups r.writer) (all r.writer) in
      merged_then front r rest left whole found
      (merge n (front ++ group front r rest left whole found) found.after (later r.writer found.others left) (let s = shorter front r rest left whole found in omega (arith, s, within)) (whole_then front r rest left whole found) (groups_then front r rest left whole found groups) (all_then front r rest left whole found all))
