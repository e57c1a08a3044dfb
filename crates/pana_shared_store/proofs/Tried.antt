-- What has come of one try, and of the tries behind it.
use Rattle.std.proofs.Common.{◌≡◌, ◌≢◌, ◌⊎◌, ◌<◌, ◌≤◌, ℕ, ◌+◌, ◌==◌, Bool, true, false, List, [], ◌∷◌, ◌++◌, length, inl, inr, refl, sym, ap, subst, ◌∙◌, append-nil, append_assoc, length-append}
use native.Mathlib.Omega.{arith}
use Rattle.std.specs.Prelude.{IsTrue, IfOk, OnErr}
use Rattle.std.specs.Global.{Vec}
use Rattle.std.proofs.Common.{Result, Ok, Err}
use Rattle.pana_shared.specs.declared.read_fault.ReadFault.{ReadFault}
use Rattle.pana_journal.specs.declared.entry.Entry.{Entry}
use Rattle.pana_calls.specs.declared.answer.Answer.{Answer}
use Rattle.pana_calls.specs.declared.answer.Answer.TheVariants.{Given}
use Rattle.pana_calls.specs.declared.call.Call.{Call}
use Rattle.pana_calls.specs.declared.call.Call.TheVariants as calls
use Rattle.pana_calls.specs.declared.call.Query.{Query}
use Rattle.pana_calls.specs.declared.reply.Reply.{Reply}
use Rattle.pana_hall.specs.Permit.{Permits, journal_after}
use Rattle.pana_hall.specs.Step.{Steps}
use Rattle.pana_shared.specs.declared.record.Record.{Record}
use Rattle.pana_shared.specs.Log.{Follows, Grows, HaveSome, IsAt, IsOneOf, LogView, loose_at, ours}
use Rattle.pana_shared.proofs.Grown.{at_within, grows_on, one_of_kept}
use Rattle.pana_shared_store.specs.declared.making.Tried.TheVariants.{Made, Behind, Not}
use Rattle.pana_shared_store.specs.declared.trying.Attempt.TheVariants.{Answered}
use Rattle.pana_shared_store.specs.Store.{AreFirst, Becomes, GoesOn, MakesBy, MakesOn, StaysOn, TriesBy, TriesOn, asks_all, entries_in, recorded, recorded_all}
use Rattle.pana_shared_store.specs.inner.{AreBefore, Attempts, IsReady, IsStore, LooksOn, TriesNone, TriesOne, TriesTo}
use Rattle.pana_shared_store.proofs.Followed.{looks_none, looks_page, reads_none, reads_on}
use Rattle.pana_shared_store.proofs.Placed.{looked_on}
use Rattle.pana_shared_store.proofs.Readied.{goes_on_within, put_before, ready_looked}

same_goes_on : (old new : List Entry) → new ≡ old → GoesOn old new
same_goes_on old new same = ([], same ∙ sym (append-nil old))

module _ (is_known : Bool) (turn : ℕ) (old new : List Entry) (before after : LogView) (by : List ℕ) (call : Call) (store : IsTrue is_known → IsStore new turn after) where
  -- nothing is known of it
  pub tried_none : TriesNone is_known turn old before by call new after → TriesOne is_known turn old before by call new after
  tried_none tries = record {
    goes_on = same_goes_on old new tries.same;
    reply = tries.reply;
    asked = tries.asked;
    steps = subst (λ (l : List Entry). Steps l by call tries.reply (l ++ tries.asked)) (sym tries.same) tries.steps;
    first = λ known. (store known).first;
    own = λ known. by_own ((tries.places known).1);
    place = λ known. ((tries.places known).0).place ∙ sym (ap length tries.same);
    writer = λ known. ((tries.places known).0).writer;
    loose = λ known alive group one. by_one group (((tries.places known).0).place) (((tries.places known).0).loose group one);
  } where
    by_own : Grows before [] after.records ⊎ (Grows before (recorded before.writer turn tries.asked) after.records × IsAt (length old) (recorded before.writer turn tries.asked) after.records)
        → Grows before [] after.records ⊎ (Grows before (recorded before.writer turn tries.asked) after.records × IsAt (length new) (recorded before.writer turn tries.asked) after.records)
    by_own (inl none) = inl none
    by_own (inr (all, there)) = inr (all, subst (λ (l : List Entry). IsAt (length l) (recorded before.writer turn tries.asked) after.records) (sym tries.same) there)

    by_one : (group : List Record) → after.at ≡ length old → IsOneOf group (loose_at (length old) before) ⊎ (group ≡ recorded before.writer turn tries.asked) → ((after.at ≡ before.at) × IsOneOf group before.loose) ⊎ (group ≡ recorded before.writer turn tries.asked)
    by_one group place (inl is) = inl (let kept = one_of_kept (before.at == length old) group before.loose is in let k = kept.0 in let at : before.at ≡ length old = grind (arith, k) in (place ∙ sym at, kept.1))
    by_one group place (inr is) = inr is

  -- it was made
  pub tried_made : (reply : Reply) → (is_read : Bool) → TriesTo is_known turn old before by call (Made reply) new after → Attempts is_known turn is_read old before by call (Answered (Given reply)) new after
  tried_made reply is_read (made, is, steps, places) = (
    record {
      at = old;
      goes_on = same_goes_on old old refl;
      becomes = steps;
      made = made;
      makes = is;
      first = λ known. (store known).first;
      own = λ known. (places known).1;
      stands = λ known some. (places known).2;
      follows = λ known. (((places known).0).writer, inl (let p = ((places known).0).place in let w = (places known).4 in omega (arith, p, w)));
    },
    λ known. inr (places known).3,
  )

pub at_some : (at : ℕ) (page records : List Record) → page ≢ [] → IsAt at page records → at < length records
at_some at [] records some there = absurd (some refl)
at_some at (r ∷ rest) records some there = at_within at r rest records there

-- a page that isn't empty has entries to follow
pub followed_some : (old mid new : List Entry) (page : List Record) → mid ≡ old → new ≡ mid ++ entries_in page → page ≢ [] → length old < length new
followed_some old mid new [] same is some = absurd (some refl)
followed_some old mid new (r ∷ page) same is some =
    let l : length new ≡ length (mid ++ entries_in (r ∷ page)) = ap length is in
    let p : length (mid ++ entries_in (r ∷ page)) ≡ length mid + length (entries_in (r ∷ page)) = length-append mid (entries_in (r ∷ page)) in
    let s : length mid ≡ length old = ap length same in
    omega (arith, l, p, s)

pub within : (old : LogView) (made records : List Record) → Grows old made records → length old.records ≤ length records
within old made records grows =
    let l : length records ≡ length (old.records ++ grows.more) = ap length grows.longer in
    let p : length (old.records ++ grows.more) ≡ length old.records + length grows.more = length-append old.records grows.more in
    omega (arith, l, p)

goes_from : (old mid new : List Entry) → mid ≡ old → GoesOn mid new → GoesOn old new
goes_from old mid new same (others, is) = (others, is ∙ ap (λ (l : List Entry). l ++ others) same)

module _ (is_known : Bool) (turn : ℕ) (old mid new : List Entry) (before between after : LogView) (by : List ℕ) (call : Call) (store : IsTrue is_known → IsStore old turn before) (ready : IsTrue is_known → IsReady turn old before) (looks : LooksOn is_known mid between new after) where
  -- others' entries stand there
  module _ (page : Vec Record) (tries : TriesTo is_known turn old before by call (Behind page) mid between) where
    early : IsTrue is_known → between.at < length between.records
    early known = let places = tries.2 known in let p = (places.0).place in let w = at_some (length old) page.items between.records places.2 places.3 in omega (arith, p, w)

    pub behind_stays : StaysOn is_known old before new after
    behind_stays = record {
      goes_on = goes_from old mid new tries.1 looks.goes_on;
      first = looks.first;
      own = λ known. grows_on before between after.records (((tries.2 known).0).writer, inl (early known)) (tries.2 known).1 [] (store known).some (looks.reads known).grows;
      follows = λ known. (
        ap (λ (v : LogView). v.writer) (looks.reads known).same ∙ ((tries.2 known).0).writer,
        inl (let e = early known in let w = within between [] after.records (looks.reads known).grows in let p : after.at ≡ between.at = ap (λ (v : LogView). v.at) (looks.reads known).same in omega (arith, e, w, p)),
      );
    }

    -- and once one of them is followed, it may be tried again
    pub behind_ready : new ≡ mid ++ entries_in page.items → IsTrue is_known → IsReady turn new after
    behind_ready is known =
        let places = tries.2 known in
        let grows = grows_on before between after.records ((places.0).writer, inl (early known)) places.1 [] (store known).some (looks.reads known).grows in
        record {
          put = subst (λ (w : ℕ). AreBefore turn (ours w after.records)) (sym (ap (λ (v : LogView). v.writer) (looks.reads known).same ∙ (places.0).writer)) (put_before turn old before [] after.records (store known).first (ready known) grows tt);
          loose = inl (let p : after.at ≡ between.at = ap (λ (v : LogView). v.at) (looks.reads known).same in let a = (places.0).place in let s = followed_some old mid new page.items tries.1 is places.2 in omega (arith, p, a, s));
        }

  -- nothing was asked for
  pub not_stays : (answer : Answer) → TriesTo is_known turn old before by call (Not answer) mid between → StaysOn is_known old before new after
  not_stays answer (same, becomes, reads) = record {
    goes_on = goes_from old mid new same looks.goes_on;
    first = looks.first;
    own = λ known. (reads_on before between after (store known).some (reads known) (looks.reads known)).grows;
    follows = λ known. looked_on before after (reads_on before between after (store known).some (reads known) (looks.reads known));
  }

  pub not_ready : (answer : Answer) → TriesTo is_known turn old before by call (Not answer) mid between → IsTrue is_known → IsReady turn new after
  not_ready answer (same, becomes, reads) known =
      ready_looked turn old new before after (store known).first (ready known) (reads_on before between after (store known).some (reads known) (looks.reads known)) (goes_from old mid new same looks.goes_on)

  -- and nothing stands behind, or all that was asked for was read before: it has its answer
  pub not_made : (answer : Answer) → (is_read : Bool) → TriesTo is_known turn old before by call (Not answer) mid between → (IsTrue is_known → IsTrue is_read ⊎ (length between.records ≤ length new)) → length new ≡ length old → Attempts is_known turn is_read old before by call (Answered answer) new after
  not_made answer is_read (same, becomes, reads) all even = (
    record {
      at = old;
      goes_on = same_goes_on old old refl;
      becomes = subst (λ (l : List Entry). Becomes old by call answer l) (same ∙ sym is_old) becomes;
      made = [];
      makes = is_old ∙ sym (append-nil old);
      first = looks.first;
      own = λ known. (reads_on before between after (store known).some (reads known) (looks.reads known)).grows;
      stands = λ known some. absurd (some refl);
      follows = λ known. looked_on before after (reads_on before between after (store known).some (reads known) (looks.reads known));
    },
    λ known. by_all known (all known),
  ) where
    by_all : IsTrue is_known → IsTrue is_read ⊎ (length between.records ≤ length new) → IsTrue is_read ⊎ (length before.records ≤ length old)
    by_all known (inl read) = inl read
    by_all known (inr a) = inr (let w = within before [] between.records (reads known).grows in omega (arith, w, a, even))

    is_old : new ≡ old
    is_old = by_others (looks.goes_on.0) (looks.goes_on.1) where
      by_others : (others : List Entry) → new ≡ mid ++ others → new ≡ old
      by_others [] is = is ∙ append-nil mid ∙ same
      by_others (x ∷ others) is = absurd (let l : length new ≡ length (mid ++ (x ∷ others)) = ap length is in let p : length (mid ++ (x ∷ others)) ≡ length mid + length (x ∷ others) = length-append mid (x ∷ others) in let s : length mid ≡ length old = ap length same in omega (arith, l, p, s, even))

  -- or something does, and all of it that was there is followed
  pub not_read : (answer : Answer) → TriesTo is_known turn old before by call (Not answer) mid between → (IsTrue is_known → length between.records ≤ length new) → IsTrue is_known → length before.records ≤ length new
  not_read answer (same, becomes, reads) all known = let w = within before [] between.records (reads known).grows in let a = all known in omega (arith, w, a)

-- others' entries are followed then, one at least
pub behind_more : (is_known : Bool) (turn : ℕ) (old mid new : List Entry) (before between : LogView) (by : List ℕ) (call : Call) (page : Vec Record) → TriesTo is_known turn old before by call (Behind page) mid between → new ≡ mid ++ entries_in page.items → IsTrue is_known → length old < length new
behind_more is_known turn old mid new before between by call page (group, same, places) is known = followed_some old mid new page.items same is (places known).2

pub not_more : (old mid new : List Entry) → mid ≡ old → GoesOn mid new → (length new ≡ length old → ⊥) → length old < length new
not_more old mid new same goes differs = let w = goes_on_within old new (goes_from old mid new same goes) in omega (arith, w, differs)

-- what a page has that stands there is followed, or the first of it
pub behind_looks : (is_known : Bool) (turn : ℕ) (old mid new : List Entry) (before between : LogView) (by : List ℕ) (call : Call) (page : Vec Record) (taken left : List Entry) → (IsTrue is_known → IsStore mid turn between)
    → TriesTo is_known turn old before by call (Behind page) mid between → new ≡ mid ++ taken → entries_in page.items ≡ taken ++ left → LooksOn is_known mid between new between
behind_looks is_known turn old mid new before between by call page taken left store (group, same, places) made parts =
    looks_page is_known mid mid new between between between page.items taken left (λ known. (store known).some) (looks_none is_known mid between (λ known. (store known).first)) (λ known. reads_none between)
    (λ known some. subst (λ (l : List Entry). IsAt (length l) page.items between.records) (sym same) (places known).3) made parts

-- ---- the tries behind

pub follows_on : (old mid new : LogView) → length mid.records ≤ length new.records → Follows old mid → Follows mid new → Follows old new
follows_on old mid new grown (same, early) (same_later, later) = (same_later ∙ same, by_both early later) where
  by_both : ((mid.at < length mid.records) ⊎ ((mid.at ≡ old.at) × ((group : List Record) → IsOneOf group mid.loose → IsOneOf group old.loose))) → ((new.at < length new.records) ⊎ ((new.at ≡ mid.at) × ((group : List Record) → IsOneOf group new.loose → IsOneOf group mid.loose)))
      → (new.at < length new.records) ⊎ ((new.at ≡ old.at) × ((group : List Record) → IsOneOf group new.loose → IsOneOf group old.loose))
  by_both first (inl dead) = inl dead
  by_both (inl dead) (inr (place, some)) = inl (omega (arith, dead, place, grown))
  by_both (inr (place, some)) (inr (place_later, fewer)) = inr (place_later ∙ place, λ group one. some group (fewer group one))

pub goes_both : (old mid new : List Entry) → GoesOn old mid → GoesOn mid new → GoesOn old new
goes_both old mid new (first, is) (second, is_later) = (first ++ second, is_later ∙ ap (λ (l : List Entry). l ++ second) is ∙ append_assoc old first second)

module _ (is_known : Bool) (turn : ℕ) (old mid new : List Entry) (before between after : LogView) (by : List ℕ) (call : Call) (some : IsTrue is_known → HaveSome before.loose) (stays : StaysOn is_known old before mid between) where
  pub makes_on : (answer : Answer) (is_read : Bool) → Attempts is_known turn is_read mid between by call (Answered answer) new after → (IsTrue is_read → IsTrue is_known → length before.records ≤ length mid) → MakesOn is_known false turn old before by call answer new after
  makes_on answer is_read (makes, all) read = record {
    at = makes.at;
    goes_on = goes_both old mid makes.at stays.goes_on makes.goes_on;
    becomes = makes.becomes;
    made = makes.made;
    makes = makes.makes;
    all = λ known asks. by_all known (all known);
    first = makes.first;
    own = λ known. grows_on before between after.records (stays.follows known) (stays.own known) (recorded before.writer turn makes.made) (some known) (subst (λ (w : ℕ). Grows between (recorded w turn makes.made) after.records) (stays.follows known).0 (makes.own known));
    stands = λ known some. subst (λ (w : ℕ). IsAt (length makes.at) (recorded w turn makes.made) after.records) (stays.follows known).0 (makes.stands known some);
    follows = λ known. follows_on before between after (within between (recorded between.writer turn makes.made) after.records (makes.own known)) (stays.follows known) (makes.follows known);
  } where
    by_all : IsTrue is_known → IsTrue is_read ⊎ (length between.records ≤ length makes.at) → length before.records ≤ length makes.at
    by_all known (inl is) = let w = goes_on_within mid makes.at makes.goes_on in let r = read is known in omega (arith, w, r)
    by_all known (inr a) = let w = within before [] between.records (stays.own known) in omega (arith, w, a)

  -- what was read before is still followed, and what is read now has all that was there
  pub read_again : (is_read : Bool) → StaysOn is_known mid between new after → IsTrue is_known → IsTrue is_read ⊎ (length between.records ≤ length new) → (IsTrue is_read → length before.records ≤ length mid) → length before.records ≤ length new
  read_again is_read later known (inl was) read = let w = goes_on_within mid new later.goes_on in let r = read was in omega (arith, w, r)
  read_again is_read later known (inr all) read = let w = within before [] between.records (stays.own known) in omega (arith, w, all)

  pub stays_on : StaysOn is_known mid between new after → StaysOn is_known old before new after
  stays_on later = record {
    goes_on = goes_both old mid new stays.goes_on later.goes_on;
    first = later.first;
    own = λ known. grows_on before between after.records (stays.follows known) (stays.own known) [] (some known) (later.own known);
    follows = λ known. follows_on before between after (within between [] after.records (later.own known)) (stays.follows known) (later.follows known);
  }

  pub tries_on : TriesOne is_known turn mid between by call new after → TriesOne is_known turn old before by call new after
  tries_on tries = record {
    goes_on = goes_both old mid new stays.goes_on tries.goes_on;
    reply = tries.reply;
    asked = tries.asked;
    steps = tries.steps;
    first = tries.first;
    own = λ known. by_growth known (tries.own known);
    place = tries.place;
    writer = λ known. tries.writer known ∙ (stays.follows known).0;
    loose = λ known alive group one. by_one known alive group (stays.follows known) (tries.loose known alive group one);
  } where
    by_growth : IsTrue is_known → Grows between [] after.records ⊎ (Grows between (recorded between.writer turn tries.asked) after.records × IsAt (length new) (recorded between.writer turn tries.asked) after.records)
        → Grows before [] after.records ⊎ (Grows before (recorded before.writer turn tries.asked) after.records × IsAt (length new) (recorded before.writer turn tries.asked) after.records)
    by_growth known (inl none) = inl (grows_on before between after.records (stays.follows known) (stays.own known) [] (some known) none)
    by_growth known (inr (all, there)) = inr (
      grows_on before between after.records (stays.follows known) (stays.own known) (recorded before.writer turn tries.asked) (some known) (subst (λ (w : ℕ). Grows between (recorded w turn tries.asked) after.records) (stays.follows known).0 all),
      subst (λ (w : ℕ). IsAt (length new) (recorded w turn tries.asked) after.records) (stays.follows known).0 there,
    )

    length_on : IsTrue is_known → length between.records ≤ length after.records
    length_on known = by_case (tries.own known) where
      by_case : Grows between [] after.records ⊎ (Grows between (recorded between.writer turn tries.asked) after.records × IsAt (length new) (recorded between.writer turn tries.asked) after.records) → length between.records ≤ length after.records
      by_case (inl none) = within between [] after.records none
      by_case (inr (all, there)) = within between (recorded between.writer turn tries.asked) after.records all

    by_one : IsTrue is_known → length after.records ≤ after.at → (group : List Record) → Follows before between → ((after.at ≡ between.at) × IsOneOf group between.loose) ⊎ (group ≡ recorded between.writer turn tries.asked) → ((after.at ≡ before.at) × IsOneOf group before.loose) ⊎ (group ≡ recorded before.writer turn tries.asked)
    by_one known alive group (same, where_loose) (inr is) = inr (is ∙ ap (λ (w : ℕ). recorded w turn tries.asked) same)
    by_one known alive group (same, inl dead) (inl (place, one)) = absurd (let l = length_on known in omega (arith, l, dead, place, alive))
    by_one known alive group (same, inr (at, fewer)) (inl (place, one)) = inl (place ∙ at, fewer group one)

-- no time has gone by
pub stays_none : (is_known : Bool) (entries : List Entry) (view : LogView) → (IsTrue is_known → AreFirst entries view.records) → StaysOn is_known entries view entries view
stays_none is_known entries view first = record { goes_on = same_goes_on entries entries refl; first = first; own = λ known. (reads_none view).grows; follows = λ known. (refl, inr (refl, λ group one. one)) }

pub stays_same : (is_known : Bool) (entries new : List Entry) (before after : LogView) → new ≡ entries → after ≡ before → (IsTrue is_known → AreFirst new after.records) → StaysOn is_known entries before new after
stays_same is_known entries new before after same even first =
    subst (λ (l : List Entry). StaysOn is_known l before new after) same (subst (λ (v : LogView). StaysOn is_known new v new after) even (stays_none is_known new after first))

-- a question makes no entry
pub asks_nothing : (journal : List Entry) (by : List ℕ) (query : Query) (reply : Reply) → journal_after journal by (calls.Query query) reply ≡ journal
unfolding journal_after
asks_nothing journal by query reply = refl

-- a store of which a question asks all isn't stale
not_stale : (is_stale : Bool) (query : Query) → IsTrue (asks_all is_stale (calls.Query query)) → is_stale ≡ false
not_stale false query asks = refl
not_stale true query asks = absurd (let f : false ≡ true = asks in cc)

-- a question behind what is followed, which is all that the log had but for a stale store
pub asked_made : (is_known is_stale : Bool) (turn : ℕ) (old mid new : List Entry) (before after : LogView) (by : List ℕ) (query : Query) (reply : Reply) → LooksOn is_known old before mid after → (IsTrue is_known → is_stale ≡ false → length before.records ≤ length mid)
    → Permits mid by (calls.Query query) reply → new ≡ journal_after mid by (calls.Query query) reply → MakesBy is_known is_stale turn turn old before by (calls.Query query) (Given reply) new after
asked_made is_known is_stale turn old mid new before after by query reply looks all permits is = record {
  later = inl refl;
  on = record {
    at = mid;
    goes_on = looks.goes_on;
    becomes = (permits, is);
    made = [];
    makes = is ∙ asks_nothing mid by query reply ∙ sym (append-nil mid);
    all = λ known asks. all known (not_stale is_stale query asks);
    first = λ known. subst (λ (l : List Entry). AreFirst l after.records) (sym (is ∙ asks_nothing mid by query reply)) (looks.first known);
    own = λ known. (looks.reads known).grows;
    stands = λ known some. absurd (some refl);
    follows = λ known. looked_on before after (looks.reads known);
  };
}

-- a call alone is a list of one
module _ (is_known : Bool) (turn : ℕ) (old new : List Entry) (seen_old seen_new : LogView) (by : List ℕ) (call : Call) where
  tried_one : TriesOne is_known turn old seen_old by call new seen_new → TriesOn is_known turn old seen_old (record { by = by; call = call } ∷ []) new seen_new
  tried_one tries = record {
    goes_on = tries.goes_on;
    asked = tries.asked ∷ [];
    made = (tries.reply, tries.steps, tt);
    first = tries.first;
    own = λ known. subst (λ (l : List Record). Grows seen_old [] seen_new.records ⊎ (Grows seen_old l seen_new.records × IsAt (length new) l seen_new.records)) (sym alone) (tries.own known);
    place = tries.place;
    writer = tries.writer;
    loose = λ known alive group one. subst (λ (l : List Record). ((seen_new.at ≡ seen_old.at) × IsOneOf group seen_old.loose) ⊎ (group ≡ l)) (sym alone) (tries.loose known alive group one);
  } where
    alone : recorded_all seen_old.writer turn (tries.asked ∷ []) ≡ recorded seen_old.writer turn tries.asked
    alone = append-nil (recorded seen_old.writer turn tries.asked)

-- what a call that has a turn of its own comes to
module _ (is_known : Bool) (before turn : ℕ) (later : before < turn) (old new : List Entry) (seen_old seen_new : LogView) (by : List ℕ) (call : Call) where
  pub made_by : (r : Result Answer ReadFault) → IfOk r (λ answer. MakesOn is_known false turn old seen_old by call answer new seen_new) → IfOk r (λ answer. MakesBy is_known false before turn old seen_old by call answer new seen_new)
  made_by (Ok answer) makes = record { on = makes; later = inr later }
  made_by (Err fault) makes = tt

  pub tried_by : (r : Result Answer ReadFault) → OnErr r (StaysOn is_known old seen_old new seen_new ⊎ TriesOne is_known turn old seen_old by call new seen_new) → OnErr r (StaysOn is_known old seen_old new seen_new ⊎ TriesBy is_known before turn old seen_old (record { by = by; call = call } ∷ []) new seen_new)
  tried_by (Ok answer) on = tt
  tried_by (Err fault) (inl stays) = inl stays
  tried_by (Err fault) (inr tries) = inr (record { from = turn; on = tried_one is_known turn old new seen_old seen_new by call tries; later = later; until = omega arith })

-- what is made behind all that the log had is so by a stale store too
pub made_behind : (is_known is_stale : Bool) (before turn : ℕ) (old new : List Entry) (seen_old seen_new : LogView) (by : List ℕ) (call : Call) (r : Result Answer ReadFault) → IfOk r (λ answer. MakesBy is_known false before turn old seen_old by call answer new seen_new)
    → IfOk r (λ answer. MakesBy is_known is_stale before turn old seen_old by call answer new seen_new)
made_behind is_known is_stale before turn old new seen_old seen_new by call (Err fault) makes = tt
made_behind is_known is_stale before turn old new seen_old seen_new by call (Ok answer) makes =
    let on = makes.on in
    record {
      on = record {
        at = on.at;
        goes_on = on.goes_on;
        becomes = on.becomes;
        made = on.made;
        makes = on.makes;
        all = λ known asks. on.all known refl;
        first = on.first;
        own = on.own;
        stands = on.stands;
        follows = on.follows;
      };
      later = makes.later;
    }
