-- What may be put behind the entries of a hall, and what is left then.
use Rattle.std.proofs.Common.{◌≡◌, ◌≢◌, ◌⊎◌, ◌<◌, ◌≤◌, ℕ, ◌+◌, ◌==◌, true, false, List, [], ◌∷◌, ◌++◌, length, inl, inr, refl, sym, ap, subst, ◌∙◌, append-nil, length-append}
use native.Mathlib.Omega.{arith}
use Rattle.std.specs.List.{AllByRecursion}
use Rattle.std.proofs.Math.Dec.{leb}
use Rattle.std.proofs.lemmas.Bool.Decides.{leb_tells}
use Rattle.pana_journal.specs.declared.entry.Entry.{Entry}
use Rattle.pana_shared.specs.declared.record.Record.{Record}
use Rattle.pana_shared.specs.Log.{Grows, HaveSome, IsOneOf, Lands, LogView, MayAppend, Reads, loose_at, ours}
use Rattle.pana_shared.proofs.Grown.{one_of_kept, ours_both}
use Rattle.pana_shared_store.specs.Store.{AreFirst, GoesOn, entries_in, recorded}
use Rattle.pana_shared_store.specs.inner.{AreBefore, IsNew, IsReady, IsStore, IsUnusedGroup, Loosens}
use Rattle.pana_shared_store.proofs.Followed.{first_within}

-- ---- records of turns

pub before_both : (turn : ℕ) (xs ys : List Record) → AreBefore turn xs → AreBefore turn ys → AreBefore turn (xs ++ ys)
before_both turn [] ys first second = second
before_both turn (x ∷ xs) ys (is, first) second = (is, before_both turn xs ys first second)

pub before_more : (turn : ℕ) (xs : List Record) → AreBefore turn xs → AreBefore (turn + 1) xs
before_more turn [] all = all
before_more turn (x ∷ xs) (is, all) = (omega (arith, is), before_more turn xs all)

pub before_mono : (turn later : ℕ) (xs : List Record) → turn ≤ later → AreBefore turn xs → AreBefore later xs
before_mono turn later [] within all = tt
before_mono turn later (x ∷ xs) within (is, all) = (omega (arith, within, is), before_mono turn later xs within all)

pub before_at : (turn : ℕ) (front back : List Record) (r : Record) → AreBefore turn (front ++ (r ∷ back)) → r.turn < turn
before_at turn [] back r (is, all) = is
before_at turn (x ∷ front) back r (is, all) = before_at turn front back r all

pub recorded_before : (writer turn : ℕ) (entries : List Entry) → AreBefore (turn + 1) (recorded writer turn entries)
recorded_before writer turn [] = tt
recorded_before writer turn (e ∷ entries) = (omega arith, recorded_before writer turn entries)

pub recorded_own : (writer w turn : ℕ) (entries : List Entry) → writer ≡ w → AllByRecursion (λ r. r.writer ≡ w) (recorded writer turn entries)
recorded_own writer w turn [] is = tt
recorded_own writer w turn (e ∷ entries) is = (is, recorded_own writer w turn entries is)

pub recorded_entries : (writer turn : ℕ) (entries : List Entry) → entries_in (recorded writer turn entries) ≡ entries
recorded_entries writer turn [] = refl
recorded_entries writer turn (e ∷ entries) = ap (λ (l : List Entry). e ∷ l) (recorded_entries writer turn entries)

-- ---- before

module _ (entries : List Entry) (turn : ℕ) (view : LogView) (writer : ℕ) (own : writer ≡ view.writer) (e : Entry) (es : List Entry) where
  pub may_put : IsStore entries turn view → MayAppend view (length entries) (recorded writer turn (e ∷ es))
  may_put store = record {
    some = λ none. (let c : recorded writer turn (e ∷ es) ≡ [] = none in cc);
    own = recorded_own writer view.writer turn (e ∷ es) own;
    only = by_order (leb_tells (length entries) view.at);
  } where
    by_order : ((leb (length entries) view.at ≡ true) × (length entries ≤ view.at)) ⊎ ((leb (length entries) view.at ≡ false) × (view.at < length entries)) → (view.at ≡ length entries) ⊎ (view.at < length view.records) ⊎ (view.loose ≡ [])
    by_order (inl (_, late)) = inl (let a = store.at in omega (arith, a, late))
    by_order (inr (_, early)) = inr (inl (let f = first_within entries view.records store.first in omega (arith, f, early)))

  pub is_new : IsReady turn entries view → IsNew (recorded writer turn (e ∷ es)) (loose_at (length entries) view)
  is_new ready r s rest others is one same = by_loose ready.loose where
    kept : ((view.at == length entries) ≡ true) × IsOneOf (s ∷ others) view.loose
    kept = one_of_kept (view.at == length entries) (s ∷ others) view.loose one

    place : view.at ≡ length entries
    place = let k = kept.0 in grind (arith, k)

    turn_is : s.turn ≡ turn
    turn_is = ap (λ (x : Record). x.turn) same ∙ (let t : r ≡ record { entry = e; writer = writer; turn = turn } = (let c = is in cc) in ap (λ (x : Record). x.turn) t)

    by_loose : (view.at < length entries) ⊎ ((group : List Record) → IsOneOf group view.loose → AreBefore turn group) → ⊥
    by_loose (inl early) = omega (arith, early, place)
    by_loose (inr all) = let is_before = (all (s ∷ others) kept.1).0 in omega (arith, is_before, turn_is)

  pub is_unused : IsReady turn entries view → IsUnusedGroup (recorded writer turn (e ∷ es)) (ours view.writer view.records)
  is_unused ready r rest front back is there =
      let t : r ≡ record { entry = e; writer = writer; turn = turn } = (let c = is in cc) in
      let turn_is : r.turn ≡ turn = ap (λ (x : Record). x.turn) t in
      let is_before = before_at turn front back r (subst (λ (l : List Record). AreBefore turn l) there ready.put) in
      omega (arith, is_before, turn_is)

-- ---- behind

-- what has landed is of earlier turns
landed_before : (turn : ℕ) (entries : List Entry) (old : LogView) (landed records : List Record) → AreFirst entries old.records → ((old.at < length entries) ⊎ ((group : List Record) → IsOneOf group old.loose → AreBefore turn group)) → Lands old landed records → AreBefore turn landed
landed_before turn entries old landed records first loose (inl none) = subst (λ (l : List Record). AreBefore turn l) (sym none) tt
landed_before turn entries old landed records first (inl early) (inr (one, alive, there)) = absurd (let f = first_within entries old.records first in omega (arith, f, early, alive))
landed_before turn entries old landed records first (inr all) (inr (one, alive, there)) = all landed one

pub put_before : (turn : ℕ) (entries : List Entry) (old : LogView) (made records : List Record) → AreFirst entries old.records → IsReady turn entries old → Grows old made records → AreBefore turn made → AreBefore turn (ours old.writer records)
put_before turn entries old made records first ready grows of_made =
    subst (λ (l : List Record). AreBefore turn l) (sym (ap (ours old.writer) grows.longer ∙ ours_both old.writer old.records grows.more ∙ ap (λ (l : List Record). ours old.writer old.records ++ l) grows.own))
    (before_both turn (ours old.writer old.records) (grows.landed ++ made) ready.put (before_both turn grows.landed made (landed_before turn entries old grows.landed records first ready.loose grows.lands) of_made))

pub goes_on_within : (old new : List Entry) → GoesOn old new → length old ≤ length new
goes_on_within old new (others, is) = let l : length new ≡ length (old ++ others) = ap length is in let p : length (old ++ others) ≡ length old + length others = length-append old others in omega (arith, l, p)

-- once the log was looked at
pub ready_looked : (turn : ℕ) (old new : List Entry) (before after : LogView) → AreFirst old before.records → IsReady turn old before → Reads before after → GoesOn old new → IsReady turn new after
ready_looked turn old new before after first ready reads goes = record {
  put = subst (λ (w : ℕ). AreBefore turn (ours w after.records)) (sym (ap (λ (v : LogView). v.writer) reads.same)) (put_before turn old before [] after.records first ready reads.grows tt);
  loose = by_loose ready.loose;
} where
  by_loose : (before.at < length old) ⊎ ((group : List Record) → IsOneOf group before.loose → AreBefore turn group) → (after.at < length new) ⊎ ((group : List Record) → IsOneOf group after.loose → AreBefore turn group)
  by_loose (inl early) = inl (let w = goes_on_within old new goes in let p : after.at ≡ before.at = ap (λ (v : LogView). v.at) reads.same in omega (arith, w, p, early))
  by_loose (inr all) = inr (λ group one. all group (subst (λ (l : List (List Record)). IsOneOf group l) (ap (λ (v : LogView). v.loose) reads.same) one))

pub store_looked : (turn : ℕ) (old new : List Entry) (before after : LogView) → IsStore old turn before → Reads before after → GoesOn old new → AreFirst new after.records → IsStore new turn after
store_looked turn old new before after store reads goes first = record {
  first = first;
  at = let w = goes_on_within old new goes in let p : after.at ≡ before.at = ap (λ (v : LogView). v.at) reads.same in let a = store.at in omega (arith, w, p, a);
  some = λ group one. store.some group (subst (λ (l : List (List Record)). IsOneOf group l) (ap (λ (v : LogView). v.loose) reads.same) one);
  ready = ready_looked (turn + 1) old new before after store.first store.ready reads goes;
}

-- once a group of the turn was asked for behind the entries
module _ (turn : ℕ) (old : List Entry) (before after : LogView) (store : IsStore old turn before) (ready : IsReady turn old before) (group : List Record) (has_some : group ≢ []) (of_turn : AreBefore (turn + 1) group) (loosens : Loosens before (length old) group after) where
  some_asked : HaveSome after.loose
  some_asked g one none = by_one (loosens.loose g one) where
    by_one : IsOneOf g (loose_at (length old) before) ⊎ (g ≡ group) → ⊥
    by_one (inl is) = store.some g ((one_of_kept (before.at == length old) g before.loose is).1) none
    by_one (inr is) = has_some (sym is ∙ none)

  loose_asked : (g : List Record) → IsOneOf g after.loose → AreBefore (turn + 1) g
  loose_asked g one = by_one (loosens.loose g one) ready.loose where
    by_one : IsOneOf g (loose_at (length old) before) ⊎ (g ≡ group) → (before.at < length old) ⊎ ((group : List Record) → IsOneOf group before.loose → AreBefore turn group) → AreBefore (turn + 1) g
    by_one (inr is) loose = subst (λ (l : List Record). AreBefore (turn + 1) l) (sym is) of_turn
    by_one (inl is) (inl early) = absurd (let k = (one_of_kept (before.at == length old) g before.loose is).0 in let place : before.at ≡ length old = grind (arith, k) in omega (arith, early, place))
    by_one (inl is) (inr all) = before_more turn g (all g ((one_of_kept (before.at == length old) g before.loose is).1))

  pub store_asked : (made : List Record) (new : List Entry) → Grows before made after.records → AreBefore (turn + 1) made → GoesOn old new → AreFirst new after.records → IsStore new turn after
  store_asked made new grows of_made goes first = record {
    first = first;
    at = let w = goes_on_within old new goes in let p = loosens.place in omega (arith, w, p);
    some = some_asked;
    ready = record {
      put = subst (λ (w : ℕ). AreBefore (turn + 1) (ours w after.records)) (sym loosens.writer) (put_before (turn + 1) old before made after.records store.first store.ready grows of_made);
      loose = inr loose_asked;
    };
  }

-- what is of earlier turns is of the turns before a later one
pub ready_later : (turn : ℕ) (entries : List Entry) (view : LogView) → IsReady turn entries view → IsReady (turn + 1) entries view
ready_later turn entries view ready = record { put = before_more turn (ours view.writer view.records) ready.put; loose = by_loose ready.loose } where
  by_loose : (view.at < length entries) ⊎ ((group : List Record) → IsOneOf group view.loose → AreBefore turn group) → (view.at < length entries) ⊎ ((group : List Record) → IsOneOf group view.loose → AreBefore (turn + 1) group)
  by_loose (inl early) = inl early
  by_loose (inr all) = inr (λ group one. before_more turn group (all group one))

pub store_later : (turn : ℕ) (entries : List Entry) (view : LogView) → IsStore entries turn view → IsStore entries (turn + 1) view
store_later turn entries view store = record { first = store.first; at = store.at; some = store.some; ready = ready_later (turn + 1) entries view store.ready }

-- a store of a log that was opened just now, which the writer has put nothing into
pub store_opened : (entries : List Entry) (before after : LogView) → before.loose ≡ [] → before.at ≡ 0 → ours before.writer before.records ≡ [] → Reads before after → AreFirst entries after.records → IsStore entries 0 after
store_opened entries before after none start fresh reads first = record {
  first = first;
  at = let p : after.at ≡ before.at = ap (λ (v : LogView). v.at) reads.same in omega (arith, p, start);
  some = λ group one. absurd (nothing group one);
  ready = record { put = subst (λ (w : ℕ). AreBefore 1 (ours w after.records)) (sym (ap (λ (v : LogView). v.writer) reads.same)) (subst (λ (l : List Record). AreBefore 1 l) (sym mine) tt); loose = inr (λ group one. absurd (nothing group one)) };
} where
  nothing : (group : List Record) → IsOneOf group after.loose → ⊥
  nothing group one = subst (λ (l : List (List Record)). IsOneOf group l) (ap (λ (v : LogView). v.loose) reads.same ∙ none) one

  landed_none : (landed : List Record) → Lands before landed after.records → landed ≡ []
  landed_none landed (inl is) = is
  landed_none landed (inr (one, alive, there)) = absurd (subst (λ (l : List (List Record)). IsOneOf landed l) none one)

  mine : ours before.writer after.records ≡ []
  mine = let grows = reads.grows in ap (ours before.writer) grows.longer ∙ ours_both before.writer before.records grows.more ∙ ap (λ (l : List Record). l ++ ours before.writer grows.more) fresh ∙ grows.own ∙ append-nil grows.landed ∙ landed_none grows.landed grows.lands
