-- Where calls without answers stand that were made at once.
use Rattle.std.proofs.Common.{◌≡◌, inl, inr, ◌<◌, ◌≤◌, ℕ, ◌+◌, Bool, List, [], ◌∷◌, ◌++◌, length, map, None, refl, sym, ap, subst, ◌∙◌, append_assoc, append-nil, length-append}
use native.Mathlib.Omega.{arith}
use Rattle.std.specs.List.{AllByRecursion}
use mathlib.Core.List.{IsPrefix}
use Rattle.pana_journal.specs.declared.entry.Entry.{Entry}
use Rattle.pana_calls.specs.declared.answer.Answer.TheVariants.{NotKept}
use Rattle.pana_calls.specs.declared.message.Message.{Message}
use Rattle.pana_shared.specs.declared.record.Record.{Record}
use Rattle.pana_shared_store.specs.Store.{AreFirst, AreMade, StoreView, recorded, recorded_all}
use Rattle.pana_shared_laws.specs.Groups.{AreGroups}
use Rattle.pana_shared_laws.specs.Lives.{Step}
use Rattle.pana_shared_laws.specs.OneHistory.{AreInARow, HaveNone, HaveTurns, InOrder, Standing, StandsIn, group_of}
use Rattle.pana_shared_laws.proofs.Called.{reply_of}
use Rattle.pana_shared_laws.proofs.Fine.{length_recorded}
use Rattle.pana_shared_laws.proofs.Grouped.{groups_parts, groups_tail}
use Rattle.pana_shared_laws.proofs.Recorded.{all_made}

-- turns that are behind one are behind an earlier one
pub turns_from : (turn from : ℕ) (calls : List Standing) → from ≤ turn → HaveTurns turn calls → HaveTurns from calls
turns_from turn from [] early all = tt
turns_from turn from (call ∷ calls) early (inl (none, all)) = inl (none, turns_from turn from calls early all)
turns_from turn from (call ∷ calls) early (inr (is, behind, until, all)) = inr (omega (arith, is, early), behind, until, all)

-- fewer entries are the log's first ones too
first_fewer : (entries more : List Entry) (records : List Record) → AreFirst (entries ++ more) records → AreFirst entries records
first_fewer entries more records (rest, is) = (more ++ rest, is ∙ append_assoc entries more rest)

module _ (w : ℕ) (records : List Record) (is_stale : Bool) (begun ended : StoreView) (stale : begun.is_stale ≡ is_stale) (has_begun : IsPrefix begun.seen.records records) (has_ended : IsPrefix ended.seen.records records) where
  abbrev pub step_of : Message → Step
  step_of message = record { begun = begun; by = message.by; call = message.call; answer = None; ended = ended }

  -- where calls stand, one behind another, from this place and turn on, what they have made together, and what is so of all of them
  pub record Stood (at : List Entry) (turn : ℕ) (group : List Record) (messages : List Message) (AreSo : List Standing → Type 0) : Type 0 where
    pub calls : List Standing
    pub are : map (λ call. call.step) calls ≡ map step_of messages
    pub stand : AllByRecursion (λ call. StandsIn records call) calls
    pub same : AllByRecursion (λ call. call.step.begun.is_stale ≡ is_stale) calls
    pub order : (from : ℕ) (later : List Standing) → from ≤ length at → InOrder from later → InOrder from (calls ++ later)
    pub turns : (from : ℕ) (later : List Standing) → from < turn → HaveTurns ended.turn later → HaveTurns from (calls ++ later)
    pub whole : AreSo calls
    pub laid : (groups : List (ℕ × List Record)) (from : ℕ) (xs : List Record) → AreGroups from w xs ((length at, group) ∷ groups) → AreGroups from w xs (map (λ call. group_of w call) calls ++ groups)

  -- none of them has made anything
  pub stood_none : (at : List Entry) → AreFirst at records → (messages : List Message) → Stood at (ended.turn + 1) [] messages HaveNone
  stood_none at first [] = record {
    calls = [];
    are = refl;
    stand = tt;
    same = tt;
    order = λ from later within all. all;
    turns = λ from later early all. turns_from ended.turn from later (omega (arith, early)) all;
    whole = tt;
    laid = λ groups from xs all. all;
  }
  stood_none at first (message ∷ messages) =
      let others = stood_none at first messages in
      record {
        calls = record { step = step_of message; turn = ended.turn; before = at; made = []; reply = reply_of NotKept } ∷ others.calls;
        are = ap (λ (l : List Step). step_of message ∷ l) others.are;
        stand = (record { first = subst (λ (l : List Entry). AreFirst l records) (sym (append-nil at)) first; begun = has_begun; ended = has_ended; comes = inl refl }, others.stand);
        same = (stale, others.same);
        order = λ from later within all. (within, others.order from later within all);
        turns = λ from later early all. inl (refl, others.turns from later early all);
        whole = (refl, others.whole);
        laid = others.laid;
      }

  -- all of them were made, each behind those before it
  pub stood_all : (at : List Entry) (turn : ℕ) (messages : List Message) (asked : List (List Entry)) → AreMade at messages asked → AreFirst (at ++ all_made asked) records → length begun.seen.records ≤ length at → begun.turn < turn → turn + length messages ≤ ended.turn + 1
      → Stood at turn (recorded_all w turn asked) messages (AreInARow at)
  stood_all at turn [] (made ∷ asked) are first late behind until = absurd are
  stood_all at turn (message ∷ messages) [] are first late behind until = absurd are
  stood_all at turn [] [] are first late behind until = record {
    calls = [];
    are = refl;
    stand = tt;
    same = tt;
    order = λ from later within all. all;
    turns = λ from later early all. turns_from ended.turn from later (omega (arith, early, until)) all;
    whole = tt;
    laid = λ groups from xs all. all;
  }
  stood_all at turn (message ∷ messages) (made ∷ asked) (reply, steps, are) first late behind until =
      let p = length-append at made in
      let first_then : AreFirst ((at ++ made) ++ all_made asked) records = subst (λ (l : List Entry). AreFirst l records) (sym (append_assoc at made (all_made asked))) first in
      let others = stood_all (at ++ made) (turn + 1) messages asked are first_then (omega (arith, late, p)) (omega (arith, behind)) (omega (arith, until)) in
      record {
        calls = record { step = step_of message; turn = turn; before = at; made = made; reply = reply } ∷ others.calls;
        are = ap (λ (l : List Step). step_of message ∷ l) others.are;
        stand = (record { first = first_fewer (at ++ made) (all_made asked) records first_then; begun = has_begun; ended = has_ended; comes = inr (steps, late) }, others.stand);
        same = (stale, others.same);
        order = λ from later within all. (within, others.order from later (omega (arith, within, p)) all);
        turns = λ from later early all. inr (early, behind, (omega (arith, until)), others.turns turn later (omega arith) all);
        whole = (refl, steps, others.whole);
        laid = λ groups from xs all.
            groups_tail w ((length at, recorded w turn made) ∷ []) ((length (at ++ made), recorded_all w (turn + 1) asked) ∷ groups) (map (λ (call : Standing). group_of w call) others.calls ++ groups) (others.laid groups) from xs
            (subst (λ (n : ℕ). AreGroups from w xs ((length at, recorded w turn made) ∷ (n, recorded_all w (turn + 1) asked) ∷ groups)) (let l = length_recorded w turn made in omega (arith, l, p)) (groups_parts w (length at) (recorded w turn made) (recorded_all w (turn + 1) asked) groups from xs all));
      }
