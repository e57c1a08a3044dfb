-- What is left of a log behind what a store sees of it.
use Rattle.std.proofs.Common.{◌≡◌, inl, inr, ◌≤◌, ℕ, List, [], ◌∷◌, ◌++◌, length, sym, ap, subst, ◌∙◌, append_assoc}
use native.Mathlib.Omega.{arith}
use Rattle.pana_shared.specs.declared.record.Record.{Record}
use Rattle.pana_shared.specs.Log.{Grows, IsAt, IsOneOf, Lands, LogView}
use Rattle.pana_shared.proofs.Grown.{at_more, at_within}
use Rattle.pana_shared_laws.specs.Groups.{AreGroups}
use Rattle.pana_shared_laws.proofs.Fine.{grown_length}
use Rattle.pana_shared_laws.proofs.Grouped.{groups_both, groups_skip, groups_tail}

module _ (w : ℕ) (records : List Record) where
  -- behind a view there are of the writer what has landed of what was loose, and what later calls make
  pub record Rest (view : LogView) (groups : List (ℕ × List Record)) : Type 0 where
    pub more : List Record
    pub is : records ≡ view.records ++ more
    pub landed : List Record
    pub lands : Lands view landed records
    pub laid : AreGroups (length view.records) w more ((view.at, landed) ∷ groups)

  lands_more : (old : LogView) (landed mid more : List Record) → records ≡ mid ++ more → Lands old landed mid → Lands old landed records
  lands_more old landed mid more is (inl none) = inl none
  lands_more old landed mid more is (inr (one, alive, there)) = inr (one, alive, subst (λ (l : List Record). IsAt old.at landed l) (sym is) (at_more old.at landed mid more there))

  -- a call that goes from a view to a later one
  module _ (old mid : LogView) (made : List Record) (grows : Grows old made mid.records) (at : ℕ) (groups : List (ℕ × List Record)) (rest : Rest mid groups) where
    whole : records ≡ old.records ++ (grows.more ++ rest.more)
    whole = rest.is ∙ ap (λ (l : List Record). l ++ rest.more) grows.longer ∙ append_assoc old.records grows.more rest.more

    joined : (g : List Record) → AreGroups (length old.records) w grows.more ((old.at, grows.landed) ∷ (at, g) ∷ [])
        → AreGroups (length old.records) w (grows.more ++ rest.more) ((old.at, grows.landed) ∷ (at, g) ∷ (mid.at, rest.landed) ∷ groups)
    joined g came = groups_both w (length old.records) grows.more rest.more ((old.at, grows.landed) ∷ (at, g) ∷ []) ((mid.at, rest.landed) ∷ groups) came (subst (λ (n : ℕ). AreGroups n w rest.more ((mid.at, rest.landed) ∷ groups)) (grown_length old made mid.records grows) rest.laid)

    -- nothing is loose any more
    pub rest_loud : AreGroups (length old.records) w grows.more ((old.at, grows.landed) ∷ (at, made) ∷ []) → (length mid.records ≤ mid.at → (g : List Record) → IsOneOf g mid.loose → ⊥) → Rest old ((at, made) ∷ groups)
    rest_loud came gone = record {
      more = grows.more ++ rest.more;
      is = whole;
      landed = grows.landed;
      lands = lands_more old grows.landed mid.records rest.more rest.is grows.lands;
      laid = by_lands rest.landed rest.lands (joined made came);
    } where
      by_lands : (landed : List Record) → Lands mid landed records → AreGroups (length old.records) w (grows.more ++ rest.more) ((old.at, grows.landed) ∷ (at, made) ∷ (mid.at, landed) ∷ groups) → AreGroups (length old.records) w (grows.more ++ rest.more) ((old.at, grows.landed) ∷ (at, made) ∷ groups)
      by_lands landed (inl none) all = groups_skip w ((old.at, grows.landed) ∷ (at, made) ∷ []) (length old.records) (grows.more ++ rest.more) mid.at groups (subst (λ (l : List Record). AreGroups (length old.records) w (grows.more ++ rest.more) ((old.at, grows.landed) ∷ (at, made) ∷ (mid.at, l) ∷ groups)) none all)
      by_lands landed (inr (one, alive, there)) all = absurd (gone alive landed one)

  module _ (old mid : LogView) (grows : Grows old [] mid.records) (at : ℕ) (groups : List (ℕ × List Record)) (rest : Rest mid groups) (came : AreGroups (length old.records) w grows.more ((old.at, grows.landed) ∷ (at, []) ∷ [])) where
    both : AreGroups (length old.records) w (grows.more ++ rest.more) ((old.at, grows.landed) ∷ (at, []) ∷ (mid.at, rest.landed) ∷ groups)
    both = joined old mid [] grows at groups rest [] came

    all : AreGroups (length old.records) w (grows.more ++ rest.more) ((old.at, grows.landed) ∷ (mid.at, rest.landed) ∷ groups)
    all = groups_skip w ((old.at, grows.landed) ∷ []) (length old.records) (grows.more ++ rest.more) at ((mid.at, rest.landed) ∷ groups) both

    -- nothing has landed behind
    pub rest_early : rest.landed ≡ [] → Rest old groups
    rest_early none = record {
      more = grows.more ++ rest.more;
      is = whole old mid [] grows at groups rest;
      landed = grows.landed;
      lands = lands_more old grows.landed mid.records rest.more rest.is grows.lands;
      laid = groups_skip w ((old.at, grows.landed) ∷ []) (length old.records) (grows.more ++ rest.more) mid.at groups (subst (λ (l : List Record). AreGroups (length old.records) w (grows.more ++ rest.more) ((old.at, grows.landed) ∷ (mid.at, l) ∷ groups)) none all);
    }

    -- what was loose has landed behind
    landed_late : mid.at ≡ old.at → IsOneOf rest.landed old.loose → length mid.records ≤ mid.at → IsAt mid.at rest.landed records → Rest old groups
    landed_late place one alive there = record {
      more = grows.more ++ rest.more;
      is = whole old mid [] grows at groups rest;
      landed = rest.landed;
      lands = inr (one, early, subst (λ (n : ℕ). IsAt n rest.landed records) place there);
      laid = subst (λ (n : ℕ). AreGroups (length old.records) w (grows.more ++ rest.more) ((n, rest.landed) ∷ groups)) place (by_landed grows.landed grows.lands all);
    } where
      early : length old.records ≤ old.at
      early = let l = grown_length old [] mid.records grows in omega (arith, l, alive, place)

      by_landed : (landed : List Record) → Lands old landed mid.records → AreGroups (length old.records) w (grows.more ++ rest.more) ((old.at, landed) ∷ (mid.at, rest.landed) ∷ groups) → AreGroups (length old.records) w (grows.more ++ rest.more) ((mid.at, rest.landed) ∷ groups)
      by_landed [] lands groups = groups
      by_landed (r ∷ others) (inl none) groups = absurd (let f : r ∷ others ≡ [] = none in cc)
      by_landed (r ∷ others) (inr (member, free, stands)) groups = absurd (let within = at_within old.at r others mid.records stands in omega (arith, within, alive, place))

    -- a call that makes nothing, and asks for nothing
    pub rest_quiet : (length mid.records ≤ mid.at → IsOneOf rest.landed mid.loose → (mid.at ≡ old.at) × IsOneOf rest.landed old.loose) → Rest old groups
    rest_quiet fewer = by_lands rest.lands where
      by_lands : Lands mid rest.landed records → Rest old groups
      by_lands (inl none) = rest_early none
      by_lands (inr (one, alive, there)) = let was = fewer alive one in landed_late was.0 was.1 alive there

    -- what it has asked for has landed behind
    pub rest_late : (asked : List Record) → rest.landed ≡ asked → mid.at ≡ at → Rest old ((at, asked) ∷ groups)
    rest_late asked is place = record {
      more = grows.more ++ rest.more;
      is = whole old mid [] grows at groups rest;
      landed = grows.landed;
      lands = lands_more old grows.landed mid.records rest.more rest.is grows.lands;
      laid = subst (λ (l : List Record). AreGroups (length old.records) w (grows.more ++ rest.more) ((old.at, grows.landed) ∷ (at, l) ∷ groups)) is (subst (λ (n : ℕ). AreGroups (length old.records) w (grows.more ++ rest.more) ((old.at, grows.landed) ∷ (n, rest.landed) ∷ groups)) place all);
    }

  -- what becomes of groups becomes of those that are left
  pub rest_tail : (view : LogView) (gs hs : List (ℕ × List Record)) → ((from : ℕ) (xs : List Record) → AreGroups from w xs gs → AreGroups from w xs hs) → Rest view gs → Rest view hs
  rest_tail view gs hs become rest = record {
    more = rest.more;
    is = rest.is;
    landed = rest.landed;
    lands = rest.lands;
    laid = groups_tail w ((view.at, rest.landed) ∷ []) gs hs become (length view.records) rest.more rest.laid;
  }

  -- a call that makes nothing, among the others
  pub rest_slip : (view : LogView) (at : ℕ) (groups : List (ℕ × List Record)) → Rest view groups → Rest view ((at, []) ∷ groups)
  rest_slip view at groups rest = rest_tail view groups ((at, []) ∷ groups) (λ from xs same. same) rest

  pub rest_unslip : (view : LogView) (at : ℕ) (groups : List (ℕ × List Record)) → Rest view ((at, []) ∷ groups) → Rest view groups
  rest_unslip view at groups rest = rest_tail view ((at, []) ∷ groups) groups (λ from xs same. same) rest
