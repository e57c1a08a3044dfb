-- What happens to a log in memory.
use Rattle.std.proofs.Common.{◌≡◌, ◌≢◌, ◌⊎◌, inl, inr, ◌<◌, ◌≤◌, ℕ, ◌+◌, ◌==◌, Bool, true, false, List, [], ◌∷◌, ◌++◌, length, filter, map, take, drop, refl, sym, ap, subst, ◌∙◌, append_assoc, append-nil, length-append, min, Option, Some}
use native.Mathlib.Omega.{arith}
use Rattle.std.proofs.Math.Dec.{leb}
use Rattle.std.proofs.Math.Seq.{drop-length, take-nil}
use Rattle.std.specs.Global.{Vec}
use Rattle.std.specs.List.{AllByRecursion, insert}
use Rattle.std.specs.Prelude.{if◌then◌else◌}
use Rattle.std.proofs.lemmas.Bool.Decides.{leb_tells}
use Rattle.std.proofs.lemmas.List.{take-append-drop, length-take-le}
use Rattle.pana_shared.specs.declared.record.Record.{Record}
use Rattle.pana_shared.specs.declared.shared_log.Appended.{Appended}
use Rattle.pana_shared.specs.declared.shared_log.Appended.TheVariants.{Put, Taken, Full, Unknown}
use Rattle.pana_shared.specs.Log.{Appends, Asks, Grows, IsAt, IsOneOf, Lands, LogView, MayAppend, Reads, asked, loose_at, ours}
use Rattle.pana_shared.proofs.Grown.{at_within, ours_both}
use Rattle.pana_shared_store.specs.Store.{IsFresh}
use Rattle.pana_shared_tests.specs.declared.memory.Fate.{Fate}
use Rattle.pana_shared_tests.specs.Memory.{ComeOf, ComesTo, IsFound, LandsOf, put_at}

abbrev view : List Record → ℕ → ℕ → List (List Record) → LogView
view records w at loose = record { records = records; writer = w; at = at; loose = loose }

-- others' records have come, and behind them a group has landed, or none
pub waits : (w at : ℕ) (loose : List (List Record)) (old mid new : List Record) → ComeOf w old mid → LandsOf w at loose mid new → Reads (view old w at loose) (view new w at loose)
waits w at loose old mid new (more, whole, none) (inl same) = record {
  same = refl;
  grows = record { more = more; longer = same ∙ whole; landed = []; lands = inl refl; own = none };
}
waits w at loose old mid new (more, whole, none) (inr (group, one, place, own, is)) = record {
  same = refl;
  grows = record {
    more = more ++ group;
    longer = is ∙ ap (λ (l : List Record). l ++ group) whole ∙ append_assoc old more group;
    landed = group;
    lands = inr (one, (let l : length mid ≡ length (old ++ more) = ap length whole in let p = length-append old more in omega (arith, l, p, place)), record { before = mid; after = []; whole = is ∙ ap (λ (l : List Record). mid ++ l) (sym (append-nil group)); behind = place });
    own = ours_both w more group ∙ ap (λ (l : List Record). l ++ ours w group) none ∙ own ∙ sym (append-nil group);
  };
}

pub come_both : (w : ℕ) (old mid new : List Record) → ComeOf w old mid → ComeOf w mid new → ComeOf w old new
come_both w old mid new (first, is, none) (second, is_later, none_later) = (
  first ++ second,
  is_later ∙ ap (λ (l : List Record). l ++ second) is ∙ append_assoc old first second,
  ours_both w first second ∙ ap (λ (l : List Record). l ++ ours w second) none ∙ none_later,
)

-- what stands in a list behind so many
stands_there : (from n : ℕ) (records page : List Record) → from ≤ length records → page ≡ take n (drop from records) → IsAt from page records
stands_there from n records page within is = record {
  before = take from records;
  after = drop n (drop from records);
  whole = sym (take-append-drop from records) ∙ ap (λ (l : List Record). take from records ++ l) (sym (take-append-drop n (drop from records)) ∙ ap (λ (l : List Record). l ++ drop n (drop from records)) (sym is));
  behind = length-take-le from records within;
}

pub page_stands : (from start n : ℕ) (records page : List Record) → start ≡ min from (length records) → page ≡ take n (drop start records) → page ≢ [] → IsAt from page records
page_stands from start n records page first is some = by_order (leb_tells from (length records)) where
  by_order : ((leb from (length records) ≡ true) × (from ≤ length records)) ⊎ ((leb from (length records) ≡ false) × (length records < from)) → IsAt from page records
  by_order (inl (_, within)) = let same : start ≡ from = omega (arith, first, within) in stands_there from n records page within (subst (λ (m : ℕ). page ≡ take n (drop m records)) same is)
  by_order (inr (_, over)) =
      let all : start ≡ length records = omega (arith, first, over) in
      let none : drop start records ≡ [] = ap (λ (m : ℕ). drop m records) all ∙ drop-length records in
      absurd (some (is ∙ ap (take n) none ∙ take-nil n))

-- ---- groups that are asked for

pub loose_same : (old : LogView) (at : ℕ) → old.at ≡ at → loose_at at old ≡ old.loose
loose_same old at is = let e : (old.at == at) ≡ true = grind (arith, is) in ap (λ (b : Bool). filter (λ (group : List Record). b) old.loose) e ∙ all old.loose where
  all : (groups : List (List Record)) → filter (λ (group : List Record). true) groups ≡ groups
  all [] = refl
  all (g ∷ groups) = ap (λ (l : List (List Record)). g ∷ l) (all groups)

pub loose_other : (old : LogView) (at : ℕ) → (old.at ≡ at → ⊥) → loose_at at old ≡ []
loose_other old at differs = let e : (old.at == at) ≡ false = grind (arith, differs) in ap (λ (b : Bool). filter (λ (group : List Record). b) old.loose) e ∙ none old.loose where
  none : (groups : List (List Record)) → filter (λ (group : List Record). false) groups ≡ []
  none [] = refl
  none (g ∷ groups) = none groups

-- a group is asked for at the place of those before, or at another
module _ {X : Type 0} (f : X → List Record) (old : LogView) (at : ℕ) (group : List Record) (xs ys : List X) (x : X) (b : Bool) (ok : b ≡ true) (ins : ys ≡ (if b then insert xs 0 x else xs)) (is : f x ≡ group) (loose : map f xs ≡ old.loose) where
  first : ys ≡ x ∷ xs
  first = ins ∙ ap (λ (c : Bool). if c then insert xs 0 x else xs) ok

  pub ask_same : old.at ≡ at → record { records = old.records; writer = old.writer; at = old.at; loose = map f ys } ≡ asked old at group
  ask_same same =
      let all : map f ys ≡ group ∷ loose_at at old = ap (map f) first ∙ ap (λ (g : List Record). g ∷ map f xs) is ∙ ap (λ (l : List (List Record)). group ∷ l) (loose ∙ sym (loose_same old at same)) in
      ap (λ (n : ℕ). record { records = old.records; writer = old.writer; at = n; loose = map f ys }) same ∙ ap (λ (l : List (List Record)). record { records = old.records; writer = old.writer; at = at; loose = l }) all

  pub ask_other : (zs : List X) → zs ≡ take 1 ys → (old.at ≡ at → ⊥) → record { records = old.records; writer = old.writer; at = at; loose = map f zs } ≡ asked old at group
  ask_other zs cut differs =
      let one : zs ≡ x ∷ [] = cut ∙ ap (take 1) first in
      let all : map f zs ≡ group ∷ loose_at at old = ap (map f) one ∙ ap (λ (g : List Record). g ∷ []) is ∙ ap (λ (l : List (List Record)). group ∷ l) (sym (loose_other old at differs)) in
      ap (λ (l : List (List Record)). record { records = old.records; writer = old.writer; at = at; loose = l }) all

-- ---- what comes of it

own_all : (w : ℕ) (xs : List Record) → AllByRecursion (λ r. r.writer ≡ w) xs → ours w xs ≡ xs
own_all w [] all = refl
own_all w (r ∷ xs) (is, all) = let rest = own_all w xs all in grind (arith, is, rest)

module _ (old mid now : LogView) (at : ℕ) (group : List Record) (may : MayAppend old at group) (reads : Reads old mid) (asks : now ≡ asked mid at group) where
  records_now : now.records ≡ mid.records
  records_now = ap (λ (v : LogView). v.records) asks

  asked_now : now ≡ record { records = mid.records; writer = old.writer; at = at; loose = group ∷ loose_at at old }
  asked_now = asks ∙ ap (λ (v : LogView). asked v at group) reads.same

  free : IsOneOf reads.grows.landed old.loose → length old.records ≤ old.at → old.at ≡ at
  free one alive = by_may may.only where
    by_may : (old.at ≡ at) ⊎ (old.at < length old.records) ⊎ (old.loose ≡ []) → old.at ≡ at
    by_may (inl same) = same
    by_may (inr (inl dead)) = absurd (omega (arith, dead, alive))
    by_may (inr (inr none)) = absurd (subst (λ (l : List (List Record)). IsOneOf reads.grows.landed l) none one)

  lands_asked : Lands old reads.grows.landed mid.records → Lands (asked old at group) reads.grows.landed mid.records
  lands_asked (inl none) = inl none
  lands_asked (inr (one, alive, there)) =
      let same = free one alive in
      inr (inr (subst (λ (l : List (List Record)). IsOneOf reads.grows.landed l) (sym (loose_same old at same)) one), subst (λ (n : ℕ). length old.records ≤ n) same alive, subst (λ (n : ℕ). IsAt n reads.grows.landed mid.records) same there)

  -- it wasn't put
  pub asks_only : Asks old at group now
  asks_only = record {
    same = asked_now ∙ ap (λ (l : List Record). record { records = l; writer = old.writer; at = at; loose = group ∷ loose_at at old }) (sym records_now);
    grows = subst (λ (l : List Record). Grows (asked old at group) [] l) (sym records_now) (record {
      more = reads.grows.more;
      longer = reads.grows.longer;
      landed = reads.grows.landed;
      lands = lands_asked reads.grows.lands;
      own = reads.grows.own;
    });
  }

  -- it was put, where the log has just so many records
  module _ (records : List Record) (put : records ≡ now.records ++ group) (even : length now.records ≡ at) where
    long : length mid.records ≡ at
    long = ap length (sym records_now) ∙ even

    grown : length mid.records ≡ length old.records + length reads.grows.more
    grown = ap length reads.grows.longer ∙ length-append old.records reads.grows.more

    none_landed : (landed : List Record) → Lands old landed mid.records → (IsOneOf landed old.loose → length old.records ≤ old.at → old.at ≡ at) → landed ≡ []
    none_landed landed (inl none) place = none
    none_landed [] (inr (one, alive, there)) place = refl
    none_landed (r ∷ rest) (inr (one, alive, there)) place = absurd (let within = at_within old.at r rest mid.records there in let same = place one alive in omega (arith, within, same, long))

    stands : IsAt at group records
    stands = record { before = now.records; after = []; whole = put ∙ ap (λ (l : List Record). now.records ++ l) (sym (append-nil group)); behind = even }

    early : length old.records ≤ at
    early = omega (arith, long, grown)

    pub asks_put : Asks old at group (record { records = records; writer = now.writer; at = now.at; loose = now.loose }) × IsAt at group records × (length old.records ≤ at)
    asks_put = (
      record {
        same = ap (λ (v : LogView). record { records = records; writer = v.writer; at = v.at; loose = v.loose }) asked_now;
        grows = record {
          more = reads.grows.more ++ group;
          longer = put ∙ ap (λ (l : List Record). l ++ group) (records_now ∙ reads.grows.longer) ∙ append_assoc old.records reads.grows.more group;
          landed = group;
          lands = inr (inl refl, early, stands);
          own = ours_both old.writer reads.grows.more group ∙ ap (λ (l : List Record). l ++ ours old.writer group) (reads.grows.own ∙ append-nil reads.grows.landed ∙ none_landed reads.grows.landed reads.grows.lands free) ∙ own_all old.writer group may.own ∙ sym (append-nil group);
        };
      },
      stands,
      early,
    )

-- what comes of an append, once others' records have come, and what has landed
module _ (old mid new : LogView) (at : ℕ) (group : List Record) (may : MayAppend old at group) (reads : Reads old mid) where
  asked_for : new ≡ asked mid at group → Asks old at group new
  asked_for is = asks_only old mid new at group may reads is

  put_there : length mid.records ≡ at → new ≡ put_at mid at group → Asks old at group new × IsAt at group new.records × (length old.records ≤ at)
  put_there even is = subst (λ (v : LogView). Asks old at group v × IsAt at group v.records × (length old.records ≤ at)) (sym is) (asks_put old mid (asked mid at group) at group may reads refl (mid.records ++ group) refl even)

  -- where records stand
  pub came_found : (found : Option (Vec Record)) (page : Vec Record) → found ≡ Some page → IsFound mid at group found new → Appends old at group (Taken page) new × (page.items ≢ [])
  came_found found page some is = by_some (subst (λ (o : Option (Vec Record)). IsFound mid at group o new) some is) where
    by_some : IsFound mid at group (Some page) new → Appends old at group (Taken page) new × (page.items ≢ [])
    by_some (has, there, asks) = ((asked_for asks, subst (λ (v : LogView). IsAt at page.items v.records) (sym asks) there), has)

  -- where the place is free
  pub came_to : (fate : Fate) (end : Appended) → length mid.records ≡ at → ComesTo fate mid at group end new → Appends old at group end new
  came_to fate Put even is = put_there even is
  came_to fate (Taken page) even (is, same) = let put = put_there even is in (put.0, subst (λ (l : List Record). IsAt at l new.records) (sym same) put.1)
  came_to fate Full even is = subst (λ (v : LogView). Reads old v) (sym is) reads
  came_to fate Unknown even (silent, inl is) = (put_there even is).0
  came_to fate Unknown even (silent, inr is) = asked_for is

-- a log in which there are others' records alone
pub fresh : (w : ℕ) (records : List Record) (loose : List (List Record)) → ComeOf w [] records → loose ≡ [] → IsFresh (record { records = records; writer = w; at = 0; loose = loose })
fresh w records loose (more, whole, none) nothing = record { put = ap (ours w) whole ∙ none; asked = nothing; at = refl }
