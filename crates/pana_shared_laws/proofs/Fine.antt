-- What is known of a store between its calls.
use Rattle.std.proofs.Common.{◌≡◌, ◌≢◌, ◌⊎◌, inl, inr, ◌<◌, ◌≤◌, ℕ, ◌+◌, true, false, List, [], ◌∷◌, ◌++◌, length, refl, sym, ap, subst, ◌∙◌, append_assoc, length-append}
use native.Mathlib.Omega.{arith}
use Rattle.std.proofs.Math.Dec.{leb}
use Rattle.std.proofs.lemmas.Bool.Decides.{leb_tells}
use Rattle.std.specs.List.{AllByRecursion}
use Rattle.pana_journal.specs.declared.entry.Entry.{Entry}
use Rattle.pana_shared.specs.declared.record.Record.{Record}
use Rattle.pana_shared.specs.Log.{Follows, Grows, IsAt, IsOneOf, Lands, LogView, ours}
use Rattle.pana_shared.proofs.Grown.{at_within, ours_both}
use Rattle.pana_shared.proofs.Splits.{splits}
use Rattle.pana_shared_store.specs.Store.{AreFirst, GoesOn, entries_in, recorded}
use Rattle.pana_shared_store.specs.inner.{AreBefore}
use Rattle.pana_shared_store.proofs.Followed.{entries_both}
use Rattle.pana_shared_store.proofs.Readied.{before_both}
use Rattle.pana_shared_laws.specs.Groups.{AreGroups}
use Rattle.pana_shared_laws.proofs.Grouped.{apart, no_turn, ours_own, two_groups}

-- a group that is loose, and may still land, is of the writer, and of earlier turns, and was asked for behind no more than the store
-- follows
pub record IsAsked (w : ℕ) (entries : List Entry) (turn : ℕ) (view : LogView) (group : List Record) : Type 0 where
  pub own : AllByRecursion (λ r. r.writer ≡ w) group
  pub early : AreBefore (turn + 1) group
  pub at : view.at ≤ length entries

pub record IsFine (w : ℕ) (entries : List Entry) (turn : ℕ) (view : LogView) : Type 0 where
  pub first : AreFirst entries view.records
  pub writer : view.writer ≡ w
  pub turns : AreBefore (turn + 1) (ours w view.records)
  pub loose : length view.records ≤ view.at → (group : List Record) → IsOneOf group view.loose → IsAsked w entries turn view group

-- ---- records

pub recorded_own : (w turn : ℕ) (entries : List Entry) → AllByRecursion (λ r. r.writer ≡ w) (recorded w turn entries)
recorded_own w turn [] = tt
recorded_own w turn (e ∷ entries) = (refl, recorded_own w turn entries)

-- records of a turn are behind an earlier one, if there are any
pub recorded_late : (w turn before : ℕ) (entries : List Entry) → (entries ≢ [] → before < turn) → AllByRecursion (λ r. before < r.turn) (recorded w turn entries)
recorded_late w turn before [] later = tt
recorded_late w turn before (e ∷ entries) later = let is = later (λ none. (let f : e ∷ entries ≡ [] = none in cc)) in (is, recorded_late w turn before entries (λ some. is))

pub before_later : (turn later : ℕ) (xs : List Record) → turn ≤ later → AreBefore turn xs → AreBefore later xs
before_later turn later [] le all = tt
before_later turn later (x ∷ xs) le (is, all) = (omega (arith, is, le), before_later turn later xs le all)

pub length_recorded : (w turn : ℕ) (entries : List Entry) → length (recorded w turn entries) ≡ length entries
length_recorded w turn [] = refl
length_recorded w turn (e ∷ entries) = let l = length_recorded w turn entries in grind (arith, l)

-- those that have some are of entries that are some
pub some_recorded : (w turn : ℕ) (entries : List Entry) → recorded w turn entries ≢ [] → entries ≢ []
some_recorded w turn entries some none = some (ap (recorded w turn) none)

pub some_entries : (w turn : ℕ) (entries : List Entry) → entries ≢ [] → recorded w turn entries ≢ []
some_entries w turn [] some = absurd (some refl)
some_entries w turn (e ∷ entries) some = λ none. (let c : recorded w turn (e ∷ entries) ≡ [] = none in cc)

pub at_within_some : (at : ℕ) (group records : List Record) → group ≢ [] → IsAt at group records → at < length records
at_within_some at [] records some is = absurd (some refl)
at_within_some at (r ∷ rest) records some is = at_within at r rest records is

pub first_more : (entries : List Entry) (old more records : List Record) → AreFirst entries old → records ≡ old ++ more → AreFirst entries records
first_more entries old more records (rest, is) whole = (rest ++ entries_in more, ap entries_in whole ∙ entries_both old more ∙ ap (λ (l : List Entry). l ++ entries_in more) is ∙ append_assoc entries rest (entries_in more))

pub goes_within : (old new : List Entry) → GoesOn old new → length old ≤ length new
goes_within old new (others, is) = let l : length new ≡ length (old ++ others) = ap length is in let p = length-append old others in omega (arith, l, p)

pub grown_length : (old : LogView) (made records : List Record) (grows : Grows old made records) → length records ≡ length old.records + length grows.more
grown_length old made records grows = ap length grows.longer ∙ length-append old.records grows.more

-- ---- what has landed

landed_some : (old : LogView) (landed records : List Record) → Lands old landed records → landed ≢ [] → IsOneOf landed old.loose × (length old.records ≤ old.at) × IsAt old.at landed records
landed_some old landed records (inl none) some = absurd (some none)
landed_some old landed records (inr is) some = is

-- a record of a turn that no record had stands behind those that there were
pub is_behind : (w turn : ℕ) (old more records rest : List Record) (r : Record) (at : ℕ) → records ≡ old ++ more → AreBefore turn (ours w old) → r.writer ≡ w → r.turn ≡ turn → IsAt at (r ∷ rest) records → length old ≤ at
is_behind w turn old more records rest r at whole early own is there = by_order (leb_tells (length old) at) where
  turn_in : (front m : List Record) (x : Record) → AreBefore turn (ours w (front ++ (x ∷ m))) → x.writer ≡ w → x.turn < turn
  turn_in front m x all mine =
      let e : ours w (x ∷ m) ≡ x ∷ ours w m = grind (arith, mine) in
      no_turn turn (ours w front) x (ours w m) (subst (λ (l : List Record). AreBefore turn l) (ours_both w front (x ∷ m) ∙ ap (λ (l : List Record). ours w front ++ l) e) all)

  by_rest : (front m : List Record) → old ≡ front ++ m → (r ∷ rest) ++ there.after ≡ m ++ more → 0 < length m → ⊥
  by_rest front [] is_old goes_on some = omega (arith, some)
  by_rest front (x ∷ m) is_old goes_on some =
      let same : r ≡ x = cc in
      let less = turn_in front m x (subst (λ (l : List Record). AreBefore turn (ours w l)) is_old early) (ap (λ (y : Record). y.writer) (sym same) ∙ own) in
      let t : x.turn ≡ turn = ap (λ (y : Record). y.turn) (sym same) ∙ is in
      omega (arith, less, t)

  by_order : ((leb (length old) at ≡ true) × (length old ≤ at)) ⊎ ((leb (length old) at ≡ false) × (at < length old)) → length old ≤ at
  by_order (inl (_, fine)) = fine
  by_order (inr (_, over)) =
      let b = there.behind in
      let parts = splits there.before old ((r ∷ rest) ++ there.after) more (sym there.whole ∙ whole) (omega (arith, b, over)) in
      let l : length old ≡ length (there.before ++ parts.0) = ap length parts.1 in
      let s = length-append there.before parts.0 in
      absurd (by_rest there.before parts.0 parts.1 parts.2 (omega (arith, l, s, b, over)))

-- ---- one call

module _ (w : ℕ) (entries : List Entry) (turn : ℕ) (old : LogView) (fine : IsFine w entries turn old) where
  landed_own : (landed records : List Record) → Lands old landed records → ours w landed ≡ landed
  landed_own landed records (inl none) = ap (ours w) none ∙ sym none
  landed_own landed records (inr (one, alive, there)) = ours_own w landed (fine.loose alive landed one).own

  pub landed_before : (landed records : List Record) → Lands old landed records → AreBefore (turn + 1) landed
  landed_before landed records (inl none) = subst (λ (l : List Record). AreBefore (turn + 1) l) (sym none) tt
  landed_before landed records (inr (one, alive, there)) = (fine.loose alive landed one).early

  -- what has come meanwhile of the writer is what has landed, and what was made, of later turns
  pub came : (before : List Entry) (made records : List Record) (grows : Grows old made records) → GoesOn entries before → AllByRecursion (λ r. r.writer ≡ w) made → AllByRecursion (λ r. turn < r.turn) made
      → (made ≢ [] → IsAt (length before) made records × (length old.records ≤ length before))
      → AreGroups (length old.records) w grows.more ((old.at, grows.landed) ∷ (length before, made) ∷ [])
  came before made records grows goes own later stands =
      two_groups w old.records grows.more records grows.landed made old.at (length before) grows.longer
      (λ some. (let l = landed_some old grows.landed records grows.lands some in (l.2, l.1)))
      stands
      (λ some more. order made refl more some)
      (subst (λ (n : ℕ). ours n grows.more ≡ grows.landed ++ made) fine.writer grows.own)
      (landed_own grows.landed records grows.lands)
      (ours_own w made own)
    where
      order : (m : List Record) → m ≡ made → made ≢ [] → grows.landed ≢ [] → old.at + length grows.landed ≤ length before
      order [] is more some = absurd (more (sym is))
      order (r ∷ rest) is more some =
          let l = landed_some old grows.landed records grows.lands some in
          let asked = fine.loose l.1 grows.landed l.0 in
          let t = (subst (λ (x : List Record). AllByRecursion (λ y. turn < y.turn) x) (sym is) later).0 in
          let place : old.at ≤ length before = (let a = asked.at in let g = goes_within entries before goes in omega (arith, a, g)) in
          apart r.turn grows.landed r rest records old.at (length before) (before_later (turn + 1) r.turn grows.landed (omega (arith, t)) (landed_before grows.landed records grows.lands)) refl l.2
          (subst (λ (x : List Record). IsAt (length before) x records) (sym is) (stands more).0) place

  -- and so it is known of the store then
  pub still_turns : (next : ℕ) (made : List Record) (records : List Record) (grows : Grows old made records) → turn ≤ next → AreBefore (next + 1) made → AreBefore (next + 1) (ours w records)
  still_turns next made records grows later of_made =
      let own : ours w grows.more ≡ grows.landed ++ made = subst (λ (n : ℕ). ours n grows.more ≡ grows.landed ++ made) fine.writer grows.own in
      subst (λ (l : List Record). AreBefore (next + 1) l) (sym (ap (ours w) grows.longer ∙ ours_both w old.records grows.more ∙ ap (λ (l : List Record). ours w old.records ++ l) own))
      (before_both (next + 1) (ours w old.records) (grows.landed ++ made) (before_later (turn + 1) (next + 1) (ours w old.records) (omega (arith, later)) fine.turns)
      (before_both (next + 1) grows.landed made (before_later (turn + 1) (next + 1) grows.landed (omega (arith, later)) (landed_before grows.landed records grows.lands)) of_made))

  -- also of what is loose, where nothing is that wasn't
  pub still_loose : (goes_on : List Entry) (next : ℕ) (new : LogView) → GoesOn entries goes_on → turn ≤ next → length old.records ≤ length new.records → Follows old new
      → length new.records ≤ new.at → (group : List Record) → IsOneOf group new.loose → (new.at ≡ old.at) × IsOneOf group old.loose × IsAsked w goes_on next new group
  still_loose goes_on next new goes later grown (same, inl dead) alive group one = absurd (omega (arith, dead, alive))
  still_loose goes_on next new goes later grown (same, inr (place, fewer)) alive group one =
      let member = fewer group one in
      let asked = fine.loose (omega (arith, place, alive, grown)) group member in
      (place, member, record { own = asked.own; early = before_later (turn + 1) (next + 1) group (omega (arith, later)) asked.early; at = (let a = asked.at in let g = goes_within entries goes_on goes in omega (arith, a, g, place)) })
