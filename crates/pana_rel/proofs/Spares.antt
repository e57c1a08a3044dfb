-- Room for more copies, while the rows change.
use Rattle.std.proofs.Common.{◌≡◌, ℕ, ◌+◌, ◌<◌, ◌≤◌, List, [], ◌∷◌, ◌++◌, length, get_or, refl, ap, sym, subst, ◌∙◌, inl, inr, arith}
use Rattle.std.specs.Prelude.{slice_set, Option, Some}
use Rattle.std.specs.List.{insert, remove}
use Rattle.std.specs.Option.{option_to_list}
use Rattle.std.proofs.lemmas.Bool.{cases_eq}
use Rattle.std.proofs.lemmas.List.{get_or_read, get_or-set_same, get_or-set_other, length-append, get_or_append_left, get_or_push}
use Rattle.std.proofs.lemmas.List.Edits.{length-remove}
use Rattle.pana_rel.specs.inner.Square.{Relations, row_in, up, AreEmpty, AreSpare, HaveRoom}
use Rattle.pana_rel.proofs.Insertions.{all_insert}
use Rattle.pana_rel.proofs.Places.{up_remove, up_within}

abbrev none : Relations
none = record { items = []; room = 0 }

-- a row was written
pub written_room : (n : ℕ) (rows slice new final : List Relations) (at : ℕ) (old row : Relations) → at < length rows → old ≡ get_or rows at old → row.room ≡ old.room → slice ≡ slice_set rows at row
    → ((i : ℕ) → (row_in new i).room ≡ (row_in slice i).room) → final ≡ new → length final ≡ length rows → HaveRoom n rows → HaveRoom n final
written_room n rows slice new final at old row within read room same rooms end long all i h =
    let inside : i < length rows = omega (arith, h, long) in
    let is : (row_in final i).room ≡ (row_in slice i).room = ap (λ r. (row_in r i).room) end ∙ rooms i in
    let was : (row_in slice i).room ≡ (row_in rows i).room = ap (λ r. (row_in r i).room) same ∙ elim (cases_eq i at) [
      | inl here ↦
          ap (λ k. (row_in (slice_set rows at row) k).room) here ∙ ap (λ r. r.room) (get_or-set_same rows at row none within) ∙ room
          ∙ ap (λ r. r.room) (get_or_read rows at old within read none) ∙ ap (λ k. (row_in rows k).room) (sym here)
      | inr apart ↦ ap (λ r. r.room) (get_or-set_other rows at i row none apart)
    ] in
    omega (arith, all i inside, is, was)

pub still_spare : (rows spare final : List Relations) → length final ≡ length rows → ((n : ℕ) → HaveRoom n rows → HaveRoom n final) → AreSpare rows spare → AreSpare final spare
still_spare rows spare final long rooms s =
    let same : length rows + length spare ≡ length final + length spare = omega (arith, long) in
    record {
      empty = s.empty;
      rooms = subst (λ n. HaveRoom n final) same (rooms (length rows + length spare) s.rooms);
      own = subst (λ n. HaveRoom n spare) same s.own;
    }

-- a row was taken out, and a column
pub dropped_room : (n : ℕ) (rows slice new final : List Relations) (at : ℕ) → at < length rows → slice ≡ remove rows at → length new ≡ length slice
    → ((i : ℕ) → i < length slice → (row_in slice i).room ≤ (row_in new i).room) → final ≡ new → HaveRoom n rows → HaveRoom n final
dropped_room n rows slice new final at within same tall rooms end all i h =
    let long : length final + 1 ≡ length rows = omega (arith, ap length end, tall, ap length same, length-remove rows at within) in
    let bound = up_within at i (length final) h in
    let was : n ≤ (row_in rows (up at i)).room = all (up at i) (omega (arith, bound, long)) in
    let moved : (row_in slice i).room ≡ (row_in rows (up at i)).room = ap (λ r. (row_in r i).room) same ∙ ap (λ r. r.room) (up_remove rows at i none) in
    let is : (row_in final i).room ≡ (row_in new i).room = ap (λ r. (row_in r i).room) end in
    omega (arith, was, moved, rooms i (omega (arith, h, ap length end, tall)), is)

-- what holds of each place and of what is put behind them
all_push : {X : Type 0} (P : X → Type 0) (xs : List X) (y d : X) → ((i : ℕ) → i < length xs → P (get_or xs i d)) → P y → (i : ℕ) → i < length (xs ++ y ∷ []) → P (get_or (xs ++ y ∷ []) i d)
all_push P xs y d all last i h = elim (cases_eq (length xs) i) [
  | inl end ↦ subst P (sym (get_or_push xs y d i end)) last
  | inr before ↦
      let inside : i < length xs = omega (arith, h, length-append xs (y ∷ []), before) in
      subst P (sym (get_or_append_left xs (y ∷ []) d i inside)) (all i inside)
]

all_front : {X : Type 0} (P : X → Type 0) (xs : List X) (y d : X) → ((i : ℕ) → i < length (xs ++ y ∷ []) → P (get_or (xs ++ y ∷ []) i d)) → (i : ℕ) → i < length xs → P (get_or xs i d)
all_front P xs y d all i h = subst P (get_or_append_left xs (y ∷ []) d i h) (all i (omega (arith, h, length-append xs (y ∷ []))))

all_last : {X : Type 0} (P : X → Type 0) (xs : List X) (y d : X) → ((i : ℕ) → i < length (xs ++ y ∷ []) → P (get_or (xs ++ y ∷ []) i d)) → P y
all_last P xs y d all = subst P (get_or_push xs y d (length xs) refl) (all (length xs) (omega (arith, length-append xs (y ∷ []))))

-- a row that was taken out is spare
pub one_more_spare : (rows spare final spare' : List Relations) (row : Relations) → length final + 1 ≡ length rows → spare' ≡ spare ++ row ∷ [] → row.items ≡ [] → length rows + length spare ≤ row.room
    → ((n : ℕ) → HaveRoom n rows → HaveRoom n final) → AreSpare rows spare → AreSpare final spare'
one_more_spare rows spare final spare' row less same empty room rooms s =
    let m : ℕ = length rows + length spare in
    let as_many : m ≡ length final + length spare' = omega (arith, less, ap length same, length-append spare (row ∷ [])) in
    record {
      empty = subst AreEmpty (sym same) (all_push (λ r. r.items ≡ []) spare row none s.empty empty);
      rooms = subst (λ n. HaveRoom n final) as_many (rooms m s.rooms);
      own = subst (λ n. HaveRoom n spare') as_many (subst (HaveRoom m) (sym same) (all_push (λ r. m ≤ r.room) spare row none s.own room));
    }

-- the last spare row, and those before it
pub record IsTaken (rows spare left : List Relations) (row : Relations) : Type 0 where
  pub less : length left + 1 ≡ length spare
  pub bare : row.items ≡ []
  pub wide : length rows + length spare ≤ row.room
  pub room : HaveRoom (length rows + 1) rows
  pub rest : AreEmpty left
  pub own : HaveRoom (length rows + length spare) left

pub taken_spare : (rows spare left : List Relations) (o : Option Relations) (row : Relations) → AreSpare rows spare → spare ≡ left ++ option_to_list o → o ≡ Some row → IsTaken rows spare left row
taken_spare rows spare left o row s same is =
    let m : ℕ = length rows + length spare in
    let whole : spare ≡ left ++ row ∷ [] = same ∙ ap (λ p. left ++ option_to_list p) is in
    let less : length left + 1 ≡ length spare = omega (arith, ap length whole, length-append left (row ∷ [])) in
    record {
      less = less;
      bare = all_last (λ r. r.items ≡ []) left row none (subst AreEmpty whole s.empty);
      wide = all_last (λ r. m ≤ r.room) left row none (subst (HaveRoom m) whole s.own);
      room = λ i h. omega (arith, s.rooms i h, less);
      rest = all_front (λ r. r.items ≡ []) left row none (subst AreEmpty whole s.empty);
      own = all_front (λ r. m ≤ r.room) left row none (subst (HaveRoom m) whole s.own);
    }

-- it was put in
pub put_spare : (rows spare left final : List Relations) (row given : Relations) → IsTaken rows spare left row → row.room ≤ given.room → length final ≡ length rows + 1
    → ((n : ℕ) → HaveRoom n rows → n ≤ given.room → HaveRoom n final) → AreSpare rows spare → AreSpare final left
put_spare rows spare left final row given t room long rooms s =
    let as_many : length rows + length spare ≡ length final + length left = omega (arith, t.less, long) in
    record {
      empty = t.rest;
      rooms = subst (λ n. HaveRoom n final) as_many (rooms (length rows + length spare) s.rooms (omega (arith, t.wide, room)));
      own = subst (λ n. HaveRoom n left) as_many t.own;
    }

-- the columns were opened, and then the row was put in
pub inserted_room : (n : ℕ) (rows slice new : List Relations) (at : ℕ) (row : Relations) → length slice ≡ length rows → at ≤ length rows → ((i : ℕ) → (row_in rows i).room ≤ (row_in slice i).room)
    → new ≡ insert slice at row → n ≤ row.room → HaveRoom n rows → HaveRoom n new
inserted_room n rows slice new at row tall within rooms same room all =
    subst (HaveRoom n) (sym same) (all_insert (λ r. n ≤ r.room) slice at row none (omega (arith, tall, within)) (λ i h. omega (arith, all i (omega (arith, h, tall)), rooms i)) room)

-- the first spare row
pub first_spare : (rows final spare spare' : List Relations) (row : Relations) → length final ≡ length rows → length spare ≡ 0 → spare' ≡ spare ++ row ∷ [] → row.items ≡ [] → length rows + 1 ≤ row.room
    → HaveRoom (length final + 1) final → AreSpare final spare'
first_spare rows final spare spare' row long nothing same empty room rooms =
    let as_many : length final + 1 ≡ length final + length spare' = omega (arith, ap length same, nothing, length-append spare (row ∷ [])) in
    record {
      empty = subst AreEmpty (sym same) (all_push (λ r. r.items ≡ []) spare row none (λ i h. absurd (omega (arith, h, nothing))) empty);
      rooms = subst (λ n. HaveRoom n final) as_many rooms;
      own = subst (λ n. HaveRoom n spare') as_many (subst (HaveRoom (length final + 1)) (sym same) (all_push (λ r. length final + 1 ≤ r.room) spare row none (λ i h. absurd (omega (arith, h, nothing))) (omega (arith, room, long))));
    }

-- rows whose room grew
pub grown_spare : (rows spare final : List Relations) → length final ≡ length rows → ((i : ℕ) → (row_in rows i).room ≤ (row_in final i).room) → AreSpare rows spare → AreSpare final spare
grown_spare rows spare final long more s = still_spare rows spare final long (λ n all i h. omega (arith, all i (omega (arith, h, long)), more i)) s

-- one row, which has room for itself
pub single_spare : (rows spare : List Relations) (row : Relations) → rows ≡ row ∷ [] → spare ≡ [] → 1 ≤ row.room → AreSpare rows spare
single_spare rows spare row one nothing room = subst (λ l. AreSpare l spare) (sym one) (subst (AreSpare (row ∷ [])) (sym nothing) (record {
  empty = λ i h. absurd (omega (arith, h));
  rooms = λ i h. (let first : 0 ≡ i = omega (arith, h) in subst (λ k. 1 ≤ (row_in (row ∷ []) k).room) first room);
  own = λ i h. absurd (omega (arith, h));
}))
