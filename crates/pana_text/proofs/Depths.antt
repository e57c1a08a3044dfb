-- A tree in a text that is within the depth is so too.
use Rattle.std.proofs.Common.{◌≡◌, ◌≢◌, ℕ, zero, suc, ◌≤◌, List, [], ◌∷◌, ◌++◌, Option, Some, refl, sym, ap, ◌∙◌, subst, arith}
use Rattle.std.proofs.lemmas.Bool.{ne_eqb}
use Rattle.pana_id.specs.Id.{Id, zero_id, one_id, pair, depth as depth_of_id}
use Rattle.pana_event.specs.Event.{depth}
use Rattle.pana_text.specs.Text.{id_text}
use Rattle.pana_text.specs.Grammar.{Spelled, leaf, fork, HasNumbers, spelling, event_of, room_after, room}
use Rattle.pana_text.proofs.Appends.{two_parts, three_parts}
use Rattle.pana_text.proofs.Numbers.{AreDigits, digits-parts, number-digits}

pub room-kept : (n b : ℕ) → b ≢ 40 → b ≢ 41 → room_after n b ≡ Some n
room-kept zero b h g = rw (ne_eqb b 40 h, ne_eqb b 41 g) refl
room-kept (suc n) b h g = rw (ne_eqb b 40 h, ne_eqb b 41 g) refl

pub room-comma : (n : ℕ) → room_after n 44 ≡ Some n
room-comma n = room-kept n 44 (λ e. omega arith) (λ e. omega arith)

pub room-closed : (n : ℕ) → room_after n 41 ≡ Some (suc n)
room-closed zero = refl
room-closed (suc n) = refl

-- a byte before the rest
passed : (n m b k : ℕ) (rest : List ℕ) → room_after n b ≡ Some m → room (Some n) (b ∷ rest) ≡ Some k → room (Some m) rest ≡ Some k
passed n m b k rest e h = sym (ap (λ (o : Option ℕ). room o rest) e) ∙ h

id-room : (i : Id) (n k : ℕ) (rest : List ℕ) → room (Some n) (id_text i ++ rest) ≡ Some k → (depth_of_id i ≤ n) × (room (Some n) rest ≡ Some k)
id-room zero_id n k rest h = (omega arith, passed n n 48 k rest (room-kept n 48 (λ e. omega arith) (λ e. omega arith)) h)
id-room one_id n k rest h = (omega arith, passed n n 49 k rest (room-kept n 49 (λ e. omega arith) (λ e. omega arith)) h)
id-room (pair l r) zero k rest h = absurd cc
id-room (pair l r) (suc n) k rest h =
    let parts = subst (λ (t : List ℕ). room (Some (suc n)) t ≡ Some k) (two_parts (id_text l) (id_text r) rest) h in
    let (dl, hl) = id-room l n k (44 ∷ (id_text r ++ (41 ∷ rest))) parts in
    let (dr, hr) = id-room r n k (41 ∷ rest) (passed n n 44 k (id_text r ++ (41 ∷ rest)) (room-comma n) hl) in
    (omega arith, passed n (suc n) 41 k rest (room-closed n) hr)

digits-room : (ds : List ℕ) (n k : ℕ) (rest : List ℕ) → AreDigits ds → room (Some n) (ds ++ rest) ≡ Some k → room (Some n) rest ≡ Some k
digits-room [] n k rest is h = h
digits-room (d ∷ ds) n k rest is h =
    let p = digits-parts d ds is in
    digits-room ds n k rest p.2 (passed n n d k (ds ++ rest) (room-kept n d (λ e. omega (arith, p.0)) (λ e. omega (arith, p.0))) h)

event-room : (s : Spelled) (n k : ℕ) (rest : List ℕ) → HasNumbers s → room (Some n) (spelling s ++ rest) ≡ Some k → (depth (event_of s) ≤ n) × (room (Some n) rest ≡ Some k)
event-room (leaf ds) n k rest is h = (omega arith, digits-room ds n k rest (number-digits ds is) h)
event-room (fork ds l r) zero k rest is h = absurd cc
event-room (fork ds l r) (suc n) k rest is h =
    let parts = subst (λ (t : List ℕ). room (Some (suc n)) t ≡ Some k) (three_parts ds (spelling l) (spelling r) rest) h in
    let first = spelling l ++ (44 ∷ (spelling r ++ (41 ∷ rest))) in
    let halves = passed n n 44 k first (room-comma n) (digits-room ds n k (44 ∷ first) (number-digits ds is.0) parts) in
    let (dl, hl) = event-room l n k (44 ∷ (spelling r ++ (41 ∷ rest))) is.1 halves in
    let (dr, hr) = event-room r n k (41 ∷ rest) is.2 (passed n n 44 k (spelling r ++ (41 ∷ rest)) (room-comma n) hl) in
    (omega arith, passed n (suc n) 41 k rest (room-closed n) hr)

pub stamp-room : (i : Id) (s : Spelled) (k : ℕ) → HasNumbers s → room (Some 257) (40 ∷ (id_text i ++ (44 ∷ (spelling s ++ (41 ∷ []))))) ≡ Some k → (depth_of_id i ≤ 256) × (depth (event_of s) ≤ 256)
stamp-room i s k is h =
    let (di, hi) = id-room i 256 k (44 ∷ (spelling s ++ (41 ∷ []))) h in
    let (ds, hs) = event-room s 256 k (41 ∷ []) is (passed 256 256 44 k (spelling s ++ (41 ∷ [])) (room-comma 256) hi) in
    (di, ds)
