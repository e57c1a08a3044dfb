-- Two copies share a stamp, and are settled.
use Rattle.pana_family.proofs.Words.{◌≡◌, ◌≢◌, ℕ, ◌≤◌, max, Bool, true, false, cond, ◌&&◌, ◌||◌, ◌==◌, List, ◌∷◌, Option, Some, None, refl, sym, ap, subst, ◌∙◌, inl, inr, cases_Bool, and_parts}
use Rattle.pana_family.proofs.Words.{or_parts, eqb-true, eqb-false, arith, nat_tests, Id, depth, is_single, parts, sum_of, IsParted, IsSum, IsValid, SharesNoPoint, parted-parts, valid-parts}
use Rattle.pana_family.proofs.Words.{summed-sum, valid-sum, Event, IsSound, joined, is_leq, leq-is-below, IsSound-joined, Stamp, IsRaised, StampRow, has, is_within, union, is_held, Known, In}
use Rattle.pana_family.proofs.Words.{AreBelow, knowing, set_in, StandsFor, IsRising, stamp, AreSound, IsKept, ends, first_part, joined_stamp, second_part, settled, shared, CanGather, IsRowOf}
use Rattle.pana_id.proofs.Divides.{sum_of_divides, parts_of_sum}
use Rattle.pana_event.proofs.Sound.{IsJoin-joined}
use Rattle.pana_family.specs.Table.{ends as over}
use Rattle.pana_family.proofs.Sound.{Sound, Others, Put, United, Updated, all_put, edit_keeps, fewer, join_keeps, share_keeps}
use Rattle.pana_family.proofs.Sums.{Ending, Gathered, gathers, within_is}
use Rattle.pana_family.proofs.{Unions.union_members, Tables.know_two, Tables.united_known, Tables.unless}
use Rattle.pana_family.proofs.Members.{holds_at, Holds, held, not_held, one_row, to_sound, union_fresh, unknown_yet}
use Rattle.pana_family.proofs.Images.{Alike, Outcome, some, alike_row, stay_outcome}

-- Two copies and their stamp.

-- the rows of two living copies
pub record AreTwo (rows : List StampRow) (a b : ℕ) (r q : StampRow) : Type 0 where
  pub first : IsRowOf rows a r
  pub second : IsRowOf rows b q
  pub differ : a ≢ b

pub record IsWhole (r q : StampRow) (i : Id) : Type 0 where
  pub valid : IsValid i
  pub summed : IsSum i r.stamp.id q.stamp.id
  pub divides : is_single i 256 ≡ false
  pub parted : IsParted i (parts i).0 (parts i).1
  pub first : IsValid (parts i).0
  pub second : IsValid (parts i).1
  pub shallow : depth (parts i).0 ≤ max (depth r.stamp.id) (depth q.stamp.id)
  pub other_shallow : depth (parts i).1 ≤ max (depth r.stamp.id) (depth q.stamp.id)

pub whole_is : (rows : List StampRow) (a b : ℕ) (r q : StampRow) → IsKept rows → AreSound rows → AreTwo rows a b r q → IsWhole r q (sum_of r.stamp.id q.stamp.id)
whole_is rows a b r q k fine two =
    let i : Id = r.stamp.id in
    let j : Id = q.stamp.id in
    let v : IsValid i = (fine r two.first.there).0 in
    let w : IsValid j = (fine q two.second.there).0 in
    let apart : SharesNoPoint i j = grind (arith, nat_tests) in
    let valid : IsValid (sum_of i j) = valid-sum i j v w in
    let divides : is_single (sum_of i j) 256 ≡ false = grind (arith, nat_tests, sum_of_divides) in
    let both = valid-parts (sum_of i j) divides valid in
    let low = parts_of_sum i j apart v w (k.stands.owning r two.first.there) (k.stands.owning q two.second.there) in
    record { valid = valid; summed = summed-sum i j v w; divides = divides; parted = parted-parts (sum_of i j) divides valid; first = both.0; second = both.1; shallow = low.0; other_shallow = low.1 }

-- a parcel isn't a copy
pub parcel_other : (rows : List StampRow) (a : ℕ) (r z : StampRow) (c : ℕ) → IsRising 0 rows → IsRowOf rows a r → In z rows → is_held c z.holder ≡ true → z.copy ≢ a
parcel_other rows a r z c up at j held e = grind (arith, nat_tests, not_held, one_row, held)

-- what ends is held, and known
ends_held : (c : ℕ) (e : Event) (z : StampRow) → ends None c e z ≡ true → is_held c z.holder ≡ true
ends_held c e z t = (and_parts (is_held c z.holder) (is_leq z.stamp.event e) t).0

-- the parts share no point with what ends
pub parts_gather : (rows : List StampRow) (a b : ℕ) (r q : StampRow) (whole : Stamp) → IsKept rows → AreSound rows → AreTwo rows a b r q → whole.id ≡ sum_of r.stamp.id q.stamp.id
    → CanGather None rows a (first_part whole) × CanGather None rows b (second_part whole)
parts_gather rows a b r q whole k fine two is =
    let w : IsWhole r q whole.id = subst (IsWhole r q) (sym is) (whole_is rows a b r q k fine two) in
    let i : Id = whole.id in
    let both : (z : StampRow) (c : ℕ) → In z rows → is_held c z.holder ≡ true → SharesNoPoint i z.stamp.id = λ z c j held p long.
    grind (arith, nat_tests, parcel_other, held) in
    grind (arith, nat_tests)

-- What copies hold.

-- a and b have the parts of a stamp, and know the same
abbrev pub Shared : (ℕ → Stamp → List ℕ → Type 0) → ℕ → ℕ → Stamp → List ℕ → ℕ → Stamp → List ℕ → Type 0
Shared P a b whole both = Put (Put P a (first_part whole) (λ zs. zs ≡ both)) b (second_part whole) (λ zs. zs ≡ both)

-- E is P with the whole stamp for a
shares : (P E : ℕ → Stamp → List ℕ → Type 0) (a b : ℕ) (whole : Stamp) (both : List ℕ) → Sound E → E a whole both → IsParted whole.id (parts whole.id).0 (parts whole.id).1
    → ((d : ℕ) (s : Stamp) (zs : List ℕ) → P d s zs → d ≢ a → d ≢ b → E d s zs) → Sound (Shared P a b whole both)
shares P E a b whole both sound there parted others =
    let of : (zs : List ℕ) → zs ≡ both → E a whole zs = λ zs g. subst (E a whole) (sym g) there in
    fewer (Put (Put E a (first_part whole) (E a whole)) b (second_part whole) (E a whole)) (Shared P a b whole both)
    (grind (arith, nat_tests))
    (share_keeps E a b whole (first_part whole) (second_part whole) both sound there parted refl refl)

-- and then both are settled
abbrev pub Once : List StampRow → List Known → ℕ → ℕ → Stamp → List ℕ → ℕ → Stamp → List ℕ → Type 0
Once rows table a b whole both = Gathered (Shared (Holds rows table) a b whole both) a (first_part whole) rows (λ z. z.copy) (ends None a whole.event)

abbrev pub Twice : List StampRow → List Known → ℕ → ℕ → Stamp → List ℕ → ℕ → Stamp → List ℕ → Type 0
Twice rows table a b whole both = Gathered (Once rows table a b whole both) b (second_part whole) rows (λ z. z.copy) (ends None b whole.event)

-- rows that stand for a table, and a stamp that two of them share, which is known with a set
pub record IsShared (rows : List StampRow) (table : List Known) (a b : ℕ) (r q : StampRow) (whole : Stamp) (both : List ℕ) : Type 0 where
  pub kept : IsKept rows
  pub fine : AreSound rows
  pub two : AreTwo rows a b r q
  pub is : whole.id ≡ sum_of r.stamp.id q.stamp.id
  pub event : IsSound whole.event
  pub stands : StandsFor rows table
  pub sound : Sound (Shared (Holds rows table) a b whole both)

shared_old : (rows : List StampRow) (table : List Known) (a b : ℕ) (whole : Stamp) (both : List ℕ) (z : StampRow) (t : Known) → In z rows → In t table → z.copy ≡ t.copy → z.copy ≢ a → z.copy ≢ b
    → Shared (Holds rows table) a b whole both z.copy z.stamp t.set
shared_old rows table a b whole both z t i j same na nb = inr (inr (held rows table z t i j same, na), nb)

pub twice_sound : (rows : List StampRow) (table : List Known) (a b : ℕ) (r q : StampRow) (whole : Stamp) (both : List ℕ) → IsShared rows table a b r q whole both → Sound (Twice rows table a b whole both)
twice_sound rows table a b r q whole both m =
    let S : ℕ → Stamp → List ℕ → Type 0 = Shared (Holds rows table) a b whole both in
    let e : Event = whole.event in
    let w : IsWhole r q whole.id = subst (IsWhole r q) (sym m.is) (whole_is rows a b r q m.kept m.fine m.two) in
    let na : (z : StampRow) (c : ℕ) → In z rows → is_held c z.holder ≡ true → z.copy ≢ a = λ z c. parcel_other rows a r z c m.kept.rising m.two.first in
    let nb : (z : StampRow) (c : ℕ) → In z rows → is_held c z.holder ≡ true → z.copy ≢ b = λ z c. parcel_other rows b q z c m.kept.rising m.two.second in
    let once : Sound (Once rows table a b whole both) =
    gathers S a (first_part whole) both rows (λ z. z.copy) (ends None a e) m.fine w.first m.sound (inr (inl (refl, refl, refl), m.two.differ))
    (λ z i t. let held = ends_held a e z t in
    let k = alike_row rows table m.stands.same z i in
    record {
      other = na z a i held;
      set = k.0.set;
      there = shared_old rows table a b whole both z k.0 i k.1 k.2.copy (na z a i held) (nb z a i held);
      below = leq-is-below z.stamp.event e (m.fine z i).1.shallow m.event.shallow (and_parts (is_held a z.holder) (is_leq z.stamp.event e) t).1;
    }) in
    gathers (Once rows table a b whole both) b (second_part whole) both rows (λ z. z.copy) (ends None b e) m.fine w.second once
    (grind (arith, nat_tests))
    (λ z i t. let held = ends_held b e z t in
    let k = alike_row rows table m.stands.same z i in
    record {
      other = nb z b i held;
      set = k.0.set;
      there = inr (
        (
          shared_old rows table a b whole both z k.0 i k.1 k.2.copy (na z b i held) (nb z b i held),
          λ s end. m.two.differ (grind (arith, nat_tests, one_row, ends_held, held)),
        ),
        na z b i held,
      );
      below = leq-is-below z.stamp.event e (m.fine z i).1.shallow m.event.shallow (and_parts (is_held b z.holder) (is_leq z.stamp.event e) t).1;
    })

-- what ends is out of the table
ends_agree : (rows : List StampRow) (table : List Known) (a b : ℕ) (r q : StampRow) (whole : Stamp) (both : List ℕ) (c : ℕ) (s : Stamp) (z : StampRow) (t : Known) → IsShared rows table a b r q whole both
    → Shared (Holds rows table) a b whole both c s both → s.event ≡ whole.event → In z rows → In t table → Alike z t → ends None c whole.event z ≡ over c both t
ends_agree rows table a b r q whole both c s z t m there is i j like = elim (cases_Bool (is_held c z.holder)) [
  | inl held ↦
      let old = shared_old rows table a b whole both z t i j like.copy (parcel_other rows a r z c m.kept.rising m.two.first i held) (parcel_other rows b q z c m.kept.rising m.two.second i held) in
      ap (λ (f : Event). is_held c z.holder && is_leq z.stamp.event f) (sym is)
      ∙ ap (λ (v : Bool). is_held c z.holder && v) (within_is (Shared (Holds rows table) a b whole both) z.copy c z.stamp s t.set both m.sound old there (m.fine z i).1 (subst IsSound (sym is) m.event))
      ∙ ap (λ (o : Option ℕ). is_held c o && is_within t.set both) like.holder
  | inr out ↦ grind (arith, nat_tests)
]

-- what becomes of a row and of what is known of it
pub shared_outcome : (rows : List StampRow) (table : List Known) (n a b : ℕ) (r q : StampRow) (whole : Stamp) (both : List ℕ) → IsShared rows table a b r q whole both → (z : StampRow) (t : Known) → In z rows → In t table → Alike z t
    → Outcome (Twice rows table a b whole both) (shared n a b (first_part whole) (second_part whole) rows z) (united_known n both a b t)
shared_outcome rows table n a b r q whole both m z t i j like =
    let P : ℕ → Stamp → List ℕ → Type 0 = Twice rows table a b whole both in
    let e : Event = whole.event in
    let x : StampRow = settled None rows (first_part whole) n z in
    let y : StampRow = settled None rows (second_part whole) n z in
    let out : Bool = ends None a e z || ends None b e z in
    let new : Known = know_two n both a b t in
    let known : Known = knowing both n t in
    -- a copy's row is the one that is known, and isn't held
    let free : (c : ℕ) (v : StampRow) → IsRowOf rows c v → z.copy ≡ c → t.holder ≡ None = λ c v at same. grind (arith, nat_tests, one_row) in
    let stays : (k : Known) → k.holder ≡ None → new ≡ k → united_known n both a b t ≡ Some k = λ k none is.
    grind (arith, nat_tests) in
    let still : (c : ℕ) → ends None c e z ≡ false → (s : Stamp) → Ending rows (λ w. w.copy) (ends None c e) z.copy s → ⊥ =
    λ c none s end. grind (arith, nat_tests, one_row) in
    elim (cases_Bool (z.copy == a)) [
      | inl f ↦ let same : z.copy ≡ a = eqb-true z.copy a f in
          some x known (grind (arith, nat_tests))
          (grind (arith, nat_tests)) record { copy = like.copy; touch = refl; holder = like.holder }
          (grind (arith, nat_tests, parcel_other, ends_held))
      | inr na ↦ elim (cases_Bool (z.copy == b)) [
        | inl f ↦ let same : z.copy ≡ b = eqb-true z.copy b f in
            some y known (grind (arith, nat_tests))
            (grind (arith, nat_tests)) record { copy = like.copy; touch = refl; holder = like.holder }
            (grind (arith, nat_tests, parcel_other, ends_held))
        | inr nb ↦
            let not_a : z.copy ≢ a = eqb-false z.copy a na in
            let not_b : z.copy ≢ b = eqb-false z.copy b nb in
            let is : new ≡ t = grind (arith, nat_tests) in
            subst (λ (o : Option StampRow). Outcome P o (united_known n both a b t)) (grind (arith, nat_tests))
            (subst (λ (k : Known). Outcome P (cond out None (Some z)) (unless (over a both k || over b both k) k)) (sym is)
            (stay_outcome P out (over a both t || over b both t) z t
            (ap (λ (v : Bool). v || ends None b e z) (ends_agree rows table a b r q whole both a (first_part whole) z t m (inr (inl (refl, refl, refl), m.two.differ)) refl i j like)
            ∙ ap (λ (v : Bool). over a both t || v) (ends_agree rows table a b r q whole both b (second_part whole) z t m (inl (refl, refl, refl)) refl i j like))
            like
            (λ none. let o = or_parts (ends None a e z) (ends None b e z) none in inr ((inr ((shared_old rows table a b whole both z t i j like.copy not_a not_b, still a o.0), not_a), still b o.1), not_b))))
      ]
    ]

-- The sets.

-- both together have what either has
abbrev together : List StampRow → List Known → ℕ → ℕ → StampRow → StampRow → ℕ → Stamp → List ℕ → Type 0
together rows table a b r q = Put (Others (Holds rows table) b) a (joined_stamp r.stamp q.stamp) (United (Holds rows table a r.stamp) (Holds rows table b q.stamp))

together_sound : (rows : List StampRow) (table : List Known) (a b : ℕ) (r q : StampRow) → IsKept rows → AreSound rows → AreTwo rows a b r q → StandsFor rows table → Sound (together rows table a b r q)
together_sound rows table a b r q k fine two st =
    join_keeps (Holds rows table) a b r.stamp q.stamp (joined_stamp r.stamp q.stamp) (set_in table a) (set_in table b) (to_sound rows table st) (holds_at rows table a r st two.first) (holds_at rows table b q st two.second)
    two.differ (whole_is rows a b r q k fine two).summed (IsJoin-joined r.stamp.event q.stamp.event (fine r two.first.there).1.shallow (fine q two.second.there).1.shallow)

pub reconciled_shared : (rows : List StampRow) (table : List Known) (a b : ℕ) (r q : StampRow) → IsKept rows → AreSound rows → AreTwo rows a b r q → StandsFor rows table
    → IsShared rows table a b r q (joined_stamp r.stamp q.stamp) (union (set_in table a) (set_in table b))
reconciled_shared rows table a b r q k fine two st =
    let whole : Stamp = joined_stamp r.stamp q.stamp in
    let both : List ℕ = union (set_in table a) (set_in table b) in
    record {
      kept = k;
      fine = fine;
      two = two;
      is = refl;
      event = IsSound-joined r.stamp.event q.stamp.event (fine r two.first.there).1 (fine q two.second.there).1;
      stands = st;
      sound = shares (Holds rows table) (together rows table a b r q) a b whole both (together_sound rows table a b r q k fine two st)
          (grind (arith, nat_tests, holds_at)) (whole_is rows a b r q k fine two).parted
          (λ d s zs p na nb. inr ((p, nb), na));
    }

pub merged_shared : (rows : List StampRow) (table : List Known) (n a b : ℕ) (r q : StampRow) (e : Event) → IsKept rows → AreSound rows → AreTwo rows a b r q → IsSound e
    → IsRaised (sum_of r.stamp.id q.stamp.id) (joined r.stamp.event q.stamp.event) e → StandsFor rows table → AreBelow n table
    → IsShared rows table a b r q (stamp (sum_of r.stamp.id q.stamp.id) e) (union (n ∷ set_in table a) (set_in table b))
merged_shared rows table n a b r q e k fine two event raised st below =
    let P : ℕ → Stamp → List ℕ → Type 0 = Holds rows table in
    let J : ℕ → Stamp → List ℕ → Type 0 = together rows table a b r q in
    let m : Stamp = joined_stamp r.stamp q.stamp in
    let whole : Stamp = stamp m.id e in
    let xs : List ℕ = set_in table a in
    let ys : List ℕ = set_in table b in
    let first : P a r.stamp xs = holds_at rows table a r st two.first in
    let second : P b q.stamp ys = holds_at rows table b q st two.second in
    let there : J a m (union xs ys) = inl (refl, refl, (xs, ys, first, second, refl)) in
    let new : (d : ℕ) (s : Stamp) (zs : List ℕ) → P d s zs → has zs n ≡ false = unknown_yet rows table n below in
    let E : ℕ → Stamp → List ℕ → Type 0 = Put J a whole (Updated (J a m) n) in
    let sound : Sound E = edit_keeps J a n m whole (union xs ys) (together_sound rows table a b r q k fine two st) there refl raised
    (grind (arith, nat_tests, all_put, union_members)) in
    subst (IsShared rows table a b r q whole) (sym (union_fresh n xs ys (new b q.stamp ys second))) record {
      kept = k;
      fine = fine;
      two = two;
      is = refl;
      event = event;
      stands = st;
      sound = shares P E a b whole (n ∷ union xs ys) sound (inl (refl, refl, (union xs ys, there, refl))) (whole_is rows a b r q k fine two).parted (λ d s zs p na nb. inr (inr ((p, nb), na), na));
    }
