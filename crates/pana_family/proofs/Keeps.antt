-- What a report keeps of each row: limits, touches, and the points that rows own together.
use Rattle.pana_family.proofs.Words.{◌≡◌, ◌≢◌, ℕ, ◌≤◌, ◌+◌, Bool, true, false, ◌&&◌, ◌||◌, ◌==◌, List, [], ◌∷◌, length, Option, Some, None, filter_map, list_any, refl, sym, ap, subst, inl, inr, arith, depth-single}
use Rattle.pana_family.proofs.Words.{eqb-true, length-append, filter-append, nat_tests, depth, is_single, is_zero, parts, sum_of, IsParted, IsValid, parted-parts, valid-parts, Event, greatest}
use Rattle.pana_family.proofs.Words.{IsSound, joined, IsSound-joined, greatest-joined, Stamp, IsRaised, StampRow, FamilyReport, Duplicate, Edit, Reconcile, Merge, Remove, Touch, is_copy, is_held, In}
use Rattle.pana_family.proofs.Words.{registered, IsRising, AreSound, copy_rows, deepest, lives, owned, row, row_in, seed_row, IsKept, bequeathed, comes, ends, first_part, joined_stamp, made}
use Rattle.pana_family.proofs.Words.{parcel_row, reported_rows, restamped, second_part, settled, shared, updated_stamp, IsReady, deeper, IsRowOf, passed_row, not-true, depth-parts-le, divides}
use Rattle.pana_id.specs.Id.{has as owns}
use Rattle.pana_family.proofs.{Members.any_from, Members.any_some, Members.in_append, Places.deepest_in, Places.row_found, Copies.living_at, Sums.with_summed, Shares.AreTwo}
use Rattle.pana_family.proofs.{Shares.IsWhole, Shares.whole_is, Bequests.left_is, Computed.updated_is, Changes.empty_stands, Changes.no_update, Changes.seed_stands}
use Rattle.pana_family.proofs.{Tables.held_registered}
use Rattle.pana_family.proofs.Images.{copies_made, in_made, one_of, unless_of}

-- a living copy's row
pub row_lives : (rows : List StampRow) (copy : ℕ) → IsRising 0 rows → lives rows copy ≡ true → IsRowOf rows copy (row_in rows copy)
row_lives rows copy up here = grind (arith, nat_tests, living_at, row_found)

pub two_rows : (rows : List StampRow) (a b : ℕ) → IsRising 0 rows → lives rows a ≡ true → lives rows b ≡ true → a ≢ b → AreTwo rows a b (row_in rows a) (row_in rows b)
two_rows rows a b up here there differ = grind (arith, nat_tests, row_lives)

-- What becomes of a row.

pub shared_all : (Q : StampRow → Type 0) (n a b : ℕ) (first second : Stamp) (rows : List StampRow) (r x : StampRow) → (r.copy ≡ a → Q (settled None rows first n r)) → (r.copy ≡ b → Q (settled None rows second n r)) → Q r
    → shared n a b first second rows r ≡ Some x → Q x
shared_all Q n a b first second rows r x here there stays is = grind (arith, nat_tests)

pub bequeathed_all : (Q : StampRow → Type 0) (c h : ℕ) (e : Event) (rows : List StampRow) (r x : StampRow) → (r.copy ≡ h → Q (settled (Some c) rows r.stamp r.touch r)) → Q (passed_row c h r) → bequeathed c h e rows r ≡ Some x → Q x
bequeathed_all Q c h e rows r x heir other is = grind (arith, nat_tests)

-- a row keeps its number, and is a copy's still or a parcel's
abbrev Stays : StampRow → StampRow → Type 0
Stays r x = (x.copy ≡ r.copy) × (is_copy x.holder ≡ is_copy r.holder)

pub made_stays : (n : ℕ) (report : FamilyReport) (rows : List StampRow) (r x : StampRow) → made n report rows r ≡ Some x → (x.copy ≡ r.copy) × (is_copy x.holder ≡ is_copy r.holder)
made_stays n report rows r x is = grind (arith, nat_tests)

-- what comes has the entry's number
pub comes_numbered : (n : ℕ) (report : FamilyReport) (rows : List StampRow) (x : StampRow) → In x (comes n report rows) → x.copy ≡ n
comes_numbered n report rows x i = grind (arith, nat_tests)

-- How many copies there are.

-- how many copies come
abbrev pub adds : FamilyReport → ℕ
adds (Duplicate c) = 1
adds (Edit c) = 0
adds (Reconcile a b) = 0
adds (Merge a b) = 0
adds (Remove c h) = 0
adds (Touch c) = 0

pub few_after : (n : ℕ) (report : FamilyReport) (rows : List StampRow) → length (copy_rows (reported_rows n report rows)) ≤ length (copy_rows rows) + adds report
few_after n report rows = grind (arith, nat_tests, filter-append, length-append, copies_made, made_stays)

-- What rows keep.

pub owned_in : (rows : List StampRow) (r : StampRow) (p : List Bool) → In r rows → owns r.stamp.id p ≡ true → owned rows p ≡ true
owned_in rows r p i o = any_from (λ r. owns r.stamp.id p) rows r i o

-- a row is within the limits, no level is above its touch, and rows from before own its points
pub record KeptRow (m : ℕ) (rows : List StampRow) (x : StampRow) : Type 0 where
  pub level : greatest x.stamp.event ≤ x.touch
  pub fine : IsValid x.stamp.id × IsSound x.stamp.event
  pub deep : depth x.stamp.id ≤ m
  pub owned : (p : List Bool) → length p ≡ 256 → owns x.stamp.id p ≡ true → owned rows p ≡ true

old_kept : (m : ℕ) (rows : List StampRow) (r : StampRow) → IsKept rows → AreSound rows → deepest rows ≤ m → In r rows → KeptRow m rows r
old_kept m rows r k fine low i = grind (arith, nat_tests, deepest_in, owned_in)

-- another event and touch
renewed_kept : (m : ℕ) (rows : List StampRow) (r x : StampRow) → KeptRow m rows r → x.stamp.id ≡ r.stamp.id → IsSound x.stamp.event → greatest x.stamp.event ≤ x.touch → KeptRow m rows x
renewed_kept m rows r x k same sound high = grind (arith, nat_tests)

-- a stamp that a copy gets, and is settled
settled_kept : (from : Option ℕ) (rows : List StampRow) (s : Stamp) (touch : ℕ) (r : StampRow) → AreSound rows → KeptRow (deepest rows) rows (restamped s touch r) → KeptRow (deepest rows) rows (settled from rows s touch r)
settled_kept from rows s touch r fine k = grind (arith, nat_tests, with_summed, any_some, owned_in)

-- it owns what it had, and what ends
pub settled_owns : (from : Option ℕ) (rows : List StampRow) (s : Stamp) (touch : ℕ) (r : StampRow) → AreSound rows → IsValid s.id → (p : List Bool) → length p ≡ 256
    → (owns s.id p || list_any (λ z. ends from r.copy s.event z && owns z.stamp.id p) rows) ≡ owns (settled from rows s touch r).stamp.id p
settled_owns from rows s touch r fine valid p long = grind (arith, nat_tests, with_summed)

-- Two copies.

-- the stamp that two copies share
pub record Whole (n : ℕ) (rows : List StampRow) (a b : ℕ) (whole : Stamp) : Type 0 where
  pub two : AreTwo rows a b (row_in rows a) (row_in rows b)
  pub is : whole.id ≡ sum_of (row_in rows a).stamp.id (row_in rows b).stamp.id
  pub event : IsSound whole.event
  pub high : greatest whole.event ≤ n

pub reconcile_whole : (n a b : ℕ) (rows : List StampRow) → IsReady n (Reconcile a b) rows → Whole n rows a b (joined_stamp (row_in rows a).stamp (row_in rows b).stamp)
reconcile_whole n a b rows w =
    let r : StampRow = row_in rows a in
    let q : StampRow = row_in rows b in
    let two : AreTwo rows a b r q = two_rows rows a b w.kept.rising w.able.0 w.able.1 w.able.2 in
    let i : In r rows = two.first.there in
    let j : In q rows = two.second.there in
    record {
      two = two;
      is = refl;
      event = IsSound-joined r.stamp.event q.stamp.event (w.sound r i).1 (w.sound q j).1;
      high = grind (arith, nat_tests, greatest-joined);
    }

-- what both own and know is updated
pub merge_raised : (n a b : ℕ) (rows : List StampRow) → IsReady n (Merge a b) rows → let s : Stamp = joined_stamp (row_in rows a).stamp (row_in rows b).stamp in IsRaised s.id s.event (updated_stamp s).event × IsSound (updated_stamp s).event
merge_raised n a b rows w =
    let r : StampRow = row_in rows a in
    let q : StampRow = row_in rows b in
    let two : AreTwo rows a b r q = two_rows rows a b w.kept.rising w.able.0 w.able.1 w.able.2 in
    let i : In r rows = two.first.there in
    let j : In q rows = two.second.there in
    let g = whole_is rows a b r q w.kept w.sound two in
    let some : is_zero (sum_of r.stamp.id q.stamp.id) ≡ false = grind (arith, nat_tests) in
    updated_is (sum_of r.stamp.id q.stamp.id) (joined r.stamp.event q.stamp.event) g.valid some (IsSound-joined r.stamp.event q.stamp.event (w.sound r i).1 (w.sound q j).1)
    (grind (arith, nat_tests, greatest-joined))

pub merge_whole : (n a b : ℕ) (rows : List StampRow) → IsReady n (Merge a b) rows → Whole n rows a b (updated_stamp (joined_stamp (row_in rows a).stamp (row_in rows b).stamp))
merge_whole n a b rows w =
    let up = merge_raised n a b rows w in
    grind (arith, nat_tests, greatest-joined, two_rows)

-- a part of it
part_kept : (n : ℕ) (rows : List StampRow) (a b : ℕ) (whole : Stamp) (r : StampRow) → IsKept rows → AreSound rows → Whole n rows a b whole → KeptRow (deepest rows) rows (restamped (first_part whole) n r) × KeptRow (deepest rows) rows (restamped (second_part whole) n r)
part_kept n rows a b whole r k fine w =
    let x : StampRow = row_in rows a in
    let y : StampRow = row_in rows b in
    let g : IsWhole x y whole.id = subst (IsWhole x y) (sym w.is) (whole_is rows a b x y k fine w.two) in
    grind (arith, nat_tests, owned_in, deepest_in)

shared_kept : (n a b : ℕ) (rows : List StampRow) (whole : Stamp) (r x : StampRow) → IsKept rows → AreSound rows → Whole n rows a b whole → In r rows → shared n a b (first_part whole) (second_part whole) rows r ≡ Some x → KeptRow (deepest rows) rows x
shared_kept n a b rows whole r x k fine w i is =
    let both = part_kept n rows a b whole r k fine w in
    shared_all (KeptRow (deepest rows) rows) n a b (first_part whole) (second_part whole) rows r x (λ e. settled_kept None rows (first_part whole) n r fine both.0) (λ e. settled_kept None rows (second_part whole) n r fine both.1)
    (old_kept (deepest rows) rows r k fine (omega arith) i) is

-- All reports.

-- the source's id, which can be divided
pub source_parted : (n c : ℕ) (rows : List StampRow) (r : StampRow) → IsReady n (Duplicate c) rows → In r rows → r.copy ≡ c → (is_single r.stamp.id 256 ≡ false) × IsParted r.stamp.id (parts r.stamp.id).0 (parts r.stamp.id).1
source_parted n c rows r w i e = grind (arith, nat_tests, row_found, parted-parts)

-- a half of the source's stamp
half_kept : (n c : ℕ) (rows : List StampRow) (r x y : StampRow) → IsReady n (Duplicate c) rows → In r rows → r.copy ≡ c → x.stamp ≡ first_part r.stamp → y.stamp ≡ second_part r.stamp → greatest r.stamp.event ≤ x.touch → greatest r.stamp.event ≤ y.touch
    → KeptRow (deepest rows + 1) rows x × KeptRow (deepest rows + 1) rows y
half_kept n c rows r x y w i e first second low other =
    let s = source_parted n c rows r w i e in
    grind (arith, nat_tests, deepest_in, owned_in, valid-parts, depth-parts-le)

-- the event of a copy that is edited
pub edit_raised : (n c : ℕ) (rows : List StampRow) (r : StampRow) → IsReady n (Edit c) rows → In r rows → IsRaised r.stamp.id r.stamp.event (updated_stamp r.stamp).event × IsSound (updated_stamp r.stamp).event
edit_raised n c rows r w i = updated_is r.stamp.id r.stamp.event (w.sound r i).0 (w.kept.stands.owning r i) (w.sound r i).1 (grind (arith, nat_tests))

made_kept : (n : ℕ) (report : FamilyReport) (rows : List StampRow) → IsReady n report rows → (r x : StampRow) → In r rows → made n report rows r ≡ Some x → KeptRow (deepest rows + deeper report) rows x
made_kept n (Duplicate c) rows w r x i is =
    one_of (r.copy == c) (KeptRow (deepest rows + 1) rows) (restamped (first_part r.stamp) r.touch r) r x
    (λ e. (half_kept n c rows r (restamped (first_part r.stamp) r.touch r) (row n (second_part r.stamp) r.touch) w i (eqb-true r.copy c e) refl refl (w.kept.levels r i) (w.kept.levels r i)).0)
    (λ e. old_kept (deepest rows + 1) rows r w.kept w.sound (omega arith) i) is
made_kept n (Edit c) rows w r x i is =
    let up = edit_raised n c rows r w i in
    let old : KeptRow (deepest rows + 0) rows r = old_kept (deepest rows + 0) rows r w.kept w.sound (omega arith) i in
    grind (arith, nat_tests)
made_kept n (Reconcile a b) rows w r x i is = subst (λ (m : ℕ). KeptRow m rows x) (omega arith) (shared_kept n a b rows (joined_stamp (row_in rows a).stamp (row_in rows b).stamp) r x w.kept w.sound (reconcile_whole n a b rows w) i is)
made_kept n (Merge a b) rows w r x i is = subst (λ (m : ℕ). KeptRow m rows x) (omega arith) (shared_kept n a b rows (updated_stamp (joined_stamp (row_in rows a).stamp (row_in rows b).stamp)) r x w.kept w.sound (merge_whole n a b rows w) i is)
made_kept n (Remove c None) rows w r x i is = unless_of (r.copy == c || is_held c r.holder) (KeptRow (deepest rows + 0) rows) r x (λ o. old_kept (deepest rows + 0) rows r w.kept w.sound (omega arith) i) is
made_kept n (Remove c (Some h)) rows w r x i is =
    let old : KeptRow (deepest rows) rows r = old_kept (deepest rows) rows r w.kept w.sound (omega arith) i in
    subst (λ (m : ℕ). KeptRow m rows x) (omega arith)
    (bequeathed_all (KeptRow (deepest rows) rows) c h (row_in rows h).stamp.event rows r x (λ e. settled_kept (Some c) rows r.stamp r.touch r w.sound old) (grind (arith, nat_tests)) is)
made_kept n (Touch c) rows w r x i is =
    let old : KeptRow (deepest rows + 0) rows r = old_kept (deepest rows + 0) rows r w.kept w.sound (omega arith) i in
    grind (arith, nat_tests)

comes_kept : (n : ℕ) (report : FamilyReport) (rows : List StampRow) → IsReady n report rows → (x : StampRow) → In x (comes n report rows) → KeptRow (deepest rows + deeper report) rows x
comes_kept n (Duplicate c) rows w x i =
    let r : StampRow = row_in rows c in
    let at : IsRowOf rows c r = row_lives rows c w.kept.rising w.able.0 in
    elim i [
      | inl e ↦ (half_kept n c rows r (restamped (first_part r.stamp) r.touch r) x w at.there at.named refl (ap (λ (v : StampRow). v.stamp) e) (w.kept.levels r at.there) (grind (arith, nat_tests))).1
      | inr never ↦ absurd never
    ]
comes_kept n (Remove c (Some h)) rows w x i =
    let r : StampRow = row_in rows c in
    let at : IsRowOf rows c r = row_lives rows c w.kept.rising w.able.0 in
    subst (KeptRow (deepest rows + 0) rows) (sym (left_is n h r (row_in rows h) x i).0)
    (renewed_kept (deepest rows + 0) rows r (parcel_row n h r.stamp) (old_kept (deepest rows + 0) rows r w.kept w.sound (omega arith) at.there) refl (w.sound r at.there).1 (grind (arith, nat_tests)))
comes_kept n report rows w x i = grind (arith, nat_tests)

-- each row after a report is kept
pub reported_kept : (n : ℕ) (report : FamilyReport) (rows : List StampRow) → IsReady n report rows → (x : StampRow) → In x (reported_rows n report rows) → KeptRow (deepest rows + deeper report) rows x
reported_kept n report rows w x i = elim (in_append x (filter_map (made n report rows) rows) (comes n report rows) i) [
  | inl j ↦ let m = in_made (made n report rows) rows x j in made_kept n report rows w m.0 x m.1 m.2
  | inr j ↦ comes_kept n report rows w x j
]

-- The first rows.

pub empty_kept : IsKept []
empty_kept = grind (arith, nat_tests, empty_stands)

pub seed_kept : (n : ℕ) → IsKept (seed_row n ∷ [])
seed_kept n = record {
  rising = (omega arith, tt);
  few = omega arith;
  levels = grind (arith, nat_tests);
  table = registered n;
  stands = seed_stands n;
  numbers = λ t u i m. absurd (no_update n t u i m);
  held = held_registered n;
}

pub seed_sound : (n : ℕ) → AreSound (seed_row n ∷ [])
seed_sound n r i = grind (arith, nat_tests)

-- Ids that can be divided.

-- an id that can be divided isn't a single point of 256 choices
pub divides_is : (rows : List StampRow) (c : ℕ) → divides rows c ≡ true → is_single (row_in rows c).stamp.id 256 ≡ false
divides_is rows c is = not-true (is_single (row_in rows c).stamp.id 256) is

-- where an id can't be divided some id is 256 deep
pub undivided_deep : (rows : List StampRow) (c : ℕ) → IsRising 0 rows → lives rows c ≡ true → divides rows c ≡ false → 256 ≤ deepest rows
undivided_deep rows c up here never = grind (arith, nat_tests, depth-single, deepest_in, row_lives)
