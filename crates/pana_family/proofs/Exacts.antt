-- What a report leaves, from the exact rows alone.
use Rattle.pana_family.proofs.Words.{◌≡◌, ℕ, ◌≤◌, ◌<◌, ◌+◌, ◌^◌, Bool, true, false, cond, ◌&&◌, ◌||◌, ◌==◌, List, [], ◌∷◌, ◌++◌, filter_map, length, Option, Some, None, list_any, refl, sym, subst}
use Rattle.pana_family.proofs.Words.{◌∙◌, inl, inr, arith, cases_Bool, eqb-true, or_cases, or_right, append-nil, nat_tests, parts, Event, is_leq, Stamp, StampRow, FamilyReport, Duplicate, Edit}
use Rattle.pana_family.proofs.Words.{Reconcile, Merge, Remove, Touch, has, union, Known, In, AreBelow, set_in, AreSame, StandsFor, AreBefore, AreSound, IsRising, copy_rows, deepest, owned, row}
use Rattle.pana_family.proofs.Words.{row_in, IsKept, bequeathed, comes, ends, first_part, joined_stamp, made, parcel_row, reported_rows, restamped, second_part, settled, shared, updated_stamp}
use Rattle.pana_family.proofs.Words.{CanReport, IsReady, deeper, reported, IsRowOf, passed_row, OwnSame, Asks, IsReported, loses}
use Rattle.pana_id.specs.Id.{has as owns}
use Rattle.pana_family.proofs.Members.{Holds, any_from, any_some, from_both, in_left, in_right, of_known, of_row, one_known, one_row, to_sound}
use Rattle.pana_family.proofs.{Places.deepest_by, Places.rising_pushed, Copies.living_at}
use Rattle.pana_family.proofs.Shares.{Twice, IsWhole, merged_shared, reconciled_shared, shared_outcome, twice_sound, whole_is}
use Rattle.pana_family.proofs.Bequests.{AreHeirs, Bequeathed, bequeathed_outcome, bequeathed_sound, parcel_comes, parcel_holds}
use Rattle.pana_family.proofs.Changes.{Duplicated, Edited, duplicate_holds, duplicated_outcome, duplicated_sound, edited_outcome, edited_sound, lost_outcome, touched_outcome}
use Rattle.pana_family.proofs.Tables.{NamesOf, held_reported, made_known, comes_known, numbers_reported, reported_is}
use Rattle.pana_family.proofs.Images.{AreImages, images_stand, in_made, none_come, rising_made, to_made}
use Rattle.pana_family.proofs.Keeps.{Whole, adds, comes_numbered, edit_raised, few_after, made_stays, merge_raised, merge_whole, owned_in, reconcile_whole, reported_kept, row_lives, settled_owns, source_parted}

-- The points that rows own.

-- a row after the report that owns the point
abbrev Owned : ℕ → FamilyReport → List StampRow → List Bool → Type 0
Owned n report rows p = (x : StampRow) × In x (reported_rows n report rows) × (owns x.stamp.id p ≡ true)

made_owned : (n : ℕ) (report : FamilyReport) (rows : List StampRow) (p : List Bool) (r x : StampRow) → In r rows → made n report rows r ≡ Some x → owns x.stamp.id p ≡ true → Owned n report rows p
made_owned n report rows p r x i is o = grind (arith, nat_tests, in_left, to_made)

-- of a shared stamp
shared_owns : (n a b : ℕ) (rows : List StampRow) (whole : Stamp) → IsKept rows → AreSound rows → Whole n rows a b whole → (p : List Bool) → length p ≡ 256 → (r : StampRow) → In r rows → owns r.stamp.id p ≡ true
    → (z : StampRow) × (x : StampRow) × In z rows × (shared n a b (first_part whole) (second_part whole) rows z ≡ Some x) × (owns x.stamp.id p ≡ true)
shared_owns n a b rows whole k fine w p long r i o =
    let q : StampRow = row_in rows a in
    let v : StampRow = row_in rows b in
    let s : Stamp = first_part whole in
    let t : Stamp = second_part whole in
    let x : StampRow = settled None rows s n q in
    let y : StampRow = settled None rows t n v in
    let g : IsWhole q v whole.id = subst (IsWhole q v) (sym w.is) (whole_is rows a b q v k fine w.two) in
    let F : StampRow → Option StampRow = shared n a b s t rows in
    let out : StampRow → Bool = λ z. ends None a whole.event z || ends None b whole.event z in
    let at_a : F q ≡ Some x = grind (arith, nat_tests) in
    let at_b : F v ≡ Some y = grind (arith, nat_tests) in
    let test : (c : ℕ) → StampRow → Bool = λ c z. ends None c whole.event z && owns z.stamp.id p in
    let first : (owns s.id p || list_any (test q.copy) rows) ≡ true → (z : StampRow) × (x : StampRow) × In z rows × (F z ≡ Some x) × (owns x.stamp.id p ≡ true) = λ h. (q, x, w.two.first.there, at_a, sym (settled_owns None rows s n q fine g.first p long) ∙ h) in
    let second : (owns t.id p || list_any (test v.copy) rows) ≡ true → (z : StampRow) × (x : StampRow) × In z rows × (F z ≡ Some x) × (owns x.stamp.id p ≡ true) = λ h. (v, y, w.two.second.there, at_b, sym (settled_owns None rows t n v fine g.second p long) ∙ h) in
    let both : owns whole.id p ≡ true → (z : StampRow) × (x : StampRow) × In z rows × (F z ≡ Some x) × (owns x.stamp.id p ≡ true) = λ h. grind (arith, nat_tests) in
    let ended : (c : ℕ) → ends None c whole.event r ≡ true → list_any (test c) rows ≡ true = λ c e. grind (arith, nat_tests, any_from) in
    elim (cases_Bool (r.copy == a)) [
      | inl e ↦ both (grind (arith, nat_tests, one_row))
      | inr na ↦ elim (cases_Bool (r.copy == b)) [
        | inl e ↦ both (grind (arith, nat_tests, one_row))
        | inr nb ↦ elim (cases_Bool (ends None a whole.event r)) [
          | inl e ↦ first (or_right (owns s.id p) (list_any (test q.copy) rows) (grind (arith, nat_tests)))
          | inr ne ↦ elim (cases_Bool (ends None b whole.event r)) [
            | inl e ↦ second (or_right (owns t.id p) (list_any (test v.copy) rows) (grind (arith, nat_tests)))
            | inr none ↦ grind (arith, nat_tests)
          ]
        ]
      ]
    ]

heirs_of : (n c h : ℕ) (rows : List StampRow) → IsReady n (Remove c (Some h)) rows → AreHeirs rows n c h (row_in rows c) (row_in rows h)
heirs_of n c h rows w = grind (arith, nat_tests, row_lives)

bequeathed_owns : (n c h : ℕ) (rows : List StampRow) → IsReady n (Remove c (Some h)) rows → (p : List Bool) → length p ≡ 256 → (r : StampRow) → In r rows → owns r.stamp.id p ≡ true → Owned n (Remove c (Some h)) rows p
bequeathed_owns n c h rows w p long r i o =
    let q : StampRow = row_in rows h in
    let e : Event = q.stamp.event in
    let m = heirs_of n c h rows w in
    let x : StampRow = settled (Some c) rows q.stamp q.touch q in
    let y : StampRow = passed_row c h r in
    let test : StampRow → Bool = λ z. ends (Some c) q.copy e z && owns z.stamp.id p in
    let at_heir : bequeathed c h e rows q ≡ Some x = grind (arith, nat_tests) in
    let heir : (owns q.stamp.id p || list_any test rows) ≡ true → Owned n (Remove c (Some h)) rows p = λ t.
    made_owned n (Remove c (Some h)) rows p q x m.heir.there at_heir (sym (settled_owns (Some c) rows q.stamp q.touch q w.sound (w.sound q m.heir.there).0 p long) ∙ t) in
    elim (cases_Bool (ends (Some c) h e r)) [
      | inl t ↦ heir (grind (arith, nat_tests, any_from))
      | inr f ↦ elim (cases_Bool (r.copy == h)) [
        | inl t ↦ heir (grind (arith, nat_tests, one_row))
        | inr nh ↦ elim (cases_Bool (r.copy == c)) [
          | inl t ↦
              let is : r ≡ row_in rows c = grind (arith, nat_tests, one_row) in
              let lacks : is_leq (row_in rows c).stamp.event e ≡ false = grind (arith, nat_tests) in
              let left : StampRow = parcel_row n h (row_in rows c).stamp in (
                left,
                in_right left (filter_map (made n (Remove c (Some h)) rows) rows) (comes n (Remove c (Some h)) rows) (grind (arith, nat_tests)),
                subst (λ (z : StampRow). owns z.stamp.id p ≡ true) is o,
              )
          | inr nc ↦ made_owned n (Remove c (Some h)) rows p r y i
              (grind (arith, nat_tests)) o
        ]
      ]
    ]

-- where it is the copy's row alone that is another
one_owned : (n c : ℕ) (report : FamilyReport) (rows : List StampRow) (p : List Bool) (r x : StampRow) → In r rows → made n report rows r ≡ Some (cond (r.copy == c) x r) → owns x.stamp.id p ≡ owns r.stamp.id p → owns r.stamp.id p ≡ true → Owned n report rows p
one_owned n c report rows p r x i is same o = grind (arith, nat_tests, made_owned)

still_owned : (n : ℕ) (report : FamilyReport) (rows : List StampRow) → IsReady n report rows → loses report ≡ false → (p : List Bool) → length p ≡ 256 → (r : StampRow) → In r rows → owns r.stamp.id p ≡ true → Owned n report rows p
still_owned n (Duplicate c) rows w same p long r i o = elim (cases_Bool (r.copy == c)) [
  | inl e ↦
      let s = source_parted n c rows r w i (eqb-true r.copy c e) in
      let at : IsRowOf rows c (row_in rows c) = row_lives rows c w.kept.rising w.able.0 in
      let is : r ≡ row_in rows c = grind (arith, nat_tests, one_row) in
      elim (or_cases (owns (parts r.stamp.id).0 p) (owns (parts r.stamp.id).1 p) (sym (s.1.owned p long) ∙ o)) [
        | inl mine ↦ made_owned n (Duplicate c) rows p r (restamped (first_part r.stamp) r.touch r) i (grind (arith, nat_tests)) mine
        | inr its ↦ (_, in_right _ (filter_map (made n (Duplicate c) rows) rows) (comes n (Duplicate c) rows) (inl refl), subst (λ (z : StampRow). owns (parts z.stamp.id).1 p ≡ true) is its)
      ]
  | inr ne ↦ made_owned n (Duplicate c) rows p r r i (grind (arith, nat_tests)) o
]
still_owned n (Edit c) rows w same p long r i o = one_owned n c (Edit c) rows p r (restamped (updated_stamp r.stamp) n r) i refl refl o
still_owned n (Reconcile a b) rows w same p long r i o =
    let m = shared_owns n a b rows (joined_stamp (row_in rows a).stamp (row_in rows b).stamp) w.kept w.sound (reconcile_whole n a b rows w) p long r i o in made_owned n (Reconcile a b) rows p m.0 m.1 m.2 m.3 m.4
still_owned n (Merge a b) rows w same p long r i o =
    let m = shared_owns n a b rows (updated_stamp (joined_stamp (row_in rows a).stamp (row_in rows b).stamp)) w.kept w.sound (merge_whole n a b rows w) p long r i o in made_owned n (Merge a b) rows p m.0 m.1 m.2 m.3 m.4
still_owned n (Remove c None) rows w same p long r i o = absurd (cc same)
still_owned n (Remove c (Some h)) rows w same p long r i o = bequeathed_owns n c h rows w p long r i o
still_owned n (Touch c) rows w same p long r i o = one_owned n c (Touch c) rows p r (restamped r.stamp n r) i refl refl o

own_same : (n : ℕ) (report : FamilyReport) (rows : List StampRow) → IsReady n report rows → loses report ≡ false → OwnSame rows (reported_rows n report rows)
own_same n report rows w same p long =
    let new : List StampRow = reported_rows n report rows in
    from_both (owned new p) (owned rows p)
    (λ o. let m = any_some (λ r. owns r.stamp.id p) new o in (reported_kept n report rows w m.0 m.1).owned p long m.2)
    (λ o. let m = any_some (λ r. owns r.stamp.id p) rows o in let x = still_owned n report rows w same p long m.0 m.1 m.2 in owned_in new x.0 p x.1 x.2)

-- What the rows stand for.

names_of : (report : FamilyReport) (rows : List StampRow) (table : List Known) → CanReport report rows → AreSame rows table → NamesOf report table
names_of report rows table can same = grind (arith, nat_tests, living_at, of_row)

-- what is known keeps its number
known_stays : (n : ℕ) (report : FamilyReport) (table : List Known) (t s : Known) → made_known n report table t ≡ Some s → s.copy ≡ t.copy
known_stays n report table t s is = grind (arith, nat_tests)

-- how rows and a table are made, and what the rows' copies hold
made_images : (n : ℕ) (report : FamilyReport) (rows : List StampRow) (table : List Known) → IsReady n report rows → StandsFor rows table → Asks n report table → AreImages (made n report rows) (made_known n report table) (comes n report rows) (comes_known n report table) rows table
made_images n (Duplicate c) rows table w st asks =
    let r : StampRow = row_in rows c in
    let at : IsRowOf rows c r = row_lives rows c w.kept.rising w.able.0 in
    record {
      P = Duplicated rows table n c r;
      sound = duplicated_sound rows table n c r at (source_parted n c rows r w at.there at.named).1 st;
      each = λ z t i j like. duplicated_outcome rows table n c r z t w.kept.rising at (w.before z i).0 i j like;
      come = (refl, refl, refl, tt);
      held = λ x s i j. elim i [
        | inl e ↦ elim j [ inl f ↦ subst (λ (v : StampRow). Duplicated rows table n c r v.copy v.stamp s.set) (sym e) (subst (λ (k : Known). Duplicated rows table n c r n (second_part r.stamp) k.set) (sym f) (duplicate_holds rows table n c r at st)) | inr never ↦ absurd never ]
        | inr never ↦ absurd never
      ];
    }
made_images n (Edit c) rows table w st asks =
    let r : StampRow = row_in rows c in
    let at : IsRowOf rows c r = row_lives rows c w.kept.rising w.able in
    none_come _ _ rows table (Edited rows table n c r) (edited_sound rows table n c r at (edit_raised n c rows r w at.there).0 asks st)
    (λ z t i j like. edited_outcome rows table n c r z t w.kept.rising at i j like)
made_images n (Reconcile a b) rows table w st asks =
    let r : StampRow = row_in rows a in
    let q : StampRow = row_in rows b in
    let both : List ℕ = union (set_in table a) (set_in table b) in
    let whole : Stamp = joined_stamp r.stamp q.stamp in
    let m = reconciled_shared rows table a b r q w.kept w.sound (reconcile_whole n a b rows w).two st in
    none_come _ _ rows table (Twice rows table a b whole both) (twice_sound rows table a b r q whole both m) (λ z t i j like. shared_outcome rows table n a b r q whole both m z t i j like)
made_images n (Merge a b) rows table w st asks =
    let r : StampRow = row_in rows a in
    let q : StampRow = row_in rows b in
    let whole : Stamp = updated_stamp (joined_stamp r.stamp q.stamp) in
    let both : List ℕ = union (n ∷ set_in table a) (set_in table b) in
    let up = merge_raised n a b rows w in
    let m = merged_shared rows table n a b r q whole.event w.kept w.sound (merge_whole n a b rows w).two up.1 up.0 st asks in
    none_come _ _ rows table (Twice rows table a b whole both) (twice_sound rows table a b r q whole both m) (λ z t i j like. shared_outcome rows table n a b r q whole both m z t i j like)
made_images n (Remove c None) rows table w st asks = none_come _ _ rows table (Holds rows table) (to_sound rows table st) (λ z t i j like. lost_outcome rows table n c z t i j like)
made_images n (Remove c (Some h)) rows table w st asks =
    let r : StampRow = row_in rows c in
    let q : StampRow = row_in rows h in
    let m = heirs_of n c h rows w in
    record {
      P = Bequeathed rows table n c h q;
      sound = bequeathed_sound rows table n c h r q w.sound m st;
      each = λ z t i j like. bequeathed_outcome rows table n c h r q w.sound m st z t i j like;
      come = parcel_comes rows table n c h r q w.sound m st;
      held = λ x s i j. parcel_holds rows table n c h r q m st x s i j;
    }
made_images n (Touch c) rows table w st asks = none_come _ _ rows table (Holds rows table) (to_sound rows table st) (λ z t i j like. touched_outcome rows table n c z t i j like)

stands_after : (n : ℕ) (report : FamilyReport) (rows : List StampRow) (table : List Known) → IsReady n report rows → StandsFor rows table → Asks n report table → StandsFor (reported_rows n report rows) (reported n report table)
stands_after n report rows table w st asks =
    subst (StandsFor (reported_rows n report rows)) (sym (reported_is n report table (one_known 0 rows table st.same w.kept.rising) (names_of report rows table w.able st.same)))
    (images_stand n (made n report rows) (made_known n report table) (comes n report rows) (comes_known n report table) rows table st.same w.kept.rising (λ r i. (w.before r i).0)
    (λ r x is. (made_stays n report rows r x is).0) (known_stays n report table) (comes_numbered n report rows) (made_images n report rows table w st asks))

-- What rows keep.

pub asked : (n : ℕ) (report : FamilyReport) (table : List Known) → AreBelow n table → Asks n report table
asked n report table below = grind (arith, nat_tests)

pub below_kept : (rows : List StampRow) (n : ℕ) (table : List Known) → StandsFor rows table → ((t : Known) (u : ℕ) → In t table → has t.set u ≡ true → u ≤ t.touch) → AreBefore n rows → AreBelow n table
below_kept rows n table stands numbers before t u j m = grind (arith, nat_tests, of_known)

pub rising_reported : (n : ℕ) (report : FamilyReport) (rows : List StampRow) → IsReady n report rows → IsRising 0 (reported_rows n report rows)
rising_reported n report rows w =
    pushed (filter_map (made n report rows) rows) (grind (arith, nat_tests, rising_made, made_stays))
    (λ x i. let m = in_made (made n report rows) rows x i in omega (arith, (made_stays n report rows m.0 x m.2).0, (w.before m.0 m.1).0)) report
  where
    none : (old : List StampRow) → IsRising 0 old → IsRising 0 (old ++ [])
    none old up = subst (IsRising 0) (sym (append-nil old)) up

    last : (old : List StampRow) → IsRising 0 old → ((x : StampRow) → In x old → x.copy < n) → (x : StampRow) → x.copy ≡ n → IsRising 0 (old ++ x ∷ [])
    last old up less x named = rising_pushed 0 x old up (omega arith) (λ q i. omega (arith, less q i, named))

    pushed : (old : List StampRow) → IsRising 0 old → ((x : StampRow) → In x old → x.copy < n) → (report : FamilyReport) → IsRising 0 (old ++ comes n report rows)
    pushed old up less (Duplicate c) = last old up less (row n (second_part (row_in rows c).stamp) n) refl
    pushed old up less (Remove c (Some h)) = let left : StampRow = parcel_row n h (row_in rows c).stamp in
        elim (is_leq (row_in rows c).stamp.event (row_in rows h).stamp.event) as (λ b. IsRising 0 (old ++ cond b [] (left ∷ []))) [ true ↦ none old up | false ↦ last old up less left refl ]
    pushed old up less report = none old up

-- there is room for a copy that comes
room_left : (report : FamilyReport) (rows : List StampRow) → CanReport report rows → length (copy_rows rows) ≤ 256 → length (copy_rows rows) + adds report ≤ 256
room_left report rows can few = grind (arith, nat_tests)

-- what a report leaves of the rows
pub left_of_ready : (n : ℕ) (report : FamilyReport) (rows : List StampRow) → IsReady n report rows → IsReported n report rows (reported_rows n report rows)
left_of_ready n report rows w =
    let k = w.kept in
    let below : AreBelow n k.table = below_kept rows n k.table k.stands k.numbers w.before in
    let one = one_known 0 rows k.table k.stands.same k.rising in
    let names : NamesOf report k.table = names_of report rows k.table w.able k.stands.same in
    record {
      exact = refl;
      kept = record {
        rising = rising_reported n report rows w;
        few = omega (arith, few_after n report rows, room_left report rows w.able k.few);
        levels = λ r i. (reported_kept n report rows w r i).level;
        table = reported n report k.table;
        stands = stands_after n report rows k.table w k.stands (asked n report k.table below);
        numbers = λ t u i m. numbers_reported n report k.table one names below (λ t i u m. k.numbers t u i m) t i u m;
        held = held_reported n report k.table one names below k.held;
      };
      deep = deepest_by (deepest rows + deeper report) (reported_rows n report rows) (λ r i. (reported_kept n report rows w r i).deep);
      owned = own_same n report rows w;
      stands = λ table st asks. stands_after n report rows table w st asks;
    }

pub report_law : (n : ℕ) (report : FamilyReport) (rows : List StampRow) → n < 2 ^ 64 → IsKept rows → AreSound rows → CanReport report rows → AreBefore n rows → IsReported n report rows (reported_rows n report rows)
report_law n report rows fits kept sound able before = grind (arith, nat_tests, left_of_ready)

-- the rows after a report of rows within the limits are within them
pub sound_after : (n : ℕ) (report : FamilyReport) (rows : List StampRow) → n < 2 ^ 64 → IsKept rows → AreSound rows → CanReport report rows → AreBefore n rows → AreSound (reported_rows n report rows)
sound_after n report rows fits kept sound able before = λ x i. (reported_kept n report rows (grind (arith, nat_tests)) x i).fine
