-- What a report makes of each copy and parcel of a table of sets, and what comes behind them.
use Rattle.pana_family.proofs.Words.{◌≡◌, ◌≢◌, ℕ, ◌≤◌, ◌<◌, Bool, true, false, ◌&&◌, ◌||◌, ◌==◌, cond, not, ◌⊎◌, List, [], ◌∷◌, ◌++◌, filter_map, map, Option, Some, None, refl, sym, ap, subst, ◌∙◌}
use Rattle.pana_family.proofs.Words.{inl, inr, arith, or_cases, or_parts, or_from, cases_Bool, eqb-true, eqb-false, ne_eqb, append-nil, map-append, filter-append, nat_tests, FamilyReport, Duplicate}
use Rattle.pana_family.proofs.Words.{Edit, Reconcile, Merge, Remove, Touch, has, is_within, union, IsSubset, is_held, leave, passed, Known, In, known, knowing, set_in, parcel, registered, AreHeld}
use Rattle.pana_family.proofs.Words.{AreBelow, reported}
use Rattle.std.proofs.lemmas.Simd.{map-map}
use Rattle.pana_family.specs.Table.{ends, settled, without, united, IsHeldBy, bequeathed}
use Rattle.pana_family.proofs.{Unions.union_members, Relations.subset_within}
use Rattle.pana_family.proofs.Members.{in_append, in_left, not_held, One, set_of}
use Rattle.pana_family.proofs.Images.{in_leave, in_made, in_map, leave_map, leave_map_leave, leave_twice, made_itself, map_made, one_of, stays_in, to_made, to_map, unless_of}

-- the copy of this number knows a set
abbrev pub know : ℕ → List ℕ → ℕ → Known → Known
know n both c t = cond (t.copy == c) (knowing both n t) t

abbrev pub know_two : ℕ → List ℕ → ℕ → ℕ → Known → Known
know_two n both a b t = know n both b (know n both a t)

-- the heir holds what the copy held
abbrev pub pass : ℕ → ℕ → Known → Known
pass c h t = record { copy = t.copy; holder = passed c h t.holder; set = t.set; touch = t.touch }

-- what it is, unless it ends
abbrev pub unless : Bool → Known → Option Known
unless b t = cond b None (Some t)

abbrev pub united_known : ℕ → List ℕ → ℕ → ℕ → Known → Option Known
united_known n both a b t = unless (ends a both (know_two n both a b t) || ends b both (know_two n both a b t)) (know_two n both a b t)

-- what becomes of a copy or parcel
abbrev pub made_known : ℕ → FamilyReport → List Known → Known → Option Known
made_known n (Duplicate c) table t = Some t
made_known n (Edit c) table t = Some (cond (t.copy == c) (knowing (n ∷ t.set) n t) t)
made_known n (Reconcile a b) table t = united_known n (union (set_in table a) (set_in table b)) a b t
made_known n (Merge a b) table t = united_known n (union (n ∷ set_in table a) (set_in table b)) a b t
made_known n (Remove c None) table t = unless (t.copy == c || is_held c t.holder) t
made_known n (Remove c (Some h)) table t = cond (t.copy == c) None (unless (ends h (set_in table h) (pass c h t)) (pass c h t))
made_known n (Touch c) table t = Some (cond (t.copy == c) (knowing t.set n t) t)

-- what comes
abbrev pub comes_known : ℕ → FamilyReport → List Known → List Known
comes_known n (Duplicate c) table = known n (set_in table c) n ∷ []
comes_known n (Remove c (Some h)) table = leave (ends h (set_in table h)) (pass c h (parcel n h (set_in table c)) ∷ [])
comes_known n (Remove c None) table = []
comes_known n (Edit c) table = []
comes_known n (Reconcile a b) table = []
comes_known n (Merge a b) table = []
comes_known n (Touch c) table = []

-- a living copy has its number alone
pub record Lives (table : List Known) (c : ℕ) : Type 0 where
  pub by : Known
  pub there : In by table
  pub named : by.copy ≡ c
  pub free : by.holder ≡ None

-- the copies that a report names are different, and live
abbrev pub NamesOf : FamilyReport → List Known → Type 0
NamesOf (Duplicate c) table = Lives table c
NamesOf (Edit c) table = Lives table c
NamesOf (Reconcile a b) table = Lives table a × Lives table b × (a ≢ b)
NamesOf (Merge a b) table = Lives table a × Lives table b × (a ≢ b)
NamesOf (Remove c None) table = Lives table c
NamesOf (Remove c (Some h)) table = Lives table c × Lives table h × (h ≢ c)
NamesOf (Touch c) table = Lives table c

-- The table.

one_map : (f : Known → Known) (table : List Known) → ((t : Known) → (f t).copy ≡ t.copy) → One table → One (map f table)
one_map f table keeps one t s i j e = grind (arith, nat_tests, in_map)

pub know_copy : (n : ℕ) (both : List ℕ) (c : ℕ) (t : Known) → (know n both c t).copy ≡ t.copy
know_copy n both c t = grind (arith, nat_tests)

know_holder : (n : ℕ) (both : List ℕ) (c : ℕ) (t : Known) → (know n both c t).holder ≡ t.holder
know_holder n both c t = grind (arith, nat_tests)

pub know_two_holder : (n : ℕ) (both : List ℕ) (a b : ℕ) (t : Known) → (know_two n both a b t).holder ≡ t.holder
know_two_holder n both a b t = know_holder n both b (know n both a t) ∙ know_holder n both a t

pub know_two_copy : (n : ℕ) (both : List ℕ) (a b : ℕ) (t : Known) → (know_two n both a b t).copy ≡ t.copy
know_two_copy n both a b t = know_copy n both b (know n both a t) ∙ know_copy n both a t

pub know_first : (n : ℕ) (both : List ℕ) (a b : ℕ) (t : Known) → t.copy ≡ a → a ≢ b → know_two n both a b t ≡ knowing both n t
know_first n both a b t e differ = grind (arith, nat_tests)

pub know_second : (n : ℕ) (both : List ℕ) (a b : ℕ) (t : Known) → t.copy ≢ a → t.copy ≡ b → know_two n both a b t ≡ knowing both n t
know_second n both a b t ne e = grind (arith, nat_tests)

pub know_other : (n : ℕ) (both : List ℕ) (a b : ℕ) (t : Known) → t.copy ≢ a → t.copy ≢ b → know_two n both a b t ≡ t
know_other n both a b t na nb = grind (arith, nat_tests)

copy_out : (h : ℕ) (set : List ℕ) (t : Known) → t.holder ≡ None → ends h set t ≡ false
copy_out h set t free = ap (λ (o : Option ℕ). is_held h o && is_within t.set set) free

-- a copy is settled that knows this set
settled_known : (c : ℕ) (set : List ℕ) (table : List Known) (t : Known) → One table → In t table → t.copy ≡ c → t.set ≡ set → settled c table ≡ leave (ends c set) table
settled_known c set table t one i named is = grind (arith, nat_tests, set_of)

united_is : (n : ℕ) (both : List ℕ) (a b : ℕ) (table : List Known) → One table → Lives table a → Lives table b → a ≢ b → settled b (settled a (united n a b both table)) ≡ filter_map (united_known n both a b) table ++ []
united_is n both a b table one first second differ =
    let two : Known → Known = know_two n both a b in
    let all : List Known = united n a b both table in
    let single : One all = grind (arith, nat_tests, one_map, know_copy) in
    let there : (k : Known) → In k table → In (two k) all = λ k l. grind (arith, nat_tests, to_map) in
    let x : In (knowing both n first.by) all = grind (arith, nat_tests) in
    let y : In (knowing both n second.by) all = grind (arith, nat_tests) in
    let rest : List Known = leave (ends a both) all in
    ap (settled b) (grind (arith, nat_tests, settled_known))
    ∙ settled_known b both rest (knowing both n second.by) (λ t s i j. single t s (in_leave (ends a both) all t i).0 (in_leave (ends a both) all s j).0)
    (grind (arith, nat_tests, stays_in, copy_out)) second.named refl
    ∙ leave_twice (ends b both) (ends a both) all ∙ ap (leave (λ t. ends a both t || ends b both t)) (map-map (know n both b) (know n both a) table)
    ∙ leave_map (λ t. ends a both t || ends b both t) two table ∙ sym (append-nil (filter_map (united_known n both a b) table))

-- the heir's set is found where the copy is gone
set_left : (c h : ℕ) (table rest : List Known) → h ≢ c → (t : Known) → In t table → t.copy ≡ h → set_in (map (pass c h) (without c table) ++ rest) h ≡ set_in table h
set_left c h [] rest differ t i named = absurd i
set_left c h (k ∷ table) rest differ t i named = elim (cases_Bool (k.copy == c)) [
  | inl e ↦ elim i [
    | inl is ↦ grind (arith, nat_tests)
    | inr j ↦ grind (arith, nat_tests, set_left c h table rest differ t j named)
  ]
  | inr ne ↦ ap (λ (b : Bool). set_in (map (pass c h) (cond (not b) (k ∷ without c table) (without c table)) ++ rest) h) ne
      ∙ elim (k.copy == h) as (λ b. (k.copy == h) ≡ b → cond b k.set (set_in (map (pass c h) (without c table) ++ rest) h) ≡ cond b k.set (set_in table h)) [
        | true ↦ λ w. refl
        | false ↦ λ w. elim i [ inl is ↦ grind (arith, nat_tests) | inr j ↦ set_left c h table rest differ t j named ]
      ] refl
]

bequeathed_is : (n c h : ℕ) (table : List Known) → Lives table h → h ≢ c → bequeathed n c h table ≡ filter_map (made_known n (Remove c (Some h)) table) table ++ comes_known n (Remove c (Some h)) table
bequeathed_is n c h table heir differ =
    let last : List Known = parcel n h (set_in table c) ∷ [] in
    let over : Known → Bool = ends h (set_in table h) in
    ap (settled h) (map-append (pass c h) (without c table) last)
    ∙ ap (λ (s : List ℕ). leave (ends h s) (map (pass c h) (without c table) ++ map (pass c h) last)) (grind (arith, nat_tests, set_left))
    ∙ filter-append (λ t. not (over t)) (map (pass c h) (without c table)) (map (pass c h) last)
    ∙ ap (λ (l : List Known). l ++ leave over (map (pass c h) last)) (leave_map_leave over (pass c h) (λ t. t.copy == c) table)

-- a report makes of a table what it makes of each member
pub reported_is : (n : ℕ) (report : FamilyReport) (table : List Known) → One table → NamesOf report table → reported n report table ≡ filter_map (made_known n report table) table ++ comes_known n report table
reported_is n (Duplicate c) table one names = ap (λ (l : List Known). l ++ known n (set_in table c) n ∷ []) (sym (made_itself table))
reported_is n (Edit c) table one names = map_made (λ t. cond (t.copy == c) (knowing (n ∷ t.set) n t) t) table
reported_is n (Reconcile a b) table one names = grind (arith, nat_tests, united_is)
reported_is n (Merge a b) table one names = grind (arith, nat_tests, united_is)
reported_is n (Remove c None) table one names =
    let out : Known → Bool = λ t. t.copy == c || is_held c t.holder in
    ap (leave out) (sym (map-itself table)) ∙ leave_map out (λ t. t) table ∙ sym (append-nil (filter_map (λ t. unless (out t) t) table))
  where
    map-itself : (l : List Known) → map (λ t. t) l ≡ l
    map-itself [] = refl
    map-itself (t ∷ l) = ap (λ (m : List Known). t ∷ m) (map-itself l)
reported_is n (Remove c (Some h)) table one names = bequeathed_is n c h table names.1 names.2
reported_is n (Touch c) table one names = map_made (λ t. cond (t.copy == c) (knowing t.set n t) t) table

-- Numbers.

pub set_in_below : (n : ℕ) (table : List Known) (c u : ℕ) → AreBelow n table → has (set_in table c) u ≡ true → u < n
set_in_below n [] c u below m = absurd (cc)
set_in_below n (t ∷ table) c u below m =
    elim (t.copy == c) as (λ b. has (cond b t.set (set_in table c)) u ≡ true → u < n) [
      | true ↦ λ h. below t u (inl refl) h
      | false ↦ λ h. set_in_below n table c u (λ s v j. below s v (inr j)) h
    ] m

either_below : (n u : ℕ) (xs : List ℕ) → (has xs u ≡ true → u < n) → has (n ∷ xs) u ≡ true → u ≤ n
either_below n u xs below m = grind (arith, nat_tests)

both_below : (n u : ℕ) (xs ys : List ℕ) → (has xs u ≡ true → u ≤ n) → (has ys u ≡ true → u ≤ n) → has (union xs ys) u ≡ true → u ≤ n
both_below n u xs ys f g m = grind (arith, nat_tests, union_members)

-- no number above its row's touch
abbrev pub IsTouched : Known → Type 0
IsTouched t = (u : ℕ) → has t.set u ≡ true → u ≤ t.touch

united_touched : (n : ℕ) (both : List ℕ) (a b : ℕ) (t s : Known) → ((u : ℕ) → has both u ≡ true → u ≤ n) → IsTouched t → united_known n both a b t ≡ Some s → IsTouched s
united_touched n both a b t s known was is = grind (arith, nat_tests)

made_touched : (n : ℕ) (report : FamilyReport) (table : List Known) (t s : Known) → AreBelow n table → In t table → IsTouched t → made_known n report table t ≡ Some s → IsTouched s
made_touched n (Reconcile a b) table t s below i was is =
    united_touched n (union (set_in table a) (set_in table b)) a b t s (λ u m. both_below n u (set_in table a) (set_in table b) (λ h. omega (arith, set_in_below n table a u below h)) (λ h. omega (arith, set_in_below n table b u below h)) m) was is
made_touched n (Merge a b) table t s below i was is =
    united_touched n (union (n ∷ set_in table a) (set_in table b)) a b t s
    (λ u m. both_below n u (n ∷ set_in table a) (set_in table b) (λ h. either_below n u (set_in table a) (set_in_below n table a u below) h) (λ h. omega (arith, set_in_below n table b u below h)) m) was is
made_touched n report table t s below i was is = grind (arith, nat_tests)

pub numbers_reported : (n : ℕ) (report : FamilyReport) (table : List Known) → One table → NamesOf report table → AreBelow n table → ((t : Known) → In t table → IsTouched t) → (t : Known) → In t (reported n report table) → IsTouched t
numbers_reported n report table one names below was t i =
    elim (in_append t (filter_map (made_known n report table) table) (comes_known n report table) (subst (In t) (reported_is n report table one names) i)) [
      | inl j ↦ let m = in_made (made_known n report table) table t j in made_touched n report table m.0 t below m.1 (was m.0 m.1) m.2
      | inr j ↦ last report j
    ]
  where
    last : (report : FamilyReport) → In t (comes_known n report table) → IsTouched t
    last (Duplicate c) j u m = elim j [ inl e ↦ omega (arith, set_in_below n table c u below (ap (λ (w : Known). has w.set u) (sym e) ∙ m), ap (λ (w : Known). w.touch) e) | inr never ↦ absurd never ]
    last (Remove c (Some h)) j u m = elim (in_leave (ends h (set_in table h)) (pass c h (parcel n h (set_in table c)) ∷ []) t j).0 [
      | inl e ↦ omega (arith, set_in_below n table c u below (ap (λ (w : Known). has w.set u) (sym e) ∙ m), ap (λ (w : Known). w.touch) e)
      | inr never ↦ absurd never
    ]
    last report j u m = absurd j

-- Who holds the parcels.

-- whose a parcel was that is held now
was_held : (c h k : ℕ) (o : Option ℕ) → passed c h o ≡ Some k → (m : ℕ) × (o ≡ Some m) × (((m ≡ c) × (k ≡ h)) ⊎ ((m ≢ c) × (k ≡ m)))
was_held c h k o e = grind (arith, nat_tests)

pub passed_heir : (c h : ℕ) → passed c h (Some h) ≡ Some h
passed_heir c h = grind (arith, nat_tests)

-- a copy of the table that has not all of the set, and what becomes of it
record Lacks (f : Known → Option Known) (table : List Known) (h : ℕ) (set : List ℕ) : Type 0 where
  old : Known
  there : In old table
  now : Known
  is : f old ≡ Some now
  named : now.copy ≡ h
  free : now.holder ≡ None
  lacks : ¬ IsSubset set now.set

no_holder : (o : Option ℕ) (h : ℕ) → o ≡ None → o ≡ Some h → ⊥
no_holder o h none some = absurd (cc)

-- where a parcel doesn't end its holder lacks some of its set
not_ended : (h : ℕ) (set : List ℕ) (t : Known) → t.holder ≡ Some h → ends h set t ≡ false → ¬ IsSubset t.set set
not_ended h set t held out within = grind (arith, nat_tests, subset_within)

-- the holder from before holds the parcel still
same_holder : (n : ℕ) (c : ℕ) (f : Known → Known) (table : List Known) (t : Known) (h : ℕ) → IsHeldBy table h t.set → ((k : Known) → (f k).copy ≡ k.copy) → ((k : Known) → (f k).holder ≡ k.holder)
    → ((k : Known) → In k table → IsSubset t.set (f k).set → IsSubset t.set k.set) → Lacks (λ k. Some (cond (k.copy == c) (f k) k)) table h t.set
same_holder n c f table t h by copies holders fewer = record {
  old = by.by;
  there = by.living;
  now = cond (by.by.copy == c) (f by.by) by.by;
  is = refl;
  named = elim (by.by.copy == c) as (λ b. (cond b (f by.by) by.by).copy ≡ h) [ true ↦ copies by.by ∙ by.named | false ↦ by.named ];
  free = elim (by.by.copy == c) as (λ b. (cond b (f by.by) by.by).holder ≡ None) [ true ↦ holders by.by ∙ by.free | false ↦ by.free ];
  lacks = elim (by.by.copy == c) as (λ b. ¬ IsSubset t.set (cond b (f by.by) by.by).set) [ true ↦ λ w. by.lacks (fewer by.by by.living w) | false ↦ by.lacks ];
}

united_holder : (n : ℕ) (both : List ℕ) (a b : ℕ) (table : List Known) (t : Known) (h : ℕ) → a ≢ b → IsHeldBy table h t.set → t.holder ≡ Some h → ends a both t ≡ false → ends b both t ≡ false → Lacks (united_known n both a b) table h t.set
united_holder n both a b table t h differ by held first second = record {
  old = by.by;
  there = by.living;
  now = know_two n both a b by.by;
  is = ap (λ (v : Bool). unless v (know_two n both a b by.by)) (or_from (ends a both now) (ends b both now) (copy_out a both now free) (copy_out b both now free));
  named = know_two_copy n both a b by.by ∙ by.named;
  free = free;
  lacks = elim (cases_Bool (by.by.copy == a)) [
    | inl e ↦ let is : by.by.copy ≡ a = eqb-true by.by.copy a e in
        subst (λ (k : Known). ¬ IsSubset t.set k.set) (sym (know_first n both a b by.by is differ)) (not_ended a both t (held ∙ ap Some (sym by.named ∙ is)) first)
    | inr na ↦ elim (cases_Bool (by.by.copy == b)) [
      | inl e ↦ let is : by.by.copy ≡ b = eqb-true by.by.copy b e in
          subst (λ (k : Known). ¬ IsSubset t.set k.set) (sym (know_second n both a b by.by (eqb-false by.by.copy a na) is)) (not_ended b both t (held ∙ ap Some (sym by.named ∙ is)) second)
      | inr nb ↦ subst (λ (k : Known). ¬ IsSubset t.set k.set) (sym (know_other n both a b by.by (eqb-false by.by.copy a na) (eqb-false by.by.copy b nb))) by.lacks
    ]
  ];
}
  where
    now : Known
    now = know_two n both a b by.by

    free : (know_two n both a b by.by).holder ≡ None
    free = know_two_holder n both a b by.by ∙ by.free

-- another copy stays as it was
passing_on : (n c h : ℕ) (table : List Known) (k : Known) (set : List ℕ) → In k table → k.copy ≢ c → k.holder ≡ None → {m : ℕ} → k.copy ≡ m → ¬ IsSubset set k.set → Lacks (made_known n (Remove c (Some h)) table) table m set
passing_on n c h table k set i ne free named lacks = grind (arith, nat_tests, ne_eqb, copy_out)

-- the heir of a copy
heir_lacks : (n c h : ℕ) (table : List Known) (set : List ℕ) → One table → Lives table h → h ≢ c → ¬ IsSubset set (set_in table h) → Lacks (made_known n (Remove c (Some h)) table) table h set
heir_lacks n c h table set one heir differ lacks = grind (arith, nat_tests, passing_on, set_of)

-- a parcel that there was, once two copies know the same
united_held : (n : ℕ) (both : List ℕ) (a b : ℕ) (table : List Known) → One table → Lives table a → Lives table b → a ≢ b → AreHeld table
    → (t s : Known) (h : ℕ) → In t table → united_known n both a b t ≡ Some s → s.holder ≡ Some h → Lacks (united_known n both a b) table h s.set
united_held n both a b table one first second differ all t s h i is held =
    let two : Known = know_two n both a b t in
    let not_copy : t.holder ≡ Some h → (c : ℕ) → Lives table c → t.copy ≢ c = λ held c l e. no_holder t.holder h (ap (λ (w : Known). w.holder) (one t l.by i l.there (e ∙ sym l.named)) ∙ l.free) held in
    unless_of (ends a both two || ends b both two) (λ (s : Known). s.holder ≡ Some h → Lacks (united_known n both a b) table h s.set) two s
    (λ stays held.
    let was : t.holder ≡ Some h = sym (know_two_holder n both a b t) ∙ held in
    let same : two ≡ t = know_other n both a b t (not_copy was a first) (not_copy was b second) in
    let out = or_parts (ends a both two) (ends b both two) stays in
    subst (λ (k : Known). Lacks (united_known n both a b) table h k.set) (sym same)
    (united_holder n both a b table t h differ (all t h i was) was (ap (ends a both) (sym same) ∙ out.0) (ap (ends b both) (sym same) ∙ out.1))) is held

-- a parcel that there was, and what becomes of it
parcel_held : (n : ℕ) (report : FamilyReport) (table : List Known) → One table → NamesOf report table → AreBelow n table → AreHeld table
    → (t s : Known) (h : ℕ) → In t table → made_known n report table t ≡ Some s → s.holder ≡ Some h → Lacks (made_known n report table) table h s.set
parcel_held n (Duplicate c) table one names below all t s h i is held =
    one_of true (λ (s : Known). s.holder ≡ Some h → Lacks Some table h s.set) t t s (λ e held. keep held) (λ e held. keep held) is held
  where
    keep : t.holder ≡ Some h → Lacks Some table h t.set
    keep held = let by = all t h i held in record { old = by.by; there = by.living; now = by.by; is = refl; named = by.named; free = by.free; lacks = by.lacks }
parcel_held n (Edit c) table one names below all t s h i is held =
    let f : Known → Known = λ k. knowing (n ∷ k.set) n k in
    one_of (t.copy == c) (λ (s : Known). s.holder ≡ Some h → Lacks (made_known n (Edit c) table) table h s.set) (f t) t s
    (λ e held. absurd (no_holder t.holder h (ap (λ (w : Known). w.holder) (one t names.by i names.there (eqb-true t.copy c e ∙ sym names.named)) ∙ names.free) held))
    (λ e held. same_holder n c f table t h (all t h i held) (λ k. refl) (λ k. refl) (λ k j w u m. elim (or_cases (n == u) (has k.set u) (w u m)) [
      | inl is ↦ absurd (omega (arith, below t u i m, eqb-true n u is))
      | inr had ↦ had
    ])) is held
parcel_held n (Reconcile a b) table one names below all t s h i is held = united_held n (union (set_in table a) (set_in table b)) a b table one names.0 names.1 names.2 all t s h i is held
parcel_held n (Merge a b) table one names below all t s h i is held = united_held n (union (n ∷ set_in table a) (set_in table b)) a b table one names.0 names.1 names.2 all t s h i is held
parcel_held n (Remove c None) table one names below all t s h i is held =
    let out : Known → Bool = λ k. k.copy == c || is_held c k.holder in
    unless_of (out t) (λ (s : Known). s.holder ≡ Some h → Lacks (made_known n (Remove c None) table) table h s.set) t s
    (λ stays held.
    let by = all t h i held in
    let other : (h == c) ≡ false = sym (ap (is_held c) held) ∙ (or_parts (t.copy == c) (is_held c t.holder) stays).1 in record {
      old = by.by;
      there = by.living;
      now = by.by;
      is = ap (λ (v : Bool). unless v by.by) (or_from (by.by.copy == c) (is_held c by.by.holder) (ap (λ (m : ℕ). m == c) by.named ∙ other) (not_held c by.by.holder by.free));
      named = by.named;
      free = by.free;
      lacks = by.lacks;
    }) is held
parcel_held n (Remove c (Some h')) table one names below all t s h i is held =
    elim (t.copy == c) as (λ v. cond v None (unless (ends h' (set_in table h') (pass c h' t)) (pass c h' t)) ≡ Some s → Lacks (made_known n (Remove c (Some h')) table) table h s.set) [
      | true ↦ λ e. absurd (cc e)
      | false ↦ λ e. unless_of (ends h' (set_in table h') (pass c h' t)) (λ (s : Known). s.holder ≡ Some h → Lacks (made_known n (Remove c (Some h')) table) table h s.set) (pass c h' t) s
          (λ stays held. given stays held (was_held c h' h t.holder held)) e held
    ] is
  where
    to_heir : ends h' (set_in table h') (pass c h' t) ≡ false → passed c h' t.holder ≡ Some h → h ≡ h' → Lacks (made_known n (Remove c (Some h')) table) table h t.set
    to_heir stays held same = subst (λ (m : ℕ). Lacks (made_known n (Remove c (Some h')) table) table m t.set) (sym same)
        (heir_lacks n c h' table t.set one names.1 names.2 (not_ended h' (set_in table h') (pass c h' t) (held ∙ ap Some same) stays))

    given : ends h' (set_in table h') (pass c h' t) ≡ false → passed c h' t.holder ≡ Some h → (m : ℕ) × (t.holder ≡ Some m) × (((m ≡ c) × (h ≡ h')) ⊎ ((m ≢ c) × (h ≡ m))) → Lacks (made_known n (Remove c (Some h')) table) table h t.set
    given stays held (m, was, how) = elim how [
      | inl to ↦ to_heir stays held to.1
      | inr other ↦ let by = all t m i was in passing_on n c h' table by.by t.set by.living (λ e. other.0 (sym by.named ∙ e)) by.free (by.named ∙ sym other.1) by.lacks
    ]
parcel_held n (Touch c) table one names below all t s h i is held =
    let f : Known → Known = λ k. knowing k.set n k in
    one_of (t.copy == c) (λ (s : Known). s.holder ≡ Some h → Lacks (made_known n (Touch c) table) table h s.set) (f t) t s
    (λ e held. absurd (no_holder t.holder h (ap (λ (w : Known). w.holder) (one t names.by i names.there (eqb-true t.copy c e ∙ sym names.named)) ∙ names.free) held))
    (λ e held. same_holder n c f table t h (all t h i held) (λ k. refl) (λ k. refl) (λ k j w. w)) is held

pub held_reported : (n : ℕ) (report : FamilyReport) (table : List Known) → One table → NamesOf report table → AreBelow n table → AreHeld table → AreHeld (reported n report table)
held_reported n report table one names below all = subst AreHeld (sym (reported_is n report table one names)) (λ t h i e. elim (in_append t (filter_map (made_known n report table) table) (comes_known n report table) i) [
  | inl j ↦ let m = in_made (made_known n report table) table t j in to report (parcel_held n report table one names below all m.0 t h m.1 m.2 e)
  | inr j ↦ last report names t h j e
])
  where
    to : (report : FamilyReport) {h : ℕ} {set : List ℕ} → Lacks (made_known n report table) table h set → IsHeldBy (filter_map (made_known n report table) table ++ comes_known n report table) h set
    to report l = let f : Known → Option Known = made_known n report table in
        record { by = l.now; living = in_left l.now (filter_map f table) (comes_known n report table) (to_made f table l.old l.now l.there l.is); named = l.named; free = l.free; lacks = l.lacks }

    last : (report : FamilyReport) → NamesOf report table → (t : Known) (h : ℕ) → In t (comes_known n report table) → t.holder ≡ Some h → IsHeldBy (filter_map (made_known n report table) table ++ comes_known n report table) h t.set
    last (Duplicate c) names t h j e = elim j [ inl is ↦ absurd (no_holder t.holder h (ap (λ (w : Known). w.holder) is) e) | inr never ↦ absurd never ]
    last (Remove c (Some k)) names t h j e =
        let own : Known = pass c k (parcel n k (set_in table c)) in
        let m = in_leave (ends k (set_in table k)) (own ∷ []) t j in
        elim m.0 [
          | inl is ↦
              let mine : own.holder ≡ Some h = ap (λ (w : Known). w.holder) (sym is) ∙ e in
              let same : k ≡ h = cc (mine, passed_heir c k) in
              subst (λ (i : ℕ). IsHeldBy (filter_map (made_known n (Remove c (Some k)) table) table ++ comes_known n (Remove c (Some k)) table) i t.set) same
              (to (Remove c (Some k)) (heir_lacks n c k table t.set one names.1 names.2 (not_ended k (set_in table k) t (e ∙ ap Some (sym same)) m.1)))
          | inr never ↦ absurd never
        ]
    last report names t h j e = absurd j

pub held_registered : (n : ℕ) → AreHeld (registered n)
held_registered n t k i e = grind (arith, nat_tests)
