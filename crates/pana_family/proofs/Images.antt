-- Rows and a table of which each member is made of one that there was.
use Rattle.pana_family.proofs.Words.{◌≡◌, ◌≢◌, ℕ, ◌≤◌, ◌<◌, ◌+◌, Bool, true, false, cond, not, ◌||◌, ◌==◌, Option, Some, None, List, [], ◌∷◌, ◌++◌, filter_map, map, length, refl, sym, ap, subst, ◌∙◌}
use Rattle.pana_family.proofs.Words.{inl, inr, arith, cases_Bool, eqb-true, eqb-false, nat_tests, Stamp, StampRow, leave, is_copy, Known, In, AreSame, StandsFor, IsRising, copy_rows, not_from_false}
use Rattle.pana_family.proofs.{Sound.Sound, Sound.fewer, Places.rising_lower}
use Rattle.pana_family.proofs.Members.{in_append, in_filter, to_filter, of_row, of_known, one_known, Holds, all_held, of_sound, same_append}

-- What is made, case by case.

pub one_of : {A : Type 0} (b : Bool) (Q : A → Type 0) (y z x : A) → (b ≡ true → Q y) → (b ≡ false → Q z) → Some (cond b y z) ≡ Some x → Q x
one_of b Q y z x f g e = grind (arith, nat_tests)

pub unless_of : {A : Type 0} (b : Bool) (Q : A → Type 0) (y x : A) → (b ≡ false → Q y) → cond b None (Some y) ≡ Some x → Q x
unless_of b Q y x f e = grind (arith, nat_tests)

pub some_or : {A : Type 0} (b : Bool) (o : Option A) (Q : A → Type 0) (y x : A) → (b ≡ true → Q y) → (b ≡ false → o ≡ Some x → Q x) → cond b (Some y) o ≡ Some x → Q x
some_or b o Q y x f g e = grind (arith, nat_tests)

-- Members.

pub in_made : {A B : Type 0} (f : A → Option B) (xs : List A) (y : B) → In y (filter_map f xs) → (x : A) × In x xs × (f x ≡ Some y)
in_made f [] y i = absurd i
in_made f (x ∷ xs) y i =
    let later : In y (filter_map f xs) → (z : _) × In z (x ∷ xs) × (f z ≡ Some y) = λ j. let m = in_made f xs y j in (m.0, inr m.1, m.2) in
    grind (arith, nat_tests)

pub to_made : {A B : Type 0} (f : A → Option B) (xs : List A) (x : A) (y : B) → In x xs → f x ≡ Some y → In y (filter_map f xs)
to_made f [] x y i e = absurd i
to_made f (z ∷ xs) x y i e = elim i [
  | inl is ↦ grind (arith, nat_tests)
  | inr j ↦ grind (arith, nat_tests, to_made f xs x y j e)
]

pub in_map : {A B : Type 0} (f : A → B) (xs : List A) (y : B) → In y (map f xs) → (x : A) × In x xs × (y ≡ f x)
in_map f [] y i = absurd i
in_map f (x ∷ xs) y i = elim i [ inl e ↦ (x, inl refl, e) | inr j ↦ let m = in_map f xs y j in (m.0, inr m.1, m.2) ]

pub to_map : {A B : Type 0} (f : A → B) (xs : List A) (x : A) → In x xs → In (f x) (map f xs)
to_map f [] x i = absurd i
to_map f (y ∷ xs) x i = elim i [ inl e ↦ inl (ap f e) | inr j ↦ inr (to_map f xs x j) ]

pub in_leave : {A : Type 0} (test : A → Bool) (xs : List A) (y : A) → In y (leave test xs) → In y xs × (test y ≡ false)
in_leave test xs y i = grind (arith, nat_tests, in_filter)

pub stays_in : {A : Type 0} (test : A → Bool) (xs : List A) (y : A) → In y xs → test y ≡ false → In y (leave test xs)
stays_in test xs y i out = to_filter (λ x. not (test x)) xs y i (not_from_false (test y) out)

-- Lists that are made of lists.

pub made_itself : {A : Type 0} (xs : List A) → filter_map Some xs ≡ xs
made_itself [] = refl
made_itself (x ∷ xs) = ap (λ l. x ∷ l) (made_itself xs)

-- where all stays
pub map_made : {A B : Type 0} (f : A → B) (xs : List A) → map f xs ≡ filter_map (λ x. Some (f x)) xs ++ []
map_made f [] = refl
map_made f (x ∷ xs) = ap (λ l. f x ∷ l) (map_made f xs)

-- where some are left out
pub leave_map : {A B : Type 0} (p : B → Bool) (f : A → B) (xs : List A) → leave p (map f xs) ≡ filter_map (λ x. cond (p (f x)) None (Some (f x))) xs
leave_map p f [] = refl
leave_map p f (x ∷ xs) = grind (arith, nat_tests, leave_map p f xs)

-- where some are left out before and some after
pub leave_map_leave : {A B : Type 0} (p : B → Bool) (f : A → B) (q : A → Bool) (xs : List A) → leave p (map f (leave q xs)) ≡ filter_map (λ x. cond (q x) None (cond (p (f x)) None (Some (f x)))) xs
leave_map_leave p f q [] = refl
leave_map_leave p f q (x ∷ xs) = grind (arith, nat_tests, leave_map_leave p f q xs)

pub leave_twice : {A : Type 0} (p q : A → Bool) (xs : List A) → leave p (leave q xs) ≡ leave (λ x. q x || p x) xs
leave_twice p q [] = refl
leave_twice p q (x ∷ xs) = grind (arith, nat_tests, leave_twice p q xs)

-- Rows.

pub rising_made : (low : ℕ) (f : StampRow → Option StampRow) (rows : List StampRow) → ((r x : StampRow) → f r ≡ Some x → x.copy ≡ r.copy) → IsRising low rows → IsRising low (filter_map f rows)
rising_made low f [] keeps up = tt
rising_made low f (r ∷ rows) keeps up = grind (arith, nat_tests, rising_made (r.copy + 1) f rows keeps up.1, rising_lower)

-- there are no more copies
pub copies_made : (f : StampRow → Option StampRow) (rows : List StampRow) → ((r x : StampRow) → f r ≡ Some x → is_copy x.holder ≡ is_copy r.holder) → length (copy_rows (filter_map f rows)) ≤ length (copy_rows rows)
copies_made f [] same = omega arith
copies_made f (r ∷ rows) same = grind (arith, nat_tests, copies_made f rows same)

-- Rows and a table side by side.

-- a row and what is known of it
pub record Alike (r : StampRow) (t : Known) : Type 0 where
  pub copy : r.copy ≡ t.copy
  pub touch : r.touch ≡ t.touch
  pub holder : r.holder ≡ t.holder

pub alike_row : (rows : List StampRow) (table : List Known) → AreSame rows table → (r : StampRow) → In r rows → (t : Known) × In t table × Alike r t
alike_row rows table same r i = grind (arith, nat_tests, of_row)

-- what is made of a row and of what is known of it: a row of P's and what is known of that, alike, or nothing of both
pub data Outcome (P : ℕ → Stamp → List ℕ → Type 0) (o : Option StampRow) (p : Option Known) : Type 0 where
  some : (x : StampRow) (s : Known) → o ≡ Some x → p ≡ Some s → Alike x s → P x.copy x.stamp s.set → Outcome P o p
  none : o ≡ None → p ≡ None → Outcome P o p

same_made : (P : ℕ → Stamp → List ℕ → Type 0) (f : StampRow → Option StampRow) (g : Known → Option Known) (rows : List StampRow) (table : List Known) → AreSame rows table
    → ((r : StampRow) (t : Known) → In r rows → In t table → Alike r t → Outcome P (f r) (g t)) → AreSame (filter_map f rows) (filter_map g table)
same_made P f g (r ∷ rows) (t ∷ table) same each = grind (arith, nat_tests, same_made P f g rows table same.3 (λ q s i j a. each q s (inr i) (inr j) a))
same_made P f g rows table same each = grind (arith, nat_tests)

held_by_outcome : (P : ℕ → Stamp → List ℕ → Type 0) (o : Option StampRow) (p : Option Known) (x : StampRow) (s : Known) → Outcome P o p → o ≡ Some x → p ≡ Some s → P x.copy x.stamp s.set
held_by_outcome P o p x s outcome e f = grind (arith, nat_tests)

-- what f and g make of rows and of a table, what comes behind, and what the copies of all those rows hold
pub record AreImages (f : StampRow → Option StampRow) (g : Known → Option Known) (new : List StampRow) (next : List Known) (rows : List StampRow) (table : List Known) : Type 1 where
  pub P : ℕ → Stamp → List ℕ → Type 0
  pub sound : Sound P
  pub each : (r : StampRow) (t : Known) → In r rows → In t table → Alike r t → Outcome P (f r) (g t)
  pub come : AreSame new next
  pub held : (x : StampRow) (s : Known) → In x new → In s next → P x.copy x.stamp s.set

-- where nothing comes
pub none_come : (f : StampRow → Option StampRow) (g : Known → Option Known) (rows : List StampRow) (table : List Known) (P : ℕ → Stamp → List ℕ → Type 0) → Sound P
    → ((r : StampRow) (t : Known) → In r rows → In t table → Alike r t → Outcome P (f r) (g t)) → AreImages f g [] [] rows table
none_come f g rows table P sound each = record { P = P; sound = sound; each = each; come = tt; held = λ x s i j. absurd i }

pub images_stand : (n : ℕ) (f : StampRow → Option StampRow) (g : Known → Option Known) (new : List StampRow) (next : List Known) (rows : List StampRow) (table : List Known)
    → AreSame rows table → IsRising 0 rows → ((r : StampRow) → In r rows → r.copy < n) → ((r x : StampRow) → f r ≡ Some x → x.copy ≡ r.copy) → ((t s : Known) → g t ≡ Some s → s.copy ≡ t.copy)
    → ((x : StampRow) → In x new → x.copy ≡ n) → AreImages f g new next rows table → StandsFor (filter_map f rows ++ new) (filter_map g table ++ next)
images_stand n f g new next rows table same up before keeps keeps_known numbered im =
    let known : (s : Known) → In s next → s.copy ≡ n = λ s j. grind (arith, nat_tests, of_known) in
    let old : (t : Known) → In t table → t.copy < n = λ t j. grind (arith, nat_tests, of_known) in
    of_sound (filter_map f rows ++ new) (filter_map g table ++ next) (same_append (filter_map f rows) (filter_map g table) new next (same_made im.P f g rows table same im.each) im.come)
    (fewer im.P (Holds (filter_map f rows ++ new) (filter_map g table ++ next))
    (all_held (filter_map f rows ++ new) (filter_map g table ++ next) im.P (λ x s i j e. elim (in_append x (filter_map f rows) new i) [
      | inl a ↦ let m = in_made f rows x a in elim (in_append s (filter_map g table) next j) [
        | inl b ↦
            let k = in_made g table s b in
            let t = alike_row rows table same m.0 m.1 in
            let is : t.0 ≡ k.0 = grind (arith, nat_tests, one_known) in
            held_by_outcome im.P (f m.0) (g k.0) x s (im.each m.0 k.0 m.1 k.1 (subst (Alike m.0) is t.2)) m.2 k.2
        | inr b ↦ grind (arith, nat_tests)
      ]
      | inr a ↦ elim (in_append s (filter_map g table) next j) [
        | inl b ↦ let k = in_made g table s b in absurd (grind (arith, nat_tests))
        | inr b ↦ im.held x s a b
      ]
    ]))
    im.sound)

-- a row and what is known of it where they have this number, and the others as they are
pub one_outcome : (P : ℕ → Stamp → List ℕ → Type 0) (c : ℕ) (x z : StampRow) (s t : Known) → Alike z t → (z.copy ≡ c → Alike x s × P x.copy x.stamp s.set) → (z.copy ≢ c → P z.copy z.stamp t.set)
    → Outcome P (Some (cond (z.copy == c) x z)) (Some (cond (t.copy == c) s t))
one_outcome P c x z s t a here other = elim (cases_Bool (z.copy == c)) [
  | inl e ↦ let m = here (eqb-true z.copy c e) in some x s (ap (λ (b : Bool). Some (cond b x z)) e) (ap (λ (b : Bool). Some (cond b s t)) (ap (λ (k : ℕ). k == c) (sym a.copy) ∙ e)) m.0 m.1
  | inr e ↦ some z t (ap (λ (b : Bool). Some (cond b x z)) e) (ap (λ (b : Bool). Some (cond b s t)) (ap (λ (k : ℕ). k == c) (sym a.copy) ∙ e)) a (other (eqb-false z.copy c e))
]

-- a row stays exactly where what is known of it does
pub stay_outcome : (P : ℕ → Stamp → List ℕ → Type 0) (b d : Bool) (x : StampRow) (s : Known) → b ≡ d → Alike x s → (b ≡ false → P x.copy x.stamp s.set) → Outcome P (cond b None (Some x)) (cond d None (Some s))
stay_outcome P true d x s same a held = none refl (ap (λ (v : Bool). cond v None (Some s)) (sym same))
stay_outcome P false d x s same a held = some x s refl (ap (λ (v : Bool). cond v None (Some s)) (sym same)) a (held refl)
