-- Lines that are taken up one after another.
use Rattle.std.proofs.Common.{◌≡◌, ◌⊎◌, inl, inr, ⊎_elim, ℕ, ◌+◌, ◌<◌, Bool, true, false, ◌||◌, not, List, [], ◌∷◌, ◌++◌, length, take, drop, get_or, refl, sym, ◌∙◌, ap, subst, arith, append_assoc}
use Rattle.std.specs.List.{list_any}
use Rattle.std.specs.Borrow.{Bor}
use Rattle.std.proofs.lemmas.List.{map-append, take-append-drop}
use Rattle.std.proofs.lemmas.List.Folds.{list_any-append}
use Rattle.pana_log.specs.Lines.{text_of}
use Rattle.pana_log.proofs.Settled.{text_of-append}
use Rattle.pana_wire.specs.Lines.{texts}
use Rattle.pana_wire.proofs.Said.{texts_next, texts_before}
use Rattle.pana_seal.specs.declared.sealer.Sealer.{Sealer}
use Rattle.pana_seal.specs.Seal.{Covers, is_marked, is_sealed, demands_seals, is_due, IsIntact, IsDamagedAt}

empty_not : {P : Type 0} {A : Type 0} (ys : List A) (y : A) (zs : List A) → [] ≡ ys ++ y ∷ zs → P
empty_not [] y zs is = absurd (cc)
empty_not (w ∷ ys) y zs is = absurd (cc)

-- where a list with one more at its end is parted, the last one is it, or those before it were parted so
pub last_or_before : {A : Type 0} (xs : List A) (x : A) (ys : List A) (y : A) (zs : List A) → xs ++ x ∷ [] ≡ ys ++ y ∷ zs → ((ws : List A) × (xs ≡ ys ++ y ∷ ws)) ⊎ ((ys ≡ xs) × (y ≡ x))
last_or_before [] x [] y zs is = inr (refl, cc)
last_or_before {A} [] x (w ∷ ys) y zs is = let rest : [] ≡ ys ++ y ∷ zs = cc in empty_not ys y zs rest
last_or_before {A} (v ∷ xs) x [] y zs is = let same : v ≡ y = cc in inl (xs, ap (λ (a : A). a ∷ xs) same)
last_or_before {A} (v ∷ xs) x (w ∷ ys) y zs is =
    let same : v ≡ w = cc in
    let rest : xs ++ x ∷ [] ≡ ys ++ y ∷ zs = cc in
    ⊎_elim
    (λ before. inl (before.0, ap (λ (l : List A). v ∷ l) before.1 ∙ ap (λ (a : A). a ∷ (ys ++ y ∷ before.0)) same))
    (λ last. inr (ap (λ (l : List A). w ∷ l) last.0 ∙ ap (λ (a : A). a ∷ xs) (sym same), last.1))
    (last_or_before xs x ys y zs rest)

pub intact_none : IsIntact []
intact_none earlier line later whole due = empty_not earlier line later whole

-- one line more
pub intact_more : (ls : List (List ℕ)) (l : List ℕ) → IsIntact ls → (is_due ls l ≡ true → is_sealed (text_of ls) l ≡ true) → IsIntact (ls ++ l ∷ [])
intact_more ls l are last earlier line later whole due =
    ⊎_elim
    (λ before. are earlier line before.0 before.1 due)
    (λ at.
    let here : is_due ls l ≡ true = subst (λ (e : List (List ℕ)). is_due e l ≡ true) at.0 (subst (λ (x : List ℕ). is_due earlier x ≡ true) at.1 due) in
    subst (λ (e : List (List ℕ)). is_sealed (text_of e) line ≡ true) (sym at.0) (subst (λ (x : List ℕ). is_sealed (text_of ls) x ≡ true) (sym at.1) (last here)))
    (last_or_before ls l earlier line later whole)

pub text_more : (ls : List (List ℕ)) (l : List ℕ) → text_of (ls ++ l ∷ []) ≡ (text_of ls ++ l) ++ 10 ∷ []
text_more ls l = text_of-append ls (l ∷ []) ∙ sym (append_assoc (text_of ls) l (10 ∷ []))

or_assoc : (a b c : Bool) → ((a || b) || c) ≡ (a || (b || c))
or_assoc true b c = refl
or_assoc false b c = refl

or_none : (a : Bool) → (a || false) ≡ a
or_none true = refl
or_none false = refl

any_more : (f : List ℕ → Bool) (ls : List (List ℕ)) (l : List ℕ) → list_any f (ls ++ l ∷ []) ≡ (list_any f ls || f l)
any_more f [] l = or_none (f l)
any_more f (x ∷ ls) l = ap (λ (b : Bool). f x || b) (any_more f ls l) ∙ sym (or_assoc (f x) (list_any f ls) (f l))

-- a line at an index is taken up
pub covers_next : (lines : List (Bor (List ℕ))) (index : ℕ) (d : Bor (List ℕ)) (sealer : Sealer) → index < length lines → Covers sealer ((text_of (texts (take index lines)) ++ (get_or lines index d).now) ++ 10 ∷ []) → Covers sealer (text_of (texts (take (index + 1) lines)))
covers_next lines index d sealer within covers =
    subst (λ (ls : List (List ℕ)). Covers sealer (text_of ls)) (sym (texts_next lines index d within))
    (subst (Covers sealer) (sym (text_more (texts (take index lines)) (get_or lines index d).now)) covers)

pub intact_next : (lines : List (Bor (List ℕ))) (index : ℕ) (d : Bor (List ℕ)) → index < length lines → IsIntact (texts (take index lines))
    → (is_due (texts (take index lines)) (get_or lines index d).now ≡ true → is_sealed (text_of (texts (take index lines))) (get_or lines index d).now ≡ true) → IsIntact (texts (take (index + 1) lines))
intact_next lines index d within are last =
    subst IsIntact (sym (texts_next lines index d within)) (intact_more (texts (take index lines)) (get_or lines index d).now are last)

pub due_next : (lines : List (Bor (List ℕ))) (index : ℕ) (d : Bor (List ℕ)) (is_due demands : Bool) → index < length lines → is_due ≡ list_any demands_seals (texts (take index lines)) → demands ≡ demands_seals (get_or lines index d).now
    → (is_due || demands) ≡ list_any demands_seals (texts (take (index + 1) lines))
due_next lines index d is_due demands within so_far is =
    ap (λ (b : Bool). b || demands) so_far
    ∙ ap (λ (b : Bool). list_any demands_seals (texts (take index lines)) || b) is
    ∙ sym (any_more demands_seals (texts (take index lines)) (get_or lines index d).now)
    ∙ ap (list_any demands_seals) (sym (texts_next lines index d within))

-- a line that is good is sealed where it is due, and one that isn't good is due and not sealed
pub good_sealed : (due marked sealed : Bool) → true ≡ (not (due || marked) || sealed) → (due || marked) ≡ true → sealed ≡ true
good_sealed true marked sealed good is = sym good
good_sealed false true sealed good is = sym good
good_sealed false false sealed good is = absurd (cc)

pub bad_due : (due marked sealed : Bool) → false ≡ (not (due || marked) || sealed) → ((due || marked) ≡ true) × (sealed ≡ false)
bad_due true marked sealed bad = (refl, sym bad)
bad_due false true sealed bad = (refl, sym bad)
bad_due false false sealed bad = absurd (cc)

-- the line at an index is the first damaged one
pub damaged_at : (lines : List (Bor (List ℕ))) (index : ℕ) (d : Bor (List ℕ)) → index < length lines → IsIntact (texts (take index lines))
    → is_due (texts (take index lines)) (get_or lines index d).now ≡ true → is_sealed (text_of (texts (take index lines))) (get_or lines index d).now ≡ false → IsDamagedAt (texts lines) (index + 1)
damaged_at lines index d within are due broken = record {
  earlier = texts (take index lines);
  line = (get_or lines index d).now;
  later = texts (drop (index + 1) lines);
  whole = ap texts (sym (take-append-drop (index + 1) lines)) ∙ map-append (λ line. line.now) (take (index + 1) lines) (drop (index + 1) lines)
      ∙ ap (λ l. l ++ texts (drop (index + 1) lines)) (texts_next lines index d within)
      ∙ append_assoc (texts (take index lines)) ((get_or lines index d).now ∷ []) (texts (drop (index + 1) lines));
  at = let at = texts_before lines index within in omega (arith, at);
  before = are;
  due = due;
  broken = broken;
}

pub either_like : (a b m : Bool) → a ≡ b → (a || m) ≡ true → (b || m) ≡ true
either_like a b m same is = ap (λ (x : Bool). x || m) (sym same) ∙ is

-- Lines of which none demands seals.

either_right : (a b : Bool) → (a || b) ≡ false → b ≡ false
either_right false b none = none
either_right true b none = absurd (cc)

either_left : (a b : Bool) → (a || b) ≡ false → a ≡ false
either_left false b none = refl
either_left true b none = absurd (cc)

either_none : (a b : Bool) → a ≡ false → b ≡ false → (a || b) ≡ false
either_none a b one two = rw (one, two) refl

-- what is marked demands seals itself
due_demands : (earlier : List (List ℕ)) (line : List ℕ) (later : List (List ℕ)) → list_any demands_seals (earlier ++ line ∷ later) ≡ false → is_due earlier line ≡ false
due_demands earlier line later none =
    let parts : (list_any demands_seals earlier || (demands_seals line || list_any demands_seals later)) ≡ false = sym (list_any-append demands_seals earlier (line ∷ later)) ∙ none in
    let own : demands_seals line ≡ false = either_left (demands_seals line) _ (either_right (list_any demands_seals earlier) _ parts) in
    either_none _ _ (either_left (list_any demands_seals earlier) _ parts) (either_right _ (is_marked line) own)

pub intact_undemanded : (lines : List (List ℕ)) → list_any demands_seals lines ≡ false → IsIntact lines
intact_undemanded lines none earlier line later whole due =
    let never : is_due earlier line ≡ false = due_demands earlier line later (subst (λ (ls : List (List ℕ)). list_any demands_seals ls ≡ false) whole none) in
    absurd (cc)
