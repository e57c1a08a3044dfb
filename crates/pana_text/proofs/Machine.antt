-- The grammar byte by byte: what may follow what has been read, as a list of parts that are still to come.
use Rattle.std.proofs.Common.{◌≡◌, ℕ, Bool, true, false, cond, List, [], ◌∷◌, ◌++◌, get_or, Option, Some, None, refl, sym, ap, ◌∙◌, subst, arith, inl, inr}
use Rattle.std.specs.Prelude.{◌==◌}
use Rattle.std.proofs.lemmas.Bool.{eqb-true, eqb-false, ne_eqb}
use Rattle.pana_id.specs.Id.{Id, zero_id, one_id, pair}
use Rattle.pana_text.specs.Text.{in_two, id_text}
use Rattle.pana_text.specs.Grammar.{is_digit, IsNumber, Spelled, leaf, fork, HasNumbers, spelling}
use Rattle.pana_text.proofs.Numbers.{AreDigits, digit-from, digits-parts, digit_or_zero}
use Rattle.pana_text.proofs.Appends.{two_parts, three_parts}

-- a property of a test's two results
pub by_test : {A : Type 0} (P : A → Type 0) (t : Bool) (x y : A) → (t ≡ true → P x) → (t ≡ false → P y) → P (cond t x y)
by_test P true x y f g = f refl
by_test P false x y f g = g refl

-- the byte that ends a part
pub data Mark : Type 0 where
  comma : Mark
  close : Mark

abbrev pub byte_of : Mark → ℕ
byte_of comma = 44
byte_of close = 41

-- a stamp, a mark alone, or a tree, a number or the rest of its digits with the mark after it
pub data Part : Type 0 where
  stamp : Part
  mark : Mark → Part
  id : Mark → Part
  event : Mark → Part
  number : Mark → Part
  digits : Mark → Part

-- the texts of parts in a row
abbrev pub Words : List Part → List ℕ → Type 0
Words [] text = text ≡ []
Words (stamp ∷ parts) text = (i : Id) × (s : Spelled) × (u : List ℕ) × HasNumbers s × (text ≡ in_two (id_text i) (spelling s) ++ u) × Words parts u
Words (mark m ∷ parts) text = (u : List ℕ) × (text ≡ byte_of m ∷ u) × Words parts u
Words (id m ∷ parts) text = (i : Id) × (u : List ℕ) × (text ≡ id_text i ++ (byte_of m ∷ u)) × Words parts u
Words (event m ∷ parts) text = (s : Spelled) × (u : List ℕ) × HasNumbers s × (text ≡ spelling s ++ (byte_of m ∷ u)) × Words parts u
Words (number m ∷ parts) text = (ds : List ℕ) × (u : List ℕ) × IsNumber ds × (text ≡ ds ++ (byte_of m ∷ u)) × Words parts u
Words (digits m ∷ parts) text = (ds : List ℕ) × (u : List ℕ) × AreDigits ds × (text ≡ ds ++ (byte_of m ∷ u)) × Words parts u

-- some text of the parts
pub some_words : (parts : List Part) → (text : List ℕ) × Words parts text
some_words [] = ([], refl)
some_words (stamp ∷ parts) = let (u, h) = some_words parts in (in_two (48 ∷ []) (48 ∷ []) ++ u, (zero_id, leaf (48 ∷ []), u, inl (refl, refl), refl, h))
some_words (mark m ∷ parts) = let (u, h) = some_words parts in (byte_of m ∷ u, (u, refl, h))
some_words (id m ∷ parts) = let (u, h) = some_words parts in (48 ∷ byte_of m ∷ u, (zero_id, u, refl, h))
some_words (event m ∷ parts) = let (u, h) = some_words parts in (48 ∷ byte_of m ∷ u, (leaf (48 ∷ []), u, inl (refl, refl), refl, h))
some_words (number m ∷ parts) = let (u, h) = some_words parts in (48 ∷ byte_of m ∷ u, (48 ∷ [], u, inl (refl, refl), refl, h))
some_words (digits m ∷ parts) = let (u, h) = some_words parts in (byte_of m ∷ u, ([], u, refl, refl, h))

abbrev pub number_step : Mark → ℕ → Option (List Part)
number_step m b = cond (b == 48) (Some (mark m ∷ [])) (cond (is_digit b) (Some (digits m ∷ [])) None)

-- what is still to come of a part after the byte, where it may begin with that
abbrev pub step : Part → ℕ → Option (List Part)
step stamp b = cond (b == 40) (Some (id comma ∷ event close ∷ [])) None
step (mark m) b = cond (b == byte_of m) (Some []) None
step (id m) b = cond (b == 48) (Some (mark m ∷ [])) (cond (b == 49) (Some (mark m ∷ [])) (cond (b == 40) (Some (id comma ∷ id close ∷ mark m ∷ [])) None))
step (event m) b = cond (b == 40) (Some (number comma ∷ event comma ∷ event close ∷ mark m ∷ [])) (number_step m b)
step (number m) b = number_step m b
step (digits m) b = cond (is_digit b) (Some (digits m ∷ [])) (cond (b == byte_of m) (Some []) None)

cons : (b c : ℕ) (v w : List ℕ) → b ≡ c → v ≡ w → b ∷ v ≡ c ∷ w
cons b c v w p q = ap (λ (x : ℕ). x ∷ v) p ∙ ap (λ (u : List ℕ). c ∷ u) q

-- ---- a text of what is still to come makes one of the part

abbrev pub Sound : Part → List Part → ℕ → Option (List Part) → Type 0
Sound p parts b None = Unit {0}
Sound p parts b (Some new) = (w : List ℕ) → Words (new ++ parts) w → Words (p ∷ parts) (b ∷ w)

sound_number : (m : Mark) (parts : List Part) (b : ℕ) → Sound (number m) parts b (number_step m b)
sound_number m parts b =
    by_test (Sound (number m) parts b) (b == 48) (Some (mark m ∷ [])) (cond (is_digit b) (Some (digits m ∷ [])) None)
    (λ e w (u, p, h). (48 ∷ [], u, inl (refl, refl), cons b 48 w (byte_of m ∷ u) (eqb-true b 48 e) p, h))
    (λ e. by_test (Sound (number m) parts b) (is_digit b) (Some (digits m ∷ [])) None
    (λ d w (ds, u, is, p, h). let range = digits-parts b [] (rw d refl) in (b ∷ ds, u, inr (omega (arith, range.0, eqb-false b 48 e), range.1, is), ap (λ (v : List ℕ). b ∷ v) p, h)) (λ _. tt))

as_event : (m : Mark) (parts : List Part) (b : ℕ) (o : Option (List Part)) → Sound (number m) parts b o → Sound (event m) parts b o
as_event m parts b None h = tt
as_event m parts b (Some new) h = λ w k. let (ds, u, is, p, rest) = h w k in (leaf ds, u, is, p, rest)

pub sound : (p : Part) (parts : List Part) (b : ℕ) → Sound p parts b (step p b)
sound stamp parts b =
    by_test (Sound stamp parts b) (b == 40) (Some (id comma ∷ event close ∷ [])) None
    (λ e w (i, u, p, (s, v, is, q, h)). (i, s, v, is, cons b 40 w _ (eqb-true b 40 e) (p ∙ ap (λ (x : List ℕ). id_text i ++ (44 ∷ x)) q) ∙ sym (two_parts (id_text i) (spelling s) v), h)) (λ _. tt)
sound (mark m) parts b =
    by_test (Sound (mark m) parts b) (b == byte_of m) (Some []) None (λ e w h. (w, ap (λ (c : ℕ). c ∷ w) (eqb-true b (byte_of m) e), h)) (λ _. tt)
sound (id m) parts b =
    let P = Sound (id m) parts b in
    let opened : Option (List Part) = cond (b == 40) (Some (id comma ∷ id close ∷ mark m ∷ [])) None in
    by_test P (b == 48) (Some (mark m ∷ [])) (cond (b == 49) (Some (mark m ∷ [])) opened) (λ e w (u, p, h). (zero_id, u, cons b 48 w (byte_of m ∷ u) (eqb-true b 48 e) p, h))
    (λ _. by_test P (b == 49) (Some (mark m ∷ [])) opened (λ e w (u, p, h). (one_id, u, cons b 49 w (byte_of m ∷ u) (eqb-true b 49 e) p, h))
    (λ _. by_test P (b == 40) (Some (id comma ∷ id close ∷ mark m ∷ [])) None
    (λ e w (l, u, p, (r, v, q, (t, k, h))). (
      pair l r,
      t,
      cons b 40 w _ (eqb-true b 40 e) (p ∙ ap (λ (x : List ℕ). id_text l ++ (44 ∷ x)) (q ∙ ap (λ (x : List ℕ). id_text r ++ (41 ∷ x)) k)) ∙ sym (two_parts (id_text l) (id_text r) (byte_of m ∷ t)),
      h,
    )) (λ _. tt)))
sound (event m) parts b =
    by_test (Sound (event m) parts b) (b == 40) (Some (number comma ∷ event comma ∷ event close ∷ mark m ∷ [])) (number_step m b)
    (λ e w (n, u, is, p, (l, v, il, q, (r, x, ir, k, (t, j, h)))). (
      fork n l r,
      t,
      (is, il, ir),
      cons b 40 w _ (eqb-true b 40 e)
          (p ∙ ap (λ (y : List ℕ). n ++ (44 ∷ y)) (q ∙ ap (λ (y : List ℕ). spelling l ++ (44 ∷ y)) (k ∙ ap (λ (y : List ℕ). spelling r ++ (41 ∷ y)) j)))
          ∙ sym (three_parts n (spelling l) (spelling r) (byte_of m ∷ t)),
      h,
    )) (λ _. as_event m parts b (number_step m b) (sound_number m parts b))
sound (number m) parts b = sound_number m parts b
sound (digits m) parts b =
    by_test (Sound (digits m) parts b) (is_digit b) (Some (digits m ∷ [])) (cond (b == byte_of m) (Some []) None)
    (λ d w (ds, u, is, p, h). (b ∷ ds, u, rw d is, ap (λ (v : List ℕ). b ∷ v) p, h))
    (λ _. by_test (Sound (digits m) parts b) (b == byte_of m) (Some []) None (λ e w h. ([], w, refl, ap (λ (c : ℕ). c ∷ w) (eqb-true b (byte_of m) e), h)) (λ _. tt))

-- ---- each text of the part begins so

abbrev pub Follows : List Part → List ℕ → Option (List Part) → Type 0
Follows parts w None = ⊥
Follows parts w (Some new) = Words (new ++ parts) w

abbrev pub Taken : Part → List Part → List ℕ → Type 0
Taken p parts [] = ⊥
Taken p parts (b ∷ w) = Follows parts w (step p b)

taken_number : (m : Mark) (parts : List Part) (text ds u : List ℕ) → IsNumber ds → text ≡ ds ++ (byte_of m ∷ u) → Words parts u → Taken (number m) parts text
taken_number m parts text [] u is e h = absurd is
taken_number m parts text (d ∷ ds) u (inl is) e h =
    subst (Taken (number m) parts) (sym (e ∙ cons d 48 (ds ++ (byte_of m ∷ u)) (byte_of m ∷ u) is.0 (ap (λ (x : List ℕ). x ++ (byte_of m ∷ u)) is.1))) (u, refl, h)
taken_number m parts text (d ∷ ds) u (inr (low, high, is)) e h =
    subst (Taken (number m) parts) (sym e) (rw (ne_eqb d 48 (λ k. omega arith), digit-from d (omega arith) high) (ds, u, is, refl, h))

not_opened : (m : Mark) (parts : List Part) (text : List ℕ) → (get_or text 0 0 ≡ 40 → ⊥) → Taken (number m) parts text → Taken (event m) parts text
not_opened m parts [] h taken = taken
not_opened m parts (b ∷ w) h taken = rw (ne_eqb b 40 h) taken

pub taken : (p : Part) (parts : List Part) (text : List ℕ) → Words (p ∷ parts) text → Taken p parts text
taken stamp parts text (i, s, u, is, e, h) =
    subst (Taken stamp parts) (sym (e ∙ two_parts (id_text i) (spelling s) u)) (i, spelling s ++ (41 ∷ u), refl, (s, u, is, refl, h))
taken (mark comma) parts text (u, e, h) = subst (Taken (mark comma) parts) (sym e) h
taken (mark close) parts text (u, e, h) = subst (Taken (mark close) parts) (sym e) h
taken (id m) parts text (zero_id, u, e, h) = subst (Taken (id m) parts) (sym e) (u, refl, h)
taken (id m) parts text (one_id, u, e, h) = subst (Taken (id m) parts) (sym e) (u, refl, h)
taken (id m) parts text (pair l r, u, e, h) =
    subst (Taken (id m) parts) (sym (e ∙ two_parts (id_text l) (id_text r) (byte_of m ∷ u))) (l, id_text r ++ (41 ∷ (byte_of m ∷ u)), refl, (r, byte_of m ∷ u, refl, (u, refl, h)))
taken (event m) parts text (leaf ds, u, is, e, h) =
    not_opened m parts text (λ k. let low = digit_or_zero ds (byte_of m ∷ u) is in let first = ap (λ (t : List ℕ). get_or t 0 0) e in absurd (omega arith)) (taken_number m parts text ds u is e h)
taken (event m) parts text (fork n l r, u, is, e, h) =
    subst (Taken (event m) parts) (sym (e ∙ three_parts n (spelling l) (spelling r) (byte_of m ∷ u)))
    (n, spelling l ++ (44 ∷ (spelling r ++ (41 ∷ (byte_of m ∷ u)))), is.0, refl, (l, spelling r ++ (41 ∷ (byte_of m ∷ u)), is.1, refl, (r, byte_of m ∷ u, is.2, refl, (u, refl, h))))
taken (number m) parts text (ds, u, is, e, h) = taken_number m parts text ds u is e h
taken (digits comma) parts text ([], u, is, e, h) = subst (Taken (digits comma) parts) (sym e) h
taken (digits close) parts text ([], u, is, e, h) = subst (Taken (digits close) parts) (sym e) h
taken (digits m) parts text (d ∷ ds, u, is, e, h) =
    let p = digits-parts d ds is in
    subst (Taken (digits m) parts) (sym e) (rw (digit-from d p.0 p.1) (ds, u, p.2, refl, h))
