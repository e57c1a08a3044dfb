-- The text of entries has no newline.
use Rattle.std.specs.Prelude.{◌≡◌, ℕ, zero, suc, ◌+◌, ◌==◌, ◌&&◌, ◌||◌, ◌/◌, ◌%◌, Bool, true, false, cond, nat_lt, List, [], ◌∷◌, ◌++◌}
use Rattle.std.specs.Char.{digit_char}
use Rattle.std.specs.Fmt.{decimal, digits, digits_onto, digit_glyph}
use Rattle.std.specs.List.{AllByRecursion}
use Rattle.std.proofs.Common.{refl, sym, ap, ◌∙◌, subst, inl, inr, arith, append-nil, append_assoc}
use Rattle.std.proofs.lemmas.Bool.{ne_eqb, cases_Bool, ltb-false}
use Rattle.json.specs.Print.{escape, escape_byte, escape_letter, quoted}
use Rattle.serde_json.specs.Data.{unsigned, negative, float, Data, null, boolean, number, string, array, object, Items, no_items, item, Members, no_members, member}
use Rattle.serde_json.specs.Written.{compact_text, items_text, members_text, comma_if}
use Rattle.pana_wire.specs.Lines.{ended, unended, lines_of}
use Rattle.pana_wire.proofs.Whole.{is_natural, items_natural, members_natural}

-- no byte of a text is a newline
abbrev pub IsInLine : List ℕ → Type 0
IsInLine text = AllByRecursion (λ b. (b == 10) ≡ false) text

pub both_in_line : (xs ys : List ℕ) → IsInLine xs → IsInLine ys → IsInLine (xs ++ ys)
both_in_line [] ys first second = second
both_in_line (x ∷ xs) ys first second = (first.0, both_in_line xs ys first.1 second)

either_in_line : (b : Bool) (xs ys : List ℕ) → IsInLine xs → IsInLine ys → IsInLine (cond b xs ys)
either_in_line true xs ys first second = first
either_in_line false xs ys first second = second

either_other : (b : Bool) (x y : ℕ) → (x == 10) ≡ false → (y == 10) ≡ false → (cond b x y == 10) ≡ false
either_other true x y first second = first
either_other false x y first second = second

glyph_other : (d : ℕ) → (digit_glyph false d == 10) ≡ false
glyph_other d = either_other (nat_lt d 10) (48 + d) (87 + d) (ne_eqb (48 + d) 10 (λ e. omega arith)) (ne_eqb (87 + d) 10 (λ e. omega arith))

char_other : (d : ℕ) → (digit_char d == 10) ≡ false
char_other d = either_other (nat_lt d 10) (48 + d) (87 + d) (ne_eqb (48 + d) 10 (λ e. omega arith)) (ne_eqb (87 + d) 10 (λ e. omega arith))

digits_in_line : (k n : ℕ) (acc : List ℕ) → IsInLine acc → IsInLine (digits_onto k 10 false n acc)
digits_in_line zero n acc line = line
digits_in_line (suc k) n acc line =
    let more : IsInLine (digit_glyph false (n % 10) ∷ acc) = (glyph_other (n % 10), line) in
    either_in_line (n / 10 == 0) (digit_glyph false (n % 10) ∷ acc) (digits_onto k 10 false (n / 10) (digit_glyph false (n % 10) ∷ acc)) more (digits_in_line k (n / 10) (digit_glyph false (n % 10) ∷ acc) more)

decimal_in_line : (n : ℕ) → IsInLine (decimal n)
unfolding digits
decimal_in_line n = digits_in_line 64 n [] tt

-- the letter of a short escape is that of the byte itself only for a quote and a backslash
letter_other : (x : ℕ) → (escape_letter x == 10) ≡ false
letter_other x = elim (cases_Bool ((x == 34) || (x == 92))) [
  | inl h ↦ subst (λ (b : Bool). (cond b x (cond (x == 8) 98 (cond (x == 12) 102 (cond (x == 10) 110 (cond (x == 13) 114 (cond (x == 9) 116 0))))) == 10) ≡ false) (sym h)
      (ne_eqb x 10 (λ e. let odd : ((10 == 34) || (10 == 92)) ≡ true = subst (λ (n : ℕ). ((n == 34) || (n == 92)) ≡ true) e h in absurd (cc)))
  | inr h ↦ subst (λ (b : Bool). (cond b x (cond (x == 8) 98 (cond (x == 12) 102 (cond (x == 10) 110 (cond (x == 13) 114 (cond (x == 9) 116 0))))) == 10) ≡ false) (sym h)
      (either_other (x == 8) 98 _ refl (either_other (x == 12) 102 _ refl (either_other (x == 10) 110 _ refl (either_other (x == 13) 114 _ refl (either_other (x == 9) 116 0 refl refl)))))
]

byte_in_line : (x : ℕ) → IsInLine (escape_byte x)
unfolding escape_byte
byte_in_line x =
    let code : List ℕ = 92 ∷ 117 ∷ 48 ∷ 48 ∷ digit_char (x / 16) ∷ digit_char (x % 16) ∷ [] in
    either_in_line (nat_lt 0 (escape_letter x)) (92 ∷ escape_letter x ∷ []) (cond (nat_lt x 32) code (x ∷ [])) (refl, (letter_other x, tt))
    (elim (cases_Bool (nat_lt x 32)) [
      | inl h ↦ subst (λ (b : Bool). IsInLine (cond b code (x ∷ []))) (sym h) (refl, (refl, (refl, (refl, (char_other (x / 16), (char_other (x % 16), tt))))))
      | inr h ↦ subst (λ (b : Bool). IsInLine (cond b code (x ∷ []))) (sym h) (ne_eqb x 10 (λ e. let high = ltb-false x 32 h in omega arith), tt)
    ])

escape_in_line : (s : List ℕ) → IsInLine (escape s)
escape_in_line [] = tt
escape_in_line (x ∷ s) = both_in_line (escape_byte x) (escape s) (byte_in_line x) (escape_in_line s)

quoted_in_line : (s : List ℕ) → IsInLine (quoted s)
quoted_in_line s = (refl, both_in_line (escape s) (34 ∷ []) (escape_in_line s) (refl, tt))

comma_in_line : (later : Bool) → IsInLine (comma_if later)
comma_in_line true = (refl, tt)
comma_in_line false = tt

left_holds : (a b : Bool) → (a && b) ≡ true → a ≡ true
left_holds true b is = refl
left_holds false b is = absurd (cc)

right_holds : (a b : Bool) → (a && b) ≡ true → b ≡ true
right_holds true b is = is
right_holds false b is = absurd (cc)

mutual
  pub text_in_line : (d : Data) → is_natural d ≡ true → IsInLine (compact_text d)
  text_in_line null is = (refl, (refl, (refl, (refl, tt))))
  text_in_line (boolean true) is = (refl, (refl, (refl, (refl, tt))))
  text_in_line (boolean false) is = (refl, (refl, (refl, (refl, (refl, tt)))))
  text_in_line (number (unsigned n)) is = decimal_in_line n
  text_in_line (number (negative z)) is = absurd (cc)
  text_in_line (number (float x)) is = absurd (cc)
  text_in_line (string s) is = quoted_in_line s
  text_in_line (array ds) is = (refl, items_in_line false ds is)
  text_in_line (object ms) is = (refl, members_in_line false ms is)

  items_in_line : (later : Bool) (ds : Items) → items_natural ds ≡ true → IsInLine (items_text later ds)
  items_in_line later no_items is = (refl, tt)
  items_in_line later (item d ds) is =
      both_in_line (comma_if later) (compact_text d ++ items_text true ds) (comma_in_line later)
      (both_in_line (compact_text d) (items_text true ds) (text_in_line d (left_holds (is_natural d) (items_natural ds) is)) (items_in_line true ds (right_holds (is_natural d) (items_natural ds) is)))

  members_in_line : (later : Bool) (ms : Members) → members_natural ms ≡ true → IsInLine (members_text later ms)
  members_in_line later no_members is = (refl, tt)
  members_in_line later (member k d ms) is =
      both_in_line (comma_if later) (quoted k ++ 58 ∷ (compact_text d ++ members_text true ms)) (comma_in_line later)
      (both_in_line (quoted k) (58 ∷ (compact_text d ++ members_text true ms)) (quoted_in_line k)
      (refl, both_in_line (compact_text d) (members_text true ms) (text_in_line d (left_holds (is_natural d) (members_natural ms) is)) (members_in_line true ms (right_holds (is_natural d) (members_natural ms) is))))

ended_one : (begun bytes : List ℕ) → IsInLine bytes → ended begun (bytes ++ 10 ∷ []) ≡ (begun ++ bytes) ∷ []
ended_one begun [] line = ap (λ l. l ∷ []) (sym (append-nil begun))
ended_one begun (b ∷ bytes) line =
    ap (λ c. cond c (begun ∷ ended [] (bytes ++ 10 ∷ [])) (ended (begun ++ b ∷ []) (bytes ++ 10 ∷ []))) line.0
    ∙ ended_one (begun ++ b ∷ []) bytes line.1 ∙ ap (λ l. l ∷ []) (append_assoc begun (b ∷ []) bytes)

unended_one : (begun bytes : List ℕ) → IsInLine bytes → unended begun (bytes ++ 10 ∷ []) ≡ []
unended_one begun [] line = refl
unended_one begun (b ∷ bytes) line =
    ap (λ c. cond c (unended [] (bytes ++ 10 ∷ [])) (unended (begun ++ b ∷ []) (bytes ++ 10 ∷ []))) line.0 ∙ unended_one (begun ++ b ∷ []) bytes line.1

pub lines_one : (bytes : List ℕ) → IsInLine bytes → lines_of (bytes ++ 10 ∷ []) ≡ bytes ∷ []
lines_one bytes line = rw (ended_one [] bytes line, unended_one [] bytes line) refl
