-- Calls that are made together, and those of the first of them that have answers.
use Rattle.std.proofs.Common.{Result, Ok, Err, OnErr, OnOk, ◌≡◌, ℕ, ◌≤◌, List, [], ◌∷◌, ◌++◌, length, refl, sym, ap, subst, ◌∙◌, length-append, ◌==◌, eqb-true, true, false, ◌⊎◌, inl, inr, map, take, drop, min, zero, suc, ◌+◌, ◌-◌, lt_of_not-le, arith}
use native.Mathlib.Decide.{dec_le}
use Rattle.std.proofs.lemmas.List.{drop-drop, drop_all, length-drop, length-take-le, nil_from_length, take_all}
use Rattle.pana_calls.specs.Session.{AddsAll, AddsSome, MakesAll}
use Rattle.pana_calls.specs.declared.call.Call.{Call}
use Rattle.pana_calls.specs.declared.answer.Answer.{Answer}
use Rattle.pana_calls.specs.declared.answer.NoAnswer.{NoAnswer}
use Rattle.pana_calls.specs.declared.message.Message.{Message}
use Rattle.pana_scan.specs.declared.notices.Notice.{Notice}
use Rattle.pana_track.specs.Calls.{Asked, Makes, asked}
use Rattle.pana_track.specs.Reports.{messages_of}

-- the messages of the first, and then those of the rest
pub asked_on : (made rest : List Message) (answers more : List Answer) → length answers ≡ length made → asked (made ++ rest) (answers ++ more) ≡ asked made answers ++ asked rest more
asked_on [] rest [] more is = refl
asked_on [] rest (a ∷ answers) more is = absurd (cc)
asked_on (m ∷ made) rest [] more is = absurd (cc)
asked_on (m ∷ made) rest (a ∷ answers) more is = ap (λ (xs : List Asked). record { by = m.by; call = m.call; answer = a } ∷ xs) (asked_on made rest answers more (omega (arith, is)))

-- where only they have answers
pub asked_first : (made rest : List Message) (answers : List Answer) → length answers ≡ length made → asked (made ++ rest) answers ≡ asked made answers
asked_first made rest [] is = refl
asked_first [] rest (a ∷ answers) is = absurd (cc)
asked_first (m ∷ made) rest (a ∷ answers) is = ap (λ (xs : List Asked). record { by = m.by; call = m.call; answer = a } ∷ xs) (asked_first made rest answers (omega (arith, is)))

module _ {S : Type 0} (step : S → List ℕ → Call → Answer → S → Type 0) where
  -- calls that were made
  pub makes_asked : (old : S) (messages : List Message) (answers : List Answer) (new : S) → MakesAll step old messages answers new → Makes step old (asked messages answers) new
  makes_asked old [] [] new is = is
  makes_asked old [] (a ∷ answers) new is = absurd is
  makes_asked old (m ∷ messages) [] new is = absurd is
  makes_asked old (m ∷ messages) (a ∷ answers) new (mid, one, more) = (mid, one, makes_asked mid messages answers new more)

  -- each has an answer
  pub as_many : (old : S) (messages : List Message) (answers : List Answer) (new : S) → MakesAll step old messages answers new → length answers ≡ length messages
  as_many old [] [] new is = refl
  as_many old [] (a ∷ answers) new is = absurd is
  as_many old (m ∷ messages) [] new is = absurd is
  as_many old (m ∷ messages) (a ∷ answers) new (mid, one, more) = omega (arith, as_many mid messages answers new more)

  -- there are no more answers than calls
  pub no_more : (fails : S → List Message → S → Type 0) (result : Result (Unit {0}) NoAnswer) (old : S) (messages : List Message) (before answers : List Answer) (new : S) → before ≡ []
      → OnOk result (AddsAll step old messages before answers new) → OnErr result (AddsSome step fails old messages before answers new) → length answers ≤ length messages
  no_more fails (Ok done) old messages before answers new none all some =
      let many = as_many old messages all.given new all.makes in
      let are : answers ≡ all.given = all.adds ∙ ap (λ (xs : List Answer). xs ++ all.given) none in
      omega (arith, many, ap length are)
  no_more fails (Err failed) old messages before answers new none all some =
      let many = as_many old some.made some.adds.given some.mid some.adds.makes in
      let are : answers ≡ some.adds.given = some.adds.adds ∙ ap (λ (xs : List Answer). xs ++ some.adds.given) none in
      omega (arith, many, ap length are, ap length some.split, length-append some.made (some.tried ++ some.left))

-- each notice has its call
pub messages_len : (device : List ℕ) (notices : List Notice) → length (messages_of device notices) ≡ length notices
messages_len device [] = refl
messages_len device (notice ∷ notices) = omega (arith, messages_len device notices)

-- ---- lists and what is left of them

pub map_take : {X Y : Type 0} (f : X → Y) (n : ℕ) (xs : List X) → map f (take n xs) ≡ take n (map f xs)
map_take f zero xs = refl
map_take f (suc n) [] = refl
map_take f (suc n) (x ∷ xs) = ap (λ (ys : List _). f x ∷ ys) (map_take f n xs)

pub map_drop : {X Y : Type 0} (f : X → Y) (n : ℕ) (xs : List X) → map f (drop n xs) ≡ drop n (map f xs)
map_drop f zero xs = refl
map_drop f (suc n) [] = refl
map_drop f (suc n) (x ∷ xs) = map_drop f n xs

-- what is left behind a list of a hundred, or of all that are left
pub behind_list : {X : Type 0} (done : ℕ) (xs : List X) → drop (done + length (take 100 (drop done xs))) xs ≡ drop 100 (drop done xs)
behind_list done xs =
    let left : length (drop done xs) ≡ length xs - done = length-drop done xs in
    elim (dec_le 100 (length (drop done xs))) [
      | yes many ↦ ap (λ (n : ℕ). drop (done + n) xs) (length-take-le 100 (drop done xs) many) ∙ sym (drop-drop 100 done xs)
      | no few ↦
          let less = lt_of_not-le few in
          let whole = take_all 100 (drop done xs) (omega (arith, less)) in
          drop_all (done + length (take 100 (drop done xs))) xs (omega (arith, left, ap length whole)) ∙ sym (drop_all 100 (drop done xs) (omega (arith, less)))
    ]

-- a hundred, or else all
pub list_is : {X : Type 0} (n : ℕ) (xs : List X) → (n ≡ 100) ⊎ (n ≡ length xs) → n ≤ 100 → n ≤ length xs → take n xs ≡ take 100 xs
list_is n xs (inl many) most within = ap (λ (k : ℕ). take k xs) many
list_is n xs (inr all) most within = take_all n xs (omega (arith, all)) ∙ sym (take_all 100 xs (omega (arith, all, most)))

pub list_at : {X : Type 0} (first least : ℕ) (xs : List X) → least ≡ min 100 (length xs - first) → take (first + least - first) (drop first xs) ≡ take 100 (drop first xs)
list_at first least xs is =
    let left : length (drop first xs) ≡ length xs - first = length-drop first xs in
    elim (dec_le 100 (length xs - first)) [
      | yes many ↦ list_is (first + least - first) (drop first xs) (inl (omega (arith, is, many))) (omega (arith, is, many)) (omega (arith, is, many, left))
      | no few ↦ let less = lt_of_not-le few in list_is (first + least - first) (drop first xs) (inr (omega (arith, is, less, left))) (omega (arith, is, less)) (omega (arith, is, less, left))
    ]

pub map_length : {X Y : Type 0} (f : X → Y) (xs : List X) → length (map f xs) ≡ length xs
map_length f [] = refl
map_length f (x ∷ xs) = omega (arith, map_length f xs)

-- the list that begins there, of what is lent
pub list_lent : {X Y : Type 0} (f : X → Y) (first : ℕ) (xs ys : List X) → ys ≡ take 100 (drop first xs) → map f ys ≡ take 100 (drop first (map f xs))
list_lent f first xs ys is = ap (map f) is ∙ map_take f 100 (drop first xs) ∙ ap (take 100) (map_drop f first xs)

-- whether there is anything in a list
pub nothing_in : {X : Type 0} (n : ℕ) (xs : List X) → n ≡ length xs → (n == 0) ≡ true → xs ≡ []
nothing_in n xs same is = nil_from_length xs (sym same ∙ eqb-true n 0 is)

pub something_in : {X : Type 0} (n : ℕ) (xs : List X) → n ≡ length xs → (n == 0) ≡ false → 1 ≤ length xs
something_in n [] same is = absurd (ne_of (subst (λ (k : ℕ). (k == 0) ≡ false) same is)) where
  ne_of : (0 == 0) ≡ false → ⊥
  ne_of odd = absurd (cc)
something_in n (x ∷ xs) same is = omega arith
