-- What bytes show of a stream that they are the first ones of.
use Rattle.std.proofs.Common.{◌≡◌, ◌<◌, ℕ, suc, ◌+◌, Bool, true, false, ◌==◌, if◌then◌else◌, List, [], ◌∷◌, ◌++◌, length, take, take-take, drop, get_or, Option, None, Some, ◌≤◌, refl, ap, sym, subst, ◌∙◌, append-nil, drop-cons}
use Rattle.std.specs.Io.KnownBytes.{Consumes, IsAtEnd}
use Rattle.std.proofs.lemmas.List.{length-take-le, take-append-drop, take_more}
use Rattle.pana_daemon.specs.declared.objects.Opening.{Opening}
use Rattle.pana_daemon.specs.declared.objects.Opening.TheVariants.{Blank, Object, Other}
use Rattle.pana_daemon.specs.Objects.{admitted, blanks_of, given_of, is_blank, left_of, opening_of}

-- behind blanks alone, what the rest shows is what all shows
pub opening_past : (bs cs : List ℕ) → opening_of bs ≡ Blank → opening_of (bs ++ cs) ≡ opening_of cs
opening_past [] cs is = refl
opening_past (b ∷ bs) cs is =
    (elim (is_blank b) as (λ v. (if v then opening_of bs else if b == 123 then Object else Other) ≡ Blank → (if v then opening_of (bs ++ cs) else if b == 123 then Object else Other) ≡ opening_of cs)
    [ true ↦ λ is. opening_past bs cs is | false ↦ λ is. shown (b == 123) is ]) is where
      shown : (v : Bool) → (if v then Object else Other) ≡ Blank → (if v then Object else Other) ≡ opening_of cs
      shown true is = absurd (cc)
      shown false is = absurd (cc)

-- and the blanks are these and those of the rest
pub blanks_past : (bs cs : List ℕ) → opening_of bs ≡ Blank → blanks_of (bs ++ cs) ≡ bs ++ blanks_of cs
blanks_past [] cs is = refl
blanks_past (b ∷ bs) cs is =
    (elim (is_blank b) as (λ v. (if v then opening_of bs else if b == 123 then Object else Other) ≡ Blank → (if v then b ∷ blanks_of (bs ++ cs) else []) ≡ b ∷ (bs ++ blanks_of cs))
    [ true ↦ λ is. ap (λ (more : List ℕ). b ∷ more) (blanks_past bs cs is) | false ↦ λ is. shown (b == 123) is ]) is where
      shown : (v : Bool) → (if v then Object else Other) ≡ Blank → [] ≡ b ∷ (bs ++ blanks_of cs)
      shown true is = absurd (cc)
      shown false is = absurd (cc)

-- bytes that show an object show it of all
pub object_stays : (bs cs : List ℕ) → opening_of bs ≡ Object → opening_of (bs ++ cs) ≡ Object
object_stays [] cs is = absurd (cc)
object_stays (b ∷ bs) cs is =
    (elim (is_blank b) as (λ v. (if v then opening_of bs else if b == 123 then Object else Other) ≡ Object → (if v then opening_of (bs ++ cs) else if b == 123 then Object else Other) ≡ Object)
    [ true ↦ λ is. object_stays bs cs is | false ↦ λ is. is ]) is

-- and so do bytes that show another first byte, which end the blanks
pub other_stays : (bs cs : List ℕ) → opening_of bs ≡ Other → (opening_of (bs ++ cs) ≡ Other) × (blanks_of (bs ++ cs) ≡ blanks_of bs)
other_stays [] cs is = absurd (cc)
other_stays (b ∷ bs) cs is =
    (elim (is_blank b) as (λ v. (if v then opening_of bs else if b == 123 then Object else Other) ≡ Other → ((if v then opening_of (bs ++ cs) else if b == 123 then Object else Other) ≡ Other) × ((if v then b ∷ blanks_of (bs ++ cs) else []) ≡ (if v then b ∷ blanks_of bs else [])))
    [ true ↦ λ is. ((other_stays bs cs is).0, ap (λ (more : List ℕ). b ∷ more) (other_stays bs cs is).1) | false ↦ λ is. (is, refl) ]) is

-- what is given of a stream, by what its first bytes show
pub given_past : (bs cs : List ℕ) → opening_of bs ≡ Blank → given_of (bs ++ cs) ≡ bs ++ given_of cs
given_past bs cs is = opened (opening_of cs) (opening_past bs cs is) where
  opened : (opening : Opening) → opening_of (bs ++ cs) ≡ opening → admitted (opening_of (bs ++ cs)) (bs ++ cs) ≡ bs ++ admitted opening cs
  opened Blank of = ap (λ (o : Opening). admitted o (bs ++ cs)) of
  opened Object of = ap (λ (o : Opening). admitted o (bs ++ cs)) of
  opened Other of = ap (λ (o : Opening). admitted o (bs ++ cs)) of ∙ blanks_past bs cs is

pub given_object : (bs cs : List ℕ) → opening_of bs ≡ Object → given_of (bs ++ cs) ≡ bs ++ cs
given_object bs cs is = ap (λ (o : Opening). admitted o (bs ++ cs)) (object_stays bs cs is)

pub given_other : (bs cs : List ℕ) → opening_of bs ≡ Other → given_of (bs ++ cs) ≡ given_of bs
given_other bs cs is =
    ap (λ (o : Opening). admitted o (bs ++ cs)) (other_stays bs cs is).0 ∙ (other_stays bs cs is).1 ∙ sym (ap (λ (o : Opening). admitted o bs) is)

module _ (bytes : List ℕ) (at : ℕ) (within : at < length bytes) (blank : opening_of (take at bytes) ≡ Blank) where
  parts : take at bytes ++ (get_or bytes at 0 ∷ drop (suc at) bytes) ≡ bytes
  parts = ap (λ (more : List ℕ). take at bytes ++ more) (sym (drop-cons bytes at 0 within)) ∙ take-append-drop at bytes

  -- a byte behind blanks alone shows what it is itself
  pub at_object : get_or bytes at 0 ≡ 123 → opening_of bytes ≡ Object
  at_object is =
      subst (λ (all : List ℕ). opening_of all ≡ Object) parts
      (opening_past (take at bytes) (get_or bytes at 0 ∷ drop (suc at) bytes) blank ∙ ap (λ (b : ℕ). opening_of (b ∷ drop (suc at) bytes)) is)

  pub at_other : is_blank (get_or bytes at 0) ≡ false → (get_or bytes at 0 == 123) ≡ false → (opening_of bytes ≡ Other) × (blanks_of bytes ≡ take at bytes)
  at_other other brace =
      let b = get_or bytes at 0 in let rest = drop (suc at) bytes in
      let shows : opening_of (b ∷ rest) ≡ Other = ap (λ (v : Bool). if v then opening_of rest else if b == 123 then Object else Other) other ∙ ap (λ (v : Bool). if v then Object else Other) brace in
      let ends : blanks_of (b ∷ rest) ≡ [] = ap (λ (v : Bool). if v then b ∷ blanks_of rest else []) other in (
        subst (λ (all : List ℕ). opening_of all ≡ Other) parts (opening_past (take at bytes) (b ∷ rest) blank ∙ shows),
        subst (λ (all : List ℕ). blanks_of all ≡ take at bytes) parts (blanks_past (take at bytes) (b ∷ rest) blank ∙ ap (λ (more : List ℕ). take at bytes ++ more) ends ∙ append-nil (take at bytes)),
      )

  pub at_blank : is_blank (get_or bytes at 0) ≡ true → opening_of (take (at + 1) bytes) ≡ Blank
  at_blank is =
      let b = get_or bytes at 0 in
      subst (λ (all : List ℕ). opening_of all ≡ Blank) (sym (take_more bytes at 0 within))
      (opening_past (take at bytes) (b ∷ []) blank ∙ ap (λ (v : Bool). if v then Blank else if b == 123 then Object else Other) is)

pub given_as : (opening : Opening) (bytes : List ℕ) → opening_of bytes ≡ opening → given_of bytes ≡ admitted opening bytes
given_as opening bytes is = ap (λ (o : Opening). admitted o bytes) is

-- a read behind blanks alone: what its bytes show, and how many of them are given
pub record Shows (buffer : List ℕ) (count given : ℕ) (opening : Opening) : Type 0 where
  pub shown : opening ≡ opening_of (take count buffer)
  pub given_is : take given (take count buffer) ≡ given_of (take count buffer)
  pub within : given ≤ count
  pub room : count ≤ length buffer

given_front : (buffer : List ℕ) (count given : ℕ) (opening : Opening) → Shows buffer count given opening → given_of (take count buffer) ≡ take given buffer
given_front buffer count given opening s = sym s.given_is ∙ take-take given count buffer s.within

-- the session's bytes lose those that are given
pub consumes : (opening : Opening) (old new : Option (List ℕ)) (buffer : List ℕ) (count given : ℕ) → Shows buffer count given opening → Consumes old new (take count buffer) → Consumes (left_of Blank old) (left_of opening new) (take given buffer)
consumes opening None new buffer count given s c = tt
consumes opening (Some xs) None buffer count given s c = absurd c
consumes Blank (Some xs) (Some ys) buffer count given s c =
    ap given_of c ∙ given_past (take count buffer) ys (sym s.shown) ∙ ap (λ (front : List ℕ). front ++ given_of ys) (sym (given_as Blank (take count buffer) (sym s.shown)) ∙ given_front buffer count given Blank s)
consumes Object (Some xs) (Some ys) buffer count given s c =
    ap given_of c ∙ given_object (take count buffer) ys (sym s.shown) ∙ ap (λ (front : List ℕ). front ++ ys) (sym (given_as Object (take count buffer) (sym s.shown)) ∙ given_front buffer count given Object s)
consumes Other (Some xs) (Some ys) buffer count given s c =
    ap given_of c ∙ given_other (take count buffer) ys (sym s.shown) ∙ given_front buffer count given Other s ∙ sym (append-nil (take given buffer))

-- and where none is given they are at their end
pub at_end : (opening : Opening) (new : Option (List ℕ)) (buffer : List ℕ) (count given : ℕ) → Shows buffer count given opening → (count ≡ 0 → 0 < length buffer → IsAtEnd new) → given ≡ 0 → 0 < length buffer → IsAtEnd (left_of opening new)
at_end Blank None buffer count given s inner none room = tt
at_end Blank (Some ys) buffer count given s inner none room =
    let bytes : take count buffer ≡ [] = sym (given_as Blank (take count buffer) (sym s.shown)) ∙ given_front buffer count given Blank s ∙ ap (λ (n : ℕ). take n buffer) none in
    let nothing : count ≡ 0 = sym (length-take-le count buffer s.room) ∙ ap length bytes in
    ap given_of (inner nothing room)
at_end Object new buffer count given s inner none room =
    let bytes : take count buffer ≡ [] = sym (given_as Object (take count buffer) (sym s.shown)) ∙ given_front buffer count given Object s ∙ ap (λ (n : ℕ). take n buffer) none in
    let odd : Object ≡ Blank = s.shown ∙ ap opening_of bytes in absurd (cc)
at_end Other new buffer count given s inner none room = refl
