-- Reading with a variable number of levels left.
use Rattle.std.proofs.Common.{◌≡◌, ℕ, zero, suc, ◌-◌, ◌<◌, List, [], ◌∷◌, take, drop, length, get_or, refl, arith, sub-one, Result, Ok, Err}
use Rattle.std.proofs.lemmas.Bool.{ne_eqb}
use Rattle.std.proofs.lemmas.List.{take_rest}
use Rattle.pana_text.specs.declared.fault.TextFault.{TextFault}
use Rattle.pana_text.specs.declared.fault.TextFault.TheVariants.{Syntax, TooDeep, NotNormal, TooLarge, OutOfMemory}
use Rattle.pana_text.specs.inner.Reading.{OfId, OfEvent, Fails, after, fork_number_at, id_or, pair_at, id_at, leaf_at, event_or, fork_at, event_at}

pub id_at-deeper : {A : Type 0} (of : OfId A) (total n : ℕ) (text : List ℕ) → 0 < n → id_at of total n text ≡ id_or of total (pair_at of total (id_at of total (n - 1))) text
id_at-deeper of total zero text h = absurd (omega arith)
id_at-deeper of total (suc n) text h = rw sub-one refl

pub event_at-deeper : {N A : Type 0} (of : OfEvent N A) (total n : ℕ) (text : List ℕ) → 0 < n → event_at of total n text ≡ event_or of total (fork_at of total (event_at of total (n - 1))) text
event_at-deeper of total zero text h = absurd (omega arith)
event_at-deeper of total (suc n) text h = rw sub-one refl

event_or-leaf : {N A : Type 0} (of : OfEvent N A) (total : ℕ) (opened : List ℕ → Result (A × List ℕ) TextFault) (text : List ℕ) → (get_or text 0 0 ≡ 40 → ⊥) → event_or of total opened text ≡ leaf_at of total text
event_or-leaf of total opened [] h = refl
event_or-leaf of total opened (b ∷ rest) h = rw (ne_eqb b 40 h) refl

-- a text that doesn't begin with a parenthesis is read as a leaf
pub event_at-leaf : {N A : Type 0} (of : OfEvent N A) (total n : ℕ) (text : List ℕ) → (get_or text 0 0 ≡ 40 → ⊥) → event_at of total n text ≡ leaf_at of total text
event_at-leaf of total zero text h = event_or-leaf of total (λ _. Err TooDeep) text h
event_at-leaf of total (suc n) text h = event_or-leaf of total (fork_at of total (event_at of total n)) text h

pub event_at-empty : {N A : Type 0} (of : OfEvent N A) (total n : ℕ) (text : List ℕ) → length text < 1 → event_at of total n text ≡ leaf_at of total text
event_at-empty of total n [] h = event_at-leaf of total n [] (λ e. omega arith)
event_at-empty of total n (b ∷ rest) h = absurd (omega arith)

-- one that does, where a level is left, as a fork
pub event_at-opened : {N A : Type 0} (of : OfEvent N A) (total n : ℕ) (text : List ℕ) → 0 < n → 0 < length text → get_or text 0 0 ≡ 40 → event_at of total n text ≡ fork_at of total (event_at of total (n - 1)) (take (length text - 1) (drop 1 text))
event_at-opened of total n [] h some is = absurd (omega arith)
event_at-opened of total n (b ∷ others) h some is = rw (event_at-deeper of total n (b ∷ others) h, is, take_rest (b ∷ others) 1) refl

-- and where none is left, it is too deep
pub event_at-shut : {N A : Type 0} (of : OfEvent N A) (total n : ℕ) (text : List ℕ) → n ≡ 0 → 0 < length text → get_or text 0 0 ≡ 40 → event_at of total n text ≡ Err TooDeep
event_at-shut of total n [] e some is = absurd (omega arith)
event_at-shut of total n (b ∷ others) e some is = rw (e, is) refl

-- so it is with an id
pub id_at-opened : {A : Type 0} (of : OfId A) (total n : ℕ) (text : List ℕ) → 0 < n → 0 < length text → get_or text 0 0 ≡ 40 → id_at of total n text ≡ pair_at of total (id_at of total (n - 1)) (take (length text - 1) (drop 1 text))
id_at-opened of total n [] h some is = absurd (omega arith)
id_at-opened of total n (b ∷ others) h some is = rw (id_at-deeper of total n (b ∷ others) h, is, take_rest (b ∷ others) 1) refl

pub id_at-shut : {A : Type 0} (of : OfId A) (total n : ℕ) (text : List ℕ) → n ≡ 0 → 0 < length text → get_or text 0 0 ≡ 40 → id_at of total n text ≡ Err TooDeep
id_at-shut of total n [] e some is = absurd (omega arith)
id_at-shut of total n (b ∷ others) e some is = rw (e, is) refl

-- what reading gives fails as its first part does
fails_by : {X Y : Type 0} (fault : TextFault) (part : Result X TextFault) (whole : Result Y TextFault) → ((e : TextFault) → part ≡ Err e → whole ≡ Err e) → Fails fault part → Fails fault whole
fails_by (Syntax place) part whole h is = h _ is
fails_by TooDeep part whole h is = h _ is
fails_by NotNormal part whole h is = h _ is
fails_by TooLarge part whole h is = h _ is
fails_by OutOfMemory part whole h is = tt

pub fails_with : {Y : Type 0} (fault : TextFault) (read : Result Y TextFault) → read ≡ Err fault → Fails fault read
fails_with (Syntax place) read is = is
fails_with TooDeep read is = is
fails_with NotNormal read is = is
fails_with TooLarge read is = is
fails_with OutOfMemory read is = tt

pub pair_fails-left : {A : Type 0} (of : OfId A) (total : ℕ) (half : List ℕ → Result (A × List ℕ) TextFault) (text : List ℕ) (fault : TextFault) → Fails fault (half text) → Fails fault (pair_at of total half text)
pair_fails-left of total half text fault h = fails_by fault (half text) (pair_at of total half text) (λ e is. rw (pair_at, is) refl) h

pub pair_fails-right : {A : Type 0} (of : OfId A) (total : ℕ) (half : List ℕ → Result (A × List ℕ) TextFault) (text : List ℕ) (l : A × List ℕ) (second : List ℕ) (fault : TextFault) → half text ≡ Ok l → after total 44 l.1 ≡ Ok second → Fails fault (half second) → Fails fault (pair_at of total half text)
pair_fails-right of total half text l second fault first comma h = fails_by fault (half second) (pair_at of total half text) (λ e is. rw (pair_at, first, comma, is) refl) h

pub fork_fails-left : {N A : Type 0} (of : OfEvent N A) (total : ℕ) (half : List ℕ → Result (A × List ℕ) TextFault) (text : List ℕ) (n : N × List ℕ) (fault : TextFault) → fork_number_at of.of_number total text ≡ Ok n → Fails fault (half n.1) → Fails fault (fork_at of total half text)
fork_fails-left of total half text n fault number h = fails_by fault (half n.1) (fork_at of total half text) (λ e is. rw (fork_at, number, is) refl) h

pub fork_fails-right : {N A : Type 0} (of : OfEvent N A) (total : ℕ) (half : List ℕ → Result (A × List ℕ) TextFault) (text : List ℕ) (n : N × List ℕ) (l : A × List ℕ) (second : List ℕ) (fault : TextFault) → fork_number_at of.of_number total text ≡ Ok n → half n.1 ≡ Ok l → after total 44 l.1 ≡ Ok second → Fails fault (half second) → Fails fault (fork_at of total half text)
fork_fails-right of total half text n l second fault number first comma h = fails_by fault (half second) (fork_at of total half text) (λ e is. rw (fork_at, number, first, comma, is) refl) h

pub ruleset leaves = (event_at-leaf, event_at-empty)

pub ruleset deeper = (id_at-deeper, event_at-deeper)
