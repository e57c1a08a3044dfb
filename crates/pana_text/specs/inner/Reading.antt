-- Reading a text from left to right: a value and the bytes after it, or the first fault.
use Rattle.std.specs.Prelude.{◌≡◌, ℕ, zero, suc, ◌+◌, ◌-◌, ◌*◌, ◌==◌, if◌then◌else◌, List, [], ◌∷◌, length, Result, Ok, Err, ⊤}
use Rattle.pana_id.specs.Id.{Id, zero_id, one_id, pair}
use Rattle.pana_text.specs.Grammar.{is_digit}
use Rattle.pana_text.specs.declared.fault.TextFault.{TextFault}
use Rattle.pana_text.specs.declared.fault.TextFault.TheVariants.{Syntax, TooDeep, NotNormal, TooLarge, OutOfMemory}

-- the second reads on where the first ends, unless that met a fault
infixl 10 ◌>>=◌
abbrev pub ◌>>=◌ : {A B : Type 0} → Result A TextFault → (A → Result B TextFault) → Result B TextFault
(Ok x) >>= f = f x
(Err e) >>= f = Err e

-- what a call returned, seen by view, is what reading gives
abbrev pub Reads : {X Y : Type 0} → (X → Y) → Result X TextFault → Result Y TextFault → Type 0
Reads view (Ok x) read = read ≡ Ok (view x)
Reads view (Err e) read = read ≡ Err e

-- a call failed with the fault that reading gives, or memory ran out
abbrev pub Fails : {Y : Type 0} → TextFault → Result Y TextFault → Type 0
Fails (Syntax place) read = read ≡ Err (Syntax place)
Fails TooDeep read = read ≡ Err TooDeep
Fails NotNormal read = read ≡ Err NotNormal
Fails TooLarge read = read ≡ Err TooLarge
Fails OutOfMemory read = Unit {0}

-- what a call returned, seen by view, is what reading gives, unless memory ran out
abbrev pub Gives : {X Y : Type 0} → (X → Y) → Result X TextFault → Result Y TextFault → Type 0
Gives view (Ok x) read = read ≡ Ok (view x)
Gives view (Err e) read = Fails e read

-- the fault at the first byte of what is left of a text with so many bytes
abbrev pub wrong : {A : Type 0} → ℕ → List ℕ → Result A TextFault
wrong total rest = Err (Syntax (total - length rest))

-- what follows the byte
abbrev pub after : ℕ → ℕ → List ℕ → Result (List ℕ) TextFault
after total byte [] = wrong total []
after total byte (b ∷ rest) = if b == byte then Ok rest else wrong total (b ∷ rest)

-- ---- numbers

-- a number with the digits that the text begins with after it, and what follows them
abbrev pub digits_from : ℕ → List ℕ → ℕ × List ℕ
digits_from n [] = (n, [])
digits_from n (b ∷ rest) = if is_digit b then digits_from (n * 10 + (b - 48)) rest else (n, b ∷ rest)

-- a number, seen by num: a 0 that stands alone, or digits that don't begin with 0
unfoldable pub number_at : {N : Type 0} → (ℕ → N) → ℕ → List ℕ → Result (N × List ℕ) TextFault
number_at num total [] = wrong total []
number_at num total (b ∷ rest) =
    if b == 48 then Ok (num 0, rest)
    else (if is_digit b then Ok (num (digits_from 0 (b ∷ rest)).0, (digits_from 0 (b ∷ rest)).1) else wrong total (b ∷ rest))

-- a number and the comma after it
abbrev pub after_comma : {N : Type 0} → ℕ → N × List ℕ → Result (N × List ℕ) TextFault
after_comma total n = after total 44 n.1 >>= λ rest. Ok (n.0, rest)

unfoldable pub fork_number_at : {N : Type 0} → (ℕ → N) → ℕ → List ℕ → Result (N × List ℕ) TextFault
fork_number_at num total text = number_at num total text >>= after_comma total

-- ---- ids

-- what becomes of a 0, of a 1, and of a pair's halves
pub record OfId (A : Type 0) : Type 0 where
  pub of_zero : A
  pub of_one : A
  pub of_pair : A → A → A

-- the id itself
abbrev pub ids : OfId Id
ids = record { of_zero = zero_id; of_one = one_id; of_pair = pair }

-- a 0, a 1, or what follows an opening parenthesis
abbrev pub id_or : {A : Type 0} → OfId A → ℕ → (List ℕ → Result (A × List ℕ) TextFault) → List ℕ → Result (A × List ℕ) TextFault
id_or of total opened [] = wrong total []
id_or of total opened (b ∷ rest) =
    if b == 48 then Ok (of.of_zero, rest)
    else (if b == 49 then Ok (of.of_one, rest) else (if b == 40 then opened rest else wrong total (b ∷ rest)))

-- the halves of a pair, each read by half
abbrev pub pair_at : {A : Type 0} → OfId A → ℕ → (List ℕ → Result (A × List ℕ) TextFault) → List ℕ → Result (A × List ℕ) TextFault
pair_at of total half text = do
  l ← half text
  second ← after total 44 l.1
  r ← half second
  rest ← after total 41 r.1
  Ok (of.of_pair l.0 r.0, rest)

-- an id in which so many pairs may open one in another
abbrev pub id_at : {A : Type 0} → OfId A → ℕ → ℕ → List ℕ → Result (A × List ℕ) TextFault
id_at of total zero text = id_or of total (λ _. Err TooDeep) text
id_at of total (suc deeper) text = id_or of total (pair_at of total (id_at of total deeper)) text

-- ---- events

-- what becomes of a number, of a leaf, and of a fork's number and halves
pub record OfEvent (N A : Type 0) : Type 0 where
  pub of_number : ℕ → N
  pub of_leaf : N → A
  pub of_fork : N → A → A → A

-- a leaf's number
abbrev pub leaf_at : {N A : Type 0} → OfEvent N A → ℕ → List ℕ → Result (A × List ℕ) TextFault
leaf_at of total text = number_at of.of_number total text >>= λ n. Ok (of.of_leaf n.0, n.1)

-- a leaf, or what follows an opening parenthesis
abbrev pub event_or : {N A : Type 0} → OfEvent N A → ℕ → (List ℕ → Result (A × List ℕ) TextFault) → List ℕ → Result (A × List ℕ) TextFault
event_or of total opened [] = leaf_at of total []
event_or of total opened (b ∷ rest) = if b == 40 then opened rest else leaf_at of total (b ∷ rest)

-- the fork of a number and two halves, after which the parenthesis closes
abbrev pub fork_closed : {N A : Type 0} → OfEvent N A → ℕ → N → A → A × List ℕ → Result (A × List ℕ) TextFault
fork_closed of total n l r = after total 41 r.1 >>= λ rest. Ok (of.of_fork n l r.0, rest)

-- the number of a fork, and its halves, each read by half
abbrev pub fork_at : {N A : Type 0} → OfEvent N A → ℕ → (List ℕ → Result (A × List ℕ) TextFault) → List ℕ → Result (A × List ℕ) TextFault
fork_at of total half text = do
  n ← fork_number_at of.of_number total text
  l ← half n.1
  second ← after total 44 l.1
  r ← half second
  fork_closed of total n.0 l.0 r

-- an event in which so many forks may open one in another
abbrev pub event_at : {N A : Type 0} → OfEvent N A → ℕ → ℕ → List ℕ → Result (A × List ℕ) TextFault
event_at of total zero text = event_or of total (λ _. Err TooDeep) text
event_at of total (suc deeper) text = event_or of total (fork_at of total (event_at of total deeper)) text

-- ---- stamps

-- nothing is left
abbrev pub at_end : ℕ → List ℕ → Result ⊤ TextFault
at_end total [] = Ok tt
at_end total (b ∷ rest) = wrong total (b ∷ rest)

-- the id and the event of a whole text, which may be so deep
unfoldable pub stamp_at : {A N B : Type 0} → OfId A → OfEvent N B → ℕ → List ℕ → Result (A × B) TextFault
stamp_at of_id of_event deepest text = do
  inner ← after (length text) 40 text
  i ← id_at of_id (length text) deepest inner
  second ← after (length text) 44 i.1
  e ← event_at of_event (length text) deepest second
  rest ← after (length text) 41 e.1
  end ← at_end (length text) rest
  Ok (i.0, e.0)
