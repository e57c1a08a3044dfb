-- Lists: members that a test keeps, last numbers, rising keys, items by index.
use Rattle.pana_hall.proofs.Words.{◌≡◌, ℕ, suc, ◌+◌, ◌-◌, ◌≤◌, Bool, true, false, cond, ◌&&◌, ◌||◌, ◌==◌, List, [], ◌∷◌, ◌++◌, length, take, map, filter, ◌≢◌, ◌⊎◌, ◌<◌, Some, None, slice_get}
use Rattle.pana_hall.proofs.Words.{AllByRecursion, filter_map, list_any, refl, sym, ap, ◌∙◌, arith, subst, Option, find, length-append, take-append-drop, filter_agree, last, behind, is_last}
use Rattle.pana_hall.proofs.Words.{slice_get_within, nat_tests, Entry, entry_at, AreRising, and_comm, drop-append-le}
use Rattle.circular_buffer.proofs.Places.{slice_get-append_left}

-- Lists of which a test keeps some members, and their last numbers.

pub each_append : {X : Type 0} (P : X → Type 0) (xs ys : List X) → AllByRecursion P xs → AllByRecursion P ys → AllByRecursion P (xs ++ ys)
each_append P [] ys a b = b
each_append P (x ∷ xs) ys a b = (a.0, each_append P xs ys a.1 b)

pub each_left : {X : Type 0} (P : X → Type 0) (xs ys : List X) → AllByRecursion P (xs ++ ys) → AllByRecursion P xs
each_left P [] ys all = tt
each_left P (x ∷ xs) ys all = (all.0, each_left P xs ys all.1)

pub each_right : {X : Type 0} (P : X → Type 0) (xs ys : List X) → AllByRecursion P (xs ++ ys) → AllByRecursion P ys
each_right P [] ys all = all
each_right P (x ∷ xs) ys all = each_right P xs ys all.1

pub each_last : {X : Type 0} (P : X → Type 0) (xs : List X) (x : X) → AllByRecursion P (xs ++ x ∷ []) → P x
each_last P xs x all = (each_right P xs (x ∷ []) all).0

pub each_weaker : {X : Type 0} (P Q : X → Type 0) (xs : List X) → ((x : X) → P x → Q x) → AllByRecursion P xs → AllByRecursion Q xs
each_weaker P Q [] f a = tt
each_weaker P Q (x ∷ xs) f a = (f x a.0, each_weaker P Q xs f a.1)

pub each_two : {X : Type 0} (P Q R : X → Type 0) (xs : List X) → ((x : X) → P x → Q x → R x) → AllByRecursion P xs → AllByRecursion Q xs → AllByRecursion R xs
each_two P Q R [] f ps qs = tt
each_two P Q R (x ∷ xs) f ps qs = (f x ps.0 qs.0, each_two P Q R xs f ps.1 qs.1)

pub each_filter : {X : Type 0} (P : X → Type 0) (q : X → Bool) (xs : List X) → AllByRecursion P xs → AllByRecursion P (filter q xs)
each_filter P q [] a = tt
each_filter P q (x ∷ xs) a = grind (arith, nat_tests, each_filter P q xs a.1)

pub each_map : {X Y : Type 0} (P : Y → Type 0) (f : X → Y) (xs : List X) → AllByRecursion (λ x. P (f x)) xs → AllByRecursion P (map f xs)
each_map P f [] each = tt
each_map P f (x ∷ xs) each = (each.0, each_map P f xs each.1)

pub each_unmap : {X Y : Type 0} (P : Y → Type 0) (f : X → Y) (xs : List X) → AllByRecursion P (map f xs) → AllByRecursion (λ x. P (f x)) xs
each_unmap P f [] each = tt
each_unmap P f (x ∷ xs) each = (each.0, each_unmap P f xs each.1)

pub each_of : {X : Type 0} (P : X → Type 0) → ((x : X) → P x) → (xs : List X) → AllByRecursion P xs
each_of P all [] = tt
each_of P all (x ∷ xs) = (all x, each_of P all xs)

pub map_same : {X Y : Type 0} (f g : X → Y) (P : X → Type 0) (xs : List X) → ((x : X) → P x → f x ≡ g x) → AllByRecursion P xs → map f xs ≡ map g xs
map_same f g P [] same each = refl
map_same f g P (x ∷ xs) same each = grind (arith, nat_tests, map_same f g P xs same each.1)

pub filter_same : {X : Type 0} (p q : X → Bool) (xs : List X) → AllByRecursion (λ x. p x ≡ q x) xs → filter p xs ≡ filter q xs
filter_same p q [] a = refl
filter_same p q (x ∷ xs) a = grind (arith, nat_tests, filter_same p q xs a.1)

pub filter_all : {X : Type 0} (p : X → Bool) (xs : List X) → AllByRecursion (λ x. p x ≡ true) xs → filter p xs ≡ xs
filter_all p [] a = refl
filter_all p (x ∷ xs) a = grind (arith, nat_tests, filter_all p xs a.1)

pub each_passes : {X : Type 0} (p : X → Bool) (xs : List X) → AllByRecursion (λ x. p x ≡ true) (filter p xs)
each_passes p [] = tt
each_passes p (x ∷ xs) = grind (arith, nat_tests, each_passes p xs)

pub filter_twice : {X : Type 0} (p : X → Bool) (xs : List X) → filter p (filter p xs) ≡ filter p xs
filter_twice p xs = filter_all p (filter p xs) (each_passes p xs)

pub filter_true : {X : Type 0} (xs : List X) → filter (λ x. true) xs ≡ xs
filter_true [] = refl
filter_true (x ∷ xs) = ap (λ l. x ∷ l) (filter_true xs)

pub filter_filter : {X : Type 0} (p q : X → Bool) (xs : List X) → filter p (filter q xs) ≡ filter (λ x. q x && p x) xs
filter_filter p q [] = refl
filter_filter p q (x ∷ xs) = grind (arith, nat_tests, filter_filter p q xs)

pub filter_swap : {X : Type 0} (p q : X → Bool) (xs : List X) → filter p (filter q xs) ≡ filter q (filter p xs)
filter_swap p q xs = grind (arith, nat_tests, filter_filter, filter_agree, and_comm)

pub map_filter : {X Y : Type 0} (f : X → Y) (p : Y → Bool) (xs : List X) → map f (filter (λ x. p (f x)) xs) ≡ filter p (map f xs)
map_filter f p [] = refl
map_filter f p (x ∷ xs) = grind (arith, nat_tests, map_filter f p xs)

-- a test that what is made of an item passes where the item does
pub filter_made : {X : Type 0} (p : X → Bool) (g : X → Option X) → ((x y : X) → g x ≡ Some y → p y ≡ p x) → (xs : List X) → filter p (filter_map g xs) ≡ filter_map g (filter p xs)
filter_made p g keeps [] = refl
filter_made p g keeps (x ∷ xs) = grind (arith, nat_tests, filter_made p g keeps xs)

pub any_push : {X : Type 0} (p : X → Bool) (xs : List X) (x : X) → list_any p (xs ++ x ∷ []) ≡ (list_any p xs || p x)
any_push p [] x = elim (p x) as (λ b. (b || false) ≡ b) [ true ↦ refl | false ↦ refl ]
any_push p (y ∷ xs) x = grind (arith, nat_tests, any_push p xs x)

-- the last numbers of two lists of which one ends the other
pub last_end : (k : ℕ) (prefix numbers : List ℕ) → k ≤ length numbers → last k (prefix ++ numbers) ≡ last k numbers
last_end k [] numbers within = refl
last_end k (n ∷ prefix) numbers within =
    let more : length (n ∷ (prefix ++ numbers)) - k ≡ suc (length (prefix ++ numbers) - k) = omega (arith, length-append prefix numbers) in
    rw more (last_end k prefix numbers within)

-- the last numbers are an end of the list
pub last_is_end : (k : ℕ) (numbers : List ℕ) → (prefix : List ℕ) × (numbers ≡ prefix ++ last k numbers)
last_is_end k numbers = (take (length numbers - k) numbers, sym (take-append-drop (length numbers - k) numbers))

-- one number more at the end
pub last_push : (k : ℕ) (numbers : List ℕ) (n : ℕ) → last (k + 1) (numbers ++ n ∷ []) ≡ last k numbers ++ n ∷ []
last_push k numbers n = grind (arith, nat_tests, length-append, drop-append-le)

-- the numbers behind another are an end of the list
pub behind_is_end : (number : ℕ) (numbers : List ℕ) → (prefix : List ℕ) × (numbers ≡ prefix ++ behind number numbers)
behind_is_end number [] = ([], refl)
behind_is_end number (n ∷ numbers) =
    let rest = behind_is_end number numbers in
    elim (n == number) as (λ b. (prefix : List ℕ) × (n ∷ numbers ≡ prefix ++ cond b numbers (behind number numbers))) [
      | true ↦ (n ∷ [], refl)
      | false ↦ (n ∷ rest.0, ap (λ l. n ∷ l) rest.1)
    ]

-- a list ends in its last number
pub is_last_push : (number : ℕ) (numbers : List ℕ) → is_last number numbers ≡ true → (prefix : List ℕ) × (numbers ≡ prefix ++ number ∷ [])
is_last_push number (n ∷ m ∷ numbers) e = let rest = is_last_push number (m ∷ numbers) e in (n ∷ rest.0, ap (λ l. n ∷ l) rest.1)
is_last_push number numbers e = grind (arith, nat_tests)

-- what is last of a list is what was put there
pub is_last-push : (numbers : List ℕ) (x n : ℕ) → is_last n (numbers ++ x ∷ []) ≡ (x == n)
is_last-push (a ∷ b ∷ numbers) x n = is_last-push (b ∷ numbers) x n
is_last-push numbers x n = grind (arith, nat_tests)

-- Lists by rising numbers.

pub rises_lower : {X : Type 0} (key : X → ℕ) (low low' : ℕ) (xs : List X) → low' ≤ low → AreRising key low xs → AreRising key low' xs
rises_lower key low low' [] below rises = tt
rises_lower key low low' (x ∷ xs) below rises = let first = rises.0 in (omega arith, rises.1)

pub rises_filter : {X : Type 0} (key : X → ℕ) (low : ℕ) (q : X → Bool) (xs : List X) → AreRising key low xs → AreRising key low (filter q xs)
rises_filter key low q [] rises = tt
rises_filter key low q (x ∷ xs) rises = grind (arith, nat_tests, rises_filter key (key x) q xs rises.1, rises_lower)

pub rises_map : {X Y : Type 0} (f : X → Y) (key : X → ℕ) (key' : Y → ℕ) → ((x : X) → key' (f x) ≡ key x) → (low : ℕ) (xs : List X) → AreRising key low xs → AreRising key' low (map f xs)
rises_map f key key' same low [] rises = tt
rises_map f key key' same low (x ∷ xs) rises = (subst (λ k. low < k) (sym (same x)) rises.0, rises_map f key key' same (key' (f x)) xs (subst (λ k. AreRising key k xs) (sym (same x)) rises.1))

-- each is above the bound
pub rises_each : {X : Type 0} (key : X → ℕ) (low : ℕ) (xs : List X) → AreRising key low xs → AllByRecursion (λ x. low < key x) xs
rises_each key low [] rises = tt
rises_each key low (x ∷ xs) rises = grind (arith, nat_tests, rises_each key (key x) xs rises.1, each_weaker)

-- what has a key
abbrev pub under : {X : Type 0} → (X → ℕ) → List X → ℕ → Option X
under key xs n = find (λ x. key x == n) xs

pub none_under : {X : Type 0} (key : X → ℕ) (low n : ℕ) (xs : List X) → AreRising key low xs → n ≤ low → under key xs n ≡ None
none_under key low n [] rises below = refl
none_under key low n (x ∷ xs) rises below = grind (arith, nat_tests, none_under key (key x) n xs rises.1 (omega arith))

-- what is found by a test passes it
pub found_by : {X : Type 0} (p : X → Bool) (P : X → Type 0) (xs : List X) (x : X) → AllByRecursion P xs → find p xs ≡ Some x → (p x ≡ true) × P x
found_by p P [] x each found = absurd (cc)
found_by p P (y ∷ xs) x each found =
    elim (p y) as (λ b. p y ≡ b → cond b (Some y) (find p xs) ≡ Some x → (p x ≡ true) × P x) [
      | true ↦ λ e f. let same : y ≡ x = cc in subst (λ z. (p z ≡ true) × P z) same (e, each.0)
      | false ↦ λ e f. found_by p P xs x each.1 f
    ] refl found

pub rises_push : {X : Type 0} (key : X → ℕ) (low : ℕ) (xs : List X) (y : X) → AreRising key low xs → AllByRecursion (λ x. key x < key y) xs → low < key y → AreRising key low (xs ++ y ∷ [])
rises_push key low [] y rises below more = (more, tt)
rises_push key low (x ∷ xs) y rises below more = (rises.0, rises_push key (key x) xs y rises.1 below.1 below.0)

pub rises_above : {X : Type 0} (key : X → ℕ) (low : ℕ) (xs : List X) (y : X) → AreRising key low (xs ++ y ∷ []) → low < key y
rises_above key low [] y rises = rises.0
rises_above key low (x ∷ xs) y rises = grind (arith, nat_tests, rises_above key (key x) xs y rises.1)

-- the last is above all others
pub rises_last : {X : Type 0} (key : X → ℕ) (low : ℕ) (xs : List X) (y : X) → AreRising key low (xs ++ y ∷ []) → AllByRecursion (λ x. key x < key y) xs
rises_last key low [] y rises = tt
rises_last key low (x ∷ xs) y rises = (rises_above key (key x) xs y rises.1, rises_last key (key x) xs y rises.1)

pub slice_get-append : {X : Type 0} (xs ys : List X) (i : ℕ) (x : X) → slice_get xs i ≡ Some x → slice_get (xs ++ ys) i ≡ Some x
slice_get-append xs ys i x e = slice_get-append_left xs ys i (slice_get_within xs i x e) ∙ e

pub slice_get-push : {X : Type 0} (xs : List X) (x : X) → slice_get (xs ++ x ∷ []) (length xs) ≡ Some x
slice_get-push [] x = refl
slice_get-push (z ∷ xs) x = slice_get-push xs x

-- an item with a number, from 1, keeps it where more come
pub at-append : {X : Type 0} (xs more : List X) (n : ℕ) (x : X) → cond (n == 0) None (slice_get xs (n - 1)) ≡ Some x → cond (n == 0) None (slice_get (xs ++ more) (n - 1)) ≡ Some x
at-append xs more n x e = grind (arith, nat_tests, slice_get-append)

pub at-push : {X : Type 0} (xs : List X) (x : X) → cond (length xs + 1 == 0) None (slice_get (xs ++ x ∷ []) (length xs + 1 - 1)) ≡ Some x
at-push xs x =
    let place : length xs + 1 - 1 ≡ length xs = omega arith in
    grind (arith, nat_tests, slice_get-push)

-- an entry that is found in a journal and one more is the new one, or was found before
pub slice_get-push_cases : {X : Type 0} (xs : List X) (y : X) (i : ℕ) (x : X) → slice_get (xs ++ y ∷ []) i ≡ Some x → (slice_get xs i ≡ Some x) ⊎ ((i ≡ length xs) × (y ≡ x))
slice_get-push_cases (z ∷ xs) y (suc i) x e = grind (arith, nat_tests, slice_get-push_cases xs y i x e)
slice_get-push_cases xs y i x e = grind (arith, nat_tests)

pub slice_get-each : {X : Type 0} (P : X → Type 0) (xs : List X) (i : ℕ) (x : X) → AllByRecursion P xs → slice_get xs i ≡ Some x → P x
slice_get-each P (z ∷ xs) (suc i) x each e = slice_get-each P xs i x each.1 e
slice_get-each P xs i x each e = grind (arith, nat_tests)

-- an entry with number n is at index n - 1
pub entry_at_place : (journal : List Entry) (n : ℕ) (entry : Entry) → entry_at journal n ≡ Some entry → (n ≢ 0) × (slice_get journal (n - 1) ≡ Some entry)
entry_at_place journal n entry e = grind (arith, nat_tests)
