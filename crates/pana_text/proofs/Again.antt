-- What spells two trees is read as what a reader makes of them.
use Rattle.std.proofs.Common.{◌≡◌, ℕ, zero, suc, ◌^◌, ◌<◌, ◌≤◌, false, List, [], ◌∷◌, ◌++◌, length, get_or, refl, sym, ap, ◌∙◌, subst, arith, Result, Ok, Err}
use Rattle.std.specs.Prelude.{decimal}
use Rattle.std.proofs.lemmas.Bool.{ne_eqb}
use Rattle.pana_id.specs.Id.{Id, zero_id, one_id, pair, depth as depth_of_id}
use Rattle.pana_event.specs.Event.{Event, leaf as leaf_of, fork as fork_of, greatest, depth}
use Rattle.pana_text.specs.declared.fault.TextFault.{TextFault}
use Rattle.pana_text.specs.declared.fault.TextFault.TheVariants.{TooDeep}
use Rattle.pana_text.specs.inner.Reading.{◌>>=◌, after_comma, fork_number_at, fork_closed, leaf_at, OfId, id_at, OfEvent, event_or, fork_at, event_at, stamp_at}
use Rattle.pana_text.specs.Text.{in_two, in_three, id_text, event_text, IsTextOf}
use Rattle.pana_text.specs.Grammar.{is_digit, IsNumber, number_from, Spelled, leaf, fork, HasNumbers, spelling, event_of, Spells}
use Rattle.pana_text.proofs.Appends.{two_parts, three_parts}
use Rattle.pana_text.proofs.Folds.{folded_id, folded, closed, after_left, fork_after_left, after_number, closing, after_id, id_part}
use Rattle.pana_text.proofs.Numbers.{digit_or_zero, number-again, number-decimal, decimal-number, decimal-value}

-- ---- ids

id-again : {A : Type 0} (of : OfId A) (total n : ℕ) (i : Id) (rest : List ℕ) → depth_of_id i ≤ n → id_at of total n (id_text i ++ rest) ≡ Ok (folded_id of i, rest)
id-again of total zero zero_id rest h = refl
id-again of total zero one_id rest h = refl
id-again of total zero (pair l r) rest h = absurd (omega arith)
id-again of total (suc n) zero_id rest h = refl
id-again of total (suc n) one_id rest h = refl
id-again of total (suc n) (pair l r) rest h =
    ap (λ (t : List ℕ). id_at of total (suc n) t) (two_parts (id_text l) (id_text r) rest)
    ∙ (ap (λ (x : Result (_ × List ℕ) TextFault). x >>= after_left of total (id_at of total n)) (id-again of total n l (44 ∷ (id_text r ++ (41 ∷ rest))) (omega arith))
    ∙ ap (λ (x : Result (_ × List ℕ) TextFault). x >>= closed of total (folded_id of l)) (id-again of total n r (41 ∷ rest) (omega arith)))

-- ---- events

leaf-branch : {N A : Type 0} (of : OfEvent N A) (total : ℕ) (opened : List ℕ → Result (A × List ℕ) TextFault) (text : List ℕ) → 48 ≤ get_or text 0 0 → event_or of total opened text ≡ leaf_at of total text
leaf-branch of total opened [] h = refl
leaf-branch of total opened (b ∷ rest) h = rw (ne_eqb b 40 (λ e. omega arith)) refl

leaf-again : {N A : Type 0} (of : OfEvent N A) (total b : ℕ) (ds : List ℕ) (opened : List ℕ → Result (A × List ℕ) TextFault) (rest : List ℕ) → IsNumber ds → is_digit b ≡ false → event_or of total opened (ds ++ (b ∷ rest)) ≡ Ok (of.of_leaf (of.of_number (number_from 0 ds)), b ∷ rest)
leaf-again of total b ds opened rest h stops =
    leaf-branch of total opened (ds ++ (b ∷ rest)) (digit_or_zero ds (b ∷ rest) h)
    ∙ ap (λ (x : Result (_ × List ℕ) TextFault). x >>= λ n. Ok (of.of_leaf n.0, n.1)) (number-again of.of_number total b ds rest h stops)

fork_number-again : {N : Type 0} (num : ℕ → N) (total : ℕ) (ds rest : List ℕ) → IsNumber ds → fork_number_at num total (ds ++ (44 ∷ rest)) ≡ Ok (num (number_from 0 ds), rest)
unfolding fork_number_at
fork_number-again num total ds rest h = ap (λ (x : Result (_ × List ℕ) TextFault). x >>= after_comma total) (number-again num total 44 ds rest h refl)

event-again : {N A : Type 0} (of : OfEvent N A) (total n : ℕ) (s : Spelled) (b : ℕ) (rest : List ℕ) → depth (event_of s) ≤ n → HasNumbers s → is_digit b ≡ false → event_at of total n (spelling s ++ (b ∷ rest)) ≡ Ok (folded of (event_of s), b ∷ rest)
event-again of total zero (leaf ds) b rest h is stops = leaf-again of total b ds (λ _. Err TooDeep) rest is stops
event-again of total zero (fork ds l r) b rest h is stops = absurd (omega arith)
event-again of total (suc n) (leaf ds) b rest h is stops = leaf-again of total b ds (fork_at of total (event_at of total n)) rest is stops
event-again of total (suc n) (fork ds l r) b rest h is stops =
    let half = event_at of total n in
    ap (λ (t : List ℕ). event_at of total (suc n) t) (three_parts ds (spelling l) (spelling r) (b ∷ rest))
    ∙ (ap (λ (x : Result (_ × List ℕ) TextFault). x >>= after_number of total half) (fork_number-again of.of_number total ds (spelling l ++ (44 ∷ (spelling r ++ (41 ∷ (b ∷ rest))))) is.0)
    ∙ (ap (λ (x : Result (_ × List ℕ) TextFault). x >>= fork_after_left of total half (of.of_number (number_from 0 ds))) (event-again of total n l 44 (spelling r ++ (41 ∷ (b ∷ rest))) (omega arith) is.1 refl)
    ∙ ap (λ (x : Result (_ × List ℕ) TextFault). x >>= fork_closed of total (of.of_number (number_from 0 ds)) (folded of (event_of l))) (event-again of total n r 41 (b ∷ rest) (omega arith) is.2 refl)))

-- ---- stamps

parts-again : {A N B : Type 0} (of_id : OfId A) (of : OfEvent N B) (total : ℕ) (i : Id) (s : Spelled) → depth_of_id i ≤ 256 → depth (event_of s) ≤ 256 → HasNumbers s
    → id_part of_id of total 256 (id_text i ++ (44 ∷ (spelling s ++ (41 ∷ [])))) ≡ Ok (folded_id of_id i, folded of (event_of s))
parts-again of_id of total i s di de is =
    ap (λ (x : Result (_ × List ℕ) TextFault). x >>= after_id of total 256) (id-again of_id total 256 i (44 ∷ (spelling s ++ (41 ∷ []))) di)
    ∙ ap (λ (x : Result (_ × List ℕ) TextFault). x >>= closing total (folded_id of_id i)) (event-again of total 256 s 41 [] de is refl)

spelling-again : {A N B : Type 0} (of_id : OfId A) (of : OfEvent N B) (i : Id) (s : Spelled) → depth_of_id i ≤ 256 → depth (event_of s) ≤ 256 → HasNumbers s
    → stamp_at of_id of 256 (in_two (id_text i) (spelling s)) ≡ Ok (folded_id of_id i, folded of (event_of s))
unfolding stamp_at
spelling-again of_id of i s di de is = parts-again of_id of (length (in_two (id_text i) (spelling s))) i s di de is

pub stamp-again : {A N B : Type 0} (of_id : OfId A) (of : OfEvent N B) (text : List ℕ) (i : Id) (e : Event) → Spells text i e → stamp_at of_id of 256 text ≡ Ok (folded_id of_id i, folded of e)
stamp-again of_id of text i e h =
    ap (stamp_at of_id of 256) h.whole
    ∙ (spelling-again of_id of i h.spelled h.id_within (subst (λ (f : Event). depth f ≤ 256) (sym h.event) h.event_within) h.numbers ∙ ap (λ (f : Event). Ok (folded_id of_id i, folded of f)) h.event)

-- ---- the text of a stamp

-- an event with its numbers in decimal
abbrev in_decimal : Event → Spelled
in_decimal (leaf_of n) = leaf (decimal n)
in_decimal (fork_of n l r) = fork (decimal n) (in_decimal l) (in_decimal r)

decimal-spelling : (e : Event) → spelling (in_decimal e) ≡ event_text e
decimal-spelling (leaf_of n) = refl
decimal-spelling (fork_of n l r) =
    ap (λ (t : List ℕ). in_three (decimal n) t (spelling (in_decimal r))) (decimal-spelling l) ∙ ap (λ (t : List ℕ). in_three (decimal n) (event_text l) t) (decimal-spelling r)

decimal-numbers : (e : Event) → greatest e < 2 ^ 64 → HasNumbers (in_decimal e)
decimal-numbers (leaf_of n) h = decimal-number n h
decimal-numbers (fork_of n l r) h = (decimal-number n (omega arith), decimal-numbers l (omega arith), decimal-numbers r (omega arith))

decimal-event : (e : Event) → greatest e < 2 ^ 64 → event_of (in_decimal e) ≡ e
decimal-event (leaf_of n) h = ap leaf_of (decimal-value n h)
decimal-event (fork_of n l r) h =
    ap (λ (m : ℕ). fork_of m (event_of (in_decimal l)) (event_of (in_decimal r))) (decimal-value n (omega arith))
    ∙ (ap (λ (f : Event). fork_of n f (event_of (in_decimal r))) (decimal-event l (omega arith)) ∙ ap (λ (f : Event). fork_of n l f) (decimal-event r (omega arith)))

pub text-spells : (text : List ℕ) (i : Id) (e : Event) → IsTextOf i e text → Spells text i e
text-spells text i e (v, s, t) = record {
  spelled = in_decimal e;
  numbers = decimal-numbers e s.fits;
  event = decimal-event e s.fits;
  whole = t ∙ ap (λ (u : List ℕ). in_two (id_text i) u) (sym (decimal-spelling e));
  id_within = v.within;
  event_within = s.shallow;
}

-- an event whose levels are within the limit has one spelling
pub one_spelling : (s : Spelled) → HasNumbers s → greatest (event_of s) < 2 ^ 64 → spelling s ≡ event_text (event_of s)
one_spelling (leaf ds) h fits = sym (number-decimal ds h fits)
one_spelling (fork ds l r) h fits =
    ap (λ (t : List ℕ). in_three t (spelling l) (spelling r)) (sym (number-decimal ds h.0 (omega arith)))
    ∙ (ap (λ (t : List ℕ). in_three (decimal (number_from 0 ds)) t (spelling r)) (one_spelling l h.1 (omega arith)) ∙ ap (λ (t : List ℕ). in_three (decimal (number_from 0 ds)) (event_text (event_of l)) t) (one_spelling r h.2 (omega arith)))
