-- Words and the roots that they name.
use Rattle.std.proofs.Common.{◌≡◌, refl, sym, ap, subst, ◌∙◌, ℕ, suc, ◌+◌, take, drop, get_or, ◌<◌, ◌≤◌, Bool, true, false, ◌||◌, ◌==◌, not, leb, List, [], ◌∷◌, map, length, ◌++◌, if◌then◌else◌, ◌↔◌, bytes_eq, Option, Some, None, Bor, arith}
use Rattle.std.specs.List.{list_any}
use Rattle.std.proofs.lemmas.List.{length-map, map-append, append_assoc, take-append-drop, take_all, drop_all}
use Rattle.std.proofs.lemmas.Grind.{take_at_read}
use Rattle.std.proofs.Math.Seq.{drop-cons}
use Rattle.std.proofs.lemmas.Bool.Decides.{nat_tests}
use Rattle.std.proofs.lemmas.Str.Pattern.{IsSplitOnceResult, split_once_first}
use Rattle.pana_copies.specs.Names.{is_device}
use Rattle.pana_roots.specs.Root.{device_of, first_bad, folder_of, is_bad_root, texts}

pub any_of_map : {X Y : Type 0} (f : X → Y) (p : Y → Bool) (xs : List X) → list_any p (map f xs) ≡ list_any (λ x. p (f x)) xs
any_of_map f p [] = refl
any_of_map f p (x ∷ xs) = ap (λ b. p (f x) || b) (any_of_map f p xs)

-- the two parts round the first `=` are the device and the folder
pub parts : (word : List ℕ) (r : Option (Bor (List ℕ) × Bor (List ℕ))) → IsSplitOnceResult 61 word r → (x : Bor (List ℕ) × Bor (List ℕ)) → r ≡ Some x
    → (x.0.now ≡ device_of word) × (x.1.now ≡ folder_of word)
parts word r split x is =
    let (inside, front, back) = rw is at (split_once_first 61 word r split (omega arith)) in
    (front, back)

-- what isn't false is true
pub not_false : {A : Type 0} (b : Bool) → (A ↔ (b ≡ false)) → (A → ⊥) → b ≡ true
not_false true iff none = refl
not_false false iff none = absurd (none (iff.1 refl))

or_second : (a b c d : Bool) → b ≡ true → (((a || b) || c) || d) ≡ true
or_second true b c d is = refl
or_second false b c d is = rw is refl

or_third : (a b c d : Bool) → c ≡ true → (((a || b) || c) || d) ≡ true
or_third true b c d is = refl
or_third false true c d is = refl
or_third false false c d is = rw is refl

or_fourth : (a b c d : Bool) → d ≡ true → (((a || b) || c) || d) ≡ true
or_fourth true b c d is = refl
or_fourth false true c d is = refl
or_fourth false false true d is = refl
or_fourth false false false d is = is

or_none : (a b c d : Bool) → a ≡ false → b ≡ false → c ≡ false → d ≡ false → (((a || b) || c) || d) ≡ false
or_none a b c d is-a is-b is-c is-d = rw (is-a, is-b, is-c, is-d) refl

pub few_pass : (n : ℕ) → n < 8 → leb 8 n ≡ false
few_pass n few = grind (arith, nat_tests)

last_false : (a b : Bool) → (a || b) ≡ false → b ≡ false
last_false true b is = cc
last_false false b is = is

pub eighth : (n : ℕ) → leb 8 n ≡ false → n < 8
eighth n few = grind (arith, nat_tests)

pub many_pass : (n : ℕ) → 8 ≤ n → leb 8 n ≡ true
many_pass n many = grind (arith, nat_tests)

module _ {R : Type 0} (device : R → List ℕ) (roots : List R) (word d f : List ℕ) (is_d : d ≡ device_of word) (is_f : f ≡ folder_of word) where
  -- what is found of the parts of a word makes it a bad one, or not
  known_so : (b : Bool) → list_any (λ root. bytes_eq (device root) d) roots ≡ b → list_any (λ known. bytes_eq known (device_of word)) (map device roots) ≡ b
  known_so b is = any_of_map device (λ known. bytes_eq known (device_of word)) roots ∙ ap (λ x. list_any (λ root. bytes_eq (device root) x) roots) (sym is_d) ∙ is

  counted : leb 8 (length roots) ≡ leb 8 (length (map device roots))
  counted = ap (λ n. leb 8 n) (sym (length-map roots device))

  pub good_root : is_device d ≡ true → (length f == 0) ≡ false → list_any (λ root. bytes_eq (device root) d) roots ≡ false → leb 8 (length roots) ≡ false
      → is_bad_root (map device roots) word ≡ false
  good_root named some free few =
      or_none _ _ _ _ (ap not (ap is_device (sym is_d) ∙ named)) (ap (λ x. length x == 0) (sym is_f) ∙ some) (known_so false free) (sym counted ∙ few)

  pub no_folder : (length f == 0) ≡ true → is_bad_root (map device roots) word ≡ true
  no_folder none = or_second (not (is_device (device_of word))) (length (folder_of word) == 0) (list_any (λ known. bytes_eq known (device_of word)) (map device roots)) (leb 8 (length (map device roots))) (ap (λ x. length x == 0) (sym is_f) ∙ none)

  pub taken : list_any (λ root. bytes_eq (device root) d) roots ≡ true → is_bad_root (map device roots) word ≡ true
  taken known = or_third (not (is_device (device_of word))) (length (folder_of word) == 0) (list_any (λ known. bytes_eq known (device_of word)) (map device roots)) (leb 8 (length (map device roots))) (known_so true known)

  pub many : leb 8 (length roots) ≡ true → is_bad_root (map device roots) word ≡ true
  many lots = or_fourth (not (is_device (device_of word))) (length (folder_of word) == 0) (list_any (λ known. bytes_eq known (device_of word)) (map device roots)) (leb 8 (length (map device roots))) (sym counted ∙ lots)

-- how far the first words have come: which roots they name, and that the first bad word is among the others
pub record NamesSo {R : Type 0} (device : R → List ℕ) (folder : R → List ℕ) (before after : List (List ℕ)) (roots : List R) : Type 0 where
  pub devices : map device roots ≡ map device_of before
  pub folders : map folder roots ≡ map folder_of before
  pub bad : first_bad [] (before ++ after) ≡ first_bad (map device roots) after

pub next_root : {R : Type 0} (device folder : R → List ℕ) (before after : List (List ℕ)) (word : List ℕ) (roots : List R) (root : R)
    → NamesSo device folder before (word ∷ after) roots → is_bad_root (map device roots) word ≡ false → device root ≡ device_of word → folder root ≡ folder_of word
    → NamesSo device folder (before ++ word ∷ []) after (roots ++ root ∷ [])
next_root device folder before after word roots root so good is_d is_f = record {
  devices = map-append device roots (root ∷ []) ∙ ap (λ xs. xs ++ device root ∷ []) so.devices ∙ ap (λ x. map device_of before ++ x ∷ []) is_d ∙ sym (map-append device_of before (word ∷ []));
  folders = map-append folder roots (root ∷ []) ∙ ap (λ xs. xs ++ folder root ∷ []) so.folders ∙ ap (λ x. map folder_of before ++ x ∷ []) is_f ∙ sym (map-append folder_of before (word ∷ []));
  bad = ap (λ xs. first_bad [] xs) (append_assoc before (word ∷ []) after) ∙ so.bad
      ∙ ap (λ b. if b then Some word else first_bad (map device roots ++ device_of word ∷ []) after) good
      ∙ ap (λ x. first_bad (map device roots ++ x ∷ []) after) (sym is_d)
      ∙ ap (λ xs. first_bad xs after) (sym (map-append device roots (root ∷ [])));
}

pub first_is_bad : {R : Type 0} (device folder : R → List ℕ) (before after : List (List ℕ)) (word : List ℕ) (roots : List R)
    → NamesSo device folder before (word ∷ after) roots → is_bad_root (map device roots) word ≡ true → first_bad [] (before ++ word ∷ after) ≡ Some word
first_is_bad device folder before after word roots so bad = so.bad ∙ ap (λ b. if b then Some word else first_bad (map device roots ++ device_of word ∷ []) after) bad

texts_next : (words : List (Bor (List ℕ))) (i : ℕ) (d : Bor (List ℕ)) → i < length words → texts (take (i + 1) words) ≡ texts (take i words) ++ (get_or words i d).now ∷ []
texts_next words i d within = ap texts ((take_at_read words i d within).1) ∙ map-append (λ word. word.now) (take i words) (get_or words i d ∷ [])

texts_here : (words : List (Bor (List ℕ))) (i : ℕ) (d : Bor (List ℕ)) → i < length words → texts (drop i words) ≡ (get_or words i d).now ∷ texts (drop (i + 1) words)
texts_here words i d within = let next : suc i ≡ i + 1 = omega arith in ap texts (drop-cons words i d within ∙ ap (λ n. get_or words i d ∷ drop n words) next)

texts_whole : (words : List (Bor (List ℕ))) (i : ℕ) → texts words ≡ texts (take i words) ++ texts (drop i words)
texts_whole words i = ap texts (sym (take-append-drop i words)) ∙ map-append (λ word. word.now) (take i words) (drop i words)

-- the same for the words that slices refer to
abbrev pub NamesTo : {R : Type 0} → (R → List ℕ) → (R → List ℕ) → List (Bor (List ℕ)) → ℕ → List R → Type 0
NamesTo device folder words i roots = NamesSo device folder (texts (take i words)) (texts (drop i words)) roots

module _ {R : Type 0} (device folder : R → List ℕ) (words : List (Bor (List ℕ))) where
  -- beside a good root there is room for one more
  pub room_left : (word : List ℕ) (roots : List R) → is_bad_root (map device roots) word ≡ false → length roots < 8
  room_left word roots good =
      let few = eighth (length (map device roots)) (last_false (not (is_device (device_of word)) || length (folder_of word) == 0 || list_any (λ known. bytes_eq known (device_of word)) (map device roots)) (leb 8 (length (map device roots))) good) in
      let count = length-map roots device in
      omega (arith, few, count)

  pub none_named : NamesTo device folder words 0 []
  none_named = record { devices = refl; folders = refl; bad = refl }

  pub one_more_named : (i : ℕ) (d : Bor (List ℕ)) (roots : List R) (root : R) → i < length words → NamesTo device folder words i roots
      → is_bad_root (map device roots) (get_or words i d).now ≡ false → device root ≡ device_of (get_or words i d).now → folder root ≡ folder_of (get_or words i d).now
      → NamesTo device folder words (i + 1) (roots ++ root ∷ [])
  one_more_named i d roots root within so good is_d is_f =
      subst (λ before. NamesSo device folder before (texts (drop (i + 1) words)) (roots ++ root ∷ [])) (sym (texts_next words i d within))
      (next_root device folder (texts (take i words)) (texts (drop (i + 1) words)) (get_or words i d).now roots root
      (subst (λ after. NamesSo device folder (texts (take i words)) after roots) (texts_here words i d within) so) good is_d is_f)

  pub bad_named : (i : ℕ) (d : Bor (List ℕ)) (roots : List R) → i < length words → NamesTo device folder words i roots
      → is_bad_root (map device roots) (get_or words i d).now ≡ true → first_bad [] (texts words) ≡ Some (get_or words i d).now
  bad_named i d roots within so bad =
      ap (λ all. first_bad [] all) (texts_whole words i ∙ ap (λ after. texts (take i words) ++ after) (texts_here words i d within))
      ∙ first_is_bad device folder (texts (take i words)) (texts (drop (i + 1) words)) (get_or words i d).now roots
      (subst (λ after. NamesSo device folder (texts (take i words)) after roots) (texts_here words i d within) so) bad

  pub all_named : (i : ℕ) (roots : List R) → length words ≤ i → NamesTo device folder words i roots
      → (first_bad [] (texts words) ≡ None) × (map device roots ≡ map device_of (texts words)) × (map folder roots ≡ map folder_of (texts words))
  all_named i roots past so =
      let before : take i words ≡ words = take_all i words past in
      let after : drop i words ≡ [] = drop_all i words past in (
        ap (λ all. first_bad [] all) (texts_whole words i) ∙ so.bad ∙ ap (λ rest. first_bad (map device roots) (texts rest)) after,
        so.devices ∙ ap (λ all. map device_of (texts all)) before,
        so.folders ∙ ap (λ all. map folder_of (texts all)) before,
      )
