-- Reading goes on behind what was read.
use Rattle.std.specs.Prelude.{ℕ, zero, suc, ◌+◌, ◌-◌, ◌<◌, false, List, [], ◌∷◌, ◌++◌, drop, Option, None, Some, option_map, option_and_then}
use Rattle.std.proofs.Common.{◌≡◌, refl, sym, ◌∙◌, ap, arith, append_assoc}
use Rattle.std.proofs.lemmas.Bool.{cond-false}
use Rattle.pana_ignore.specs.declared.piece.SetItem.{SetItem}
use Rattle.pana_ignore.specs.declared.piece.Piece.{Piece}
use Rattle.pana_ignore.specs.declared.set_item.Before.{Before}
use Rattle.pana_ignore.specs.declared.set_item.Item.{Item}
use Rattle.pana_ignore.specs.Spelling.{closes, item_at, with_item, items_behind, piece_at, pieces_behind}
use Rattle.pana_ignore.specs.inner.Reading.{with_items}

-- ---- sets

-- what belongs to the item before is passed over
pub items_behind-drop : (skip : ℕ) (before : Before) (text : List ℕ) → items_behind skip before text ≡ items_behind 0 before (drop skip text)
items_behind-drop zero before text = refl
items_behind-drop (suc skip) before [] = refl
items_behind-drop (suc skip) before (b ∷ rest) = items_behind-drop skip before rest

with_items-next : (items : List SetItem) (bytes : ℕ) (one : Item) (found : Option (List SetItem × ℕ))
    → with_items items bytes (with_item one found) ≡ with_items (items ++ one.item ∷ []) (bytes + one.length) found
with_items-next items bytes one None = refl
with_items-next items bytes one (Some (others, more)) =
    ap (λ all. Some (all, bytes + (one.length + more))) (sym (append_assoc items (one.item ∷ []) others))
    ∙ ap (λ n. Some ((items ++ one.item ∷ []) ++ others, n)) (omega arith)

-- one item more is read
pub items_behind-item : (before : Before) (text : List ℕ) (b : ℕ) (rest : List ℕ) (one : Item) (items : List SetItem) (bytes : ℕ)
    → text ≡ b ∷ rest → closes before b ≡ false → item_at before text ≡ Some one → 0 < one.length
    → with_items items bytes (items_behind 0 before text) ≡ with_items (items ++ one.item ∷ []) (bytes + one.length) (items_behind 0 one.next (drop one.length text))
items_behind-item before text b rest one items bytes e goes found some =
    let found' : item_at before (b ∷ rest) ≡ Some one = sym (ap (item_at before) e) ∙ found in
    let left : suc (one.length - 1) ≡ one.length = omega arith in
    let dropped : drop (one.length - 1) rest ≡ drop one.length text = ap (λ n. drop n (b ∷ rest)) left ∙ sym (ap (drop one.length) e) in
    ap (λ t. with_items items bytes (items_behind 0 before t)) e
    ∙ ap (with_items items bytes) (
    cond-false (closes before b) (Some ([], 1)) (option_and_then (λ one. with_item one (items_behind (one.length - 1) one.next rest)) (item_at before (b ∷ rest))) goes
    ∙ ap (option_and_then (λ one. with_item one (items_behind (one.length - 1) one.next rest))) found'
    ∙ ap (with_item one) (items_behind-drop (one.length - 1) one.next rest ∙ ap (items_behind 0 one.next) dropped))
    ∙ with_items-next items bytes one (items_behind 0 one.next (drop one.length text))

-- ---- pieces

pub pieces_behind-drop : (skip : ℕ) (text : List ℕ) → pieces_behind skip text ≡ pieces_behind 0 (drop skip text)
pieces_behind-drop zero text = refl
pieces_behind-drop (suc skip) [] = refl
pieces_behind-drop (suc skip) (b ∷ rest) = pieces_behind-drop skip rest

-- one piece more is read
pub pieces_behind-piece : (text : List ℕ) (b : ℕ) (rest : List ℕ) (piece : Piece) (bytes : ℕ)
    → text ≡ b ∷ rest → piece_at text ≡ Some (piece, bytes) → 0 < bytes
    → pieces_behind 0 text ≡ option_map (λ others. piece ∷ others) (pieces_behind 0 (drop bytes text))
pieces_behind-piece text b rest piece bytes e found some =
    let left : suc (bytes - 1) ≡ bytes = omega arith in
    let dropped : drop (bytes - 1) rest ≡ drop bytes text = ap (λ n. drop n (b ∷ rest)) left ∙ sym (ap (drop bytes) e) in
    ap (pieces_behind 0) e
    ∙ ap (option_and_then (λ found. option_map (λ others. found.0 ∷ others) (pieces_behind (found.1 - 1) rest))) (sym (ap piece_at e) ∙ found)
    ∙ ap (option_map (λ others. piece ∷ others)) (pieces_behind-drop (bytes - 1) rest ∙ ap (pieces_behind 0) dropped)

pub pieces_behind-some : (text : List ℕ) (piece : Piece) (bytes : ℕ) → piece_at text ≡ Some (piece, bytes) → 0 < bytes
    → pieces_behind 0 text ≡ option_map (λ others. piece ∷ others) (pieces_behind 0 (drop bytes text))
pieces_behind-some [] piece bytes found some = absurd (cc)
pieces_behind-some (b ∷ rest) piece bytes found some = pieces_behind-piece (b ∷ rest) b rest piece bytes refl found some

-- ---- what is made of an option's value

pub option_map-same : {A B : Type 0} (f g : A → B) (o : Option A) → ((x : A) → f x ≡ g x) → option_map f o ≡ option_map g o
option_map-same f g None same = refl
option_map-same f g (Some x) same = ap (λ y. Some y) (same x)

pub option_map-twice : {A B C : Type 0} (f : B → C) (g : A → B) (o : Option A) → option_map f (option_map g o) ≡ option_map (λ x. f (g x)) o
option_map-twice f g None = refl
option_map-twice f g (Some x) = refl
