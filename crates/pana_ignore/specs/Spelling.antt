-- What the text of a pattern's pieces says.
use Rattle.std.specs.Prelude.{ℕ, zero, suc, ◌+◌, ◌-◌, ◌==◌, nat_lt, Bool, true, false, not, ◌&&◌, ◌||◌, if◌then◌else◌, List, [], ◌∷◌, take, drop, slice_index, Option, None, Some, option_map, option_and_then, position, bytes_eq, codes}
use Rattle.pana_ignore.specs.declared.byte_class.ByteClass.{ByteClass}
use Rattle.pana_ignore.specs.declared.byte_class.ByteClass.TheVariants.{Alnum, Alpha, Blank, Cntrl, Digit, Graph, Lower, Print, Punct, Space, Upper, Xdigit}
use Rattle.pana_ignore.specs.declared.piece.SetItem.{SetItem}
use Rattle.pana_ignore.specs.declared.piece.SetItem.TheVariants.{Range, Class}
use Rattle.pana_ignore.specs.declared.piece.Piece.{Piece}
use Rattle.pana_ignore.specs.declared.piece.Piece.TheVariants.{Star, Byte, Set}
use Rattle.pana_ignore.specs.declared.set_item.Before.{Before}
use Rattle.pana_ignore.specs.declared.set_item.Before.TheVariants.{Start, After, Apart}
use Rattle.pana_ignore.specs.declared.set_item.Item.{Item}

-- ---- single bytes

-- the byte at the head of a text, and how many bytes it takes: two where a backslash quotes it. A lone backslash is none
abbrev pub byte_at : List ℕ → Option (ℕ × ℕ)
byte_at [] = None
byte_at (b ∷ []) = if b == 92 then None else Some (b, 1)
byte_at (b ∷ c ∷ rest) = if b == 92 then Some (c, 2) else Some (b, 1)

-- ---- items of sets

-- the class of this name
abbrev pub class_named : List ℕ → Option ByteClass
class_named name =
    if bytes_eq name (codes "alnum") then Some Alnum else
    (if bytes_eq name (codes "alpha") then Some Alpha else
    (if bytes_eq name (codes "blank") then Some Blank else
    (if bytes_eq name (codes "cntrl") then Some Cntrl else
    (if bytes_eq name (codes "digit") then Some Digit else
    (if bytes_eq name (codes "graph") then Some Graph else
    (if bytes_eq name (codes "lower") then Some Lower else
    (if bytes_eq name (codes "print") then Some Print else
    (if bytes_eq name (codes "punct") then Some Punct else
    (if bytes_eq name (codes "space") then Some Space else
    (if bytes_eq name (codes "upper") then Some Upper else
    (if bytes_eq name (codes "xdigit") then Some Xdigit else None)))))))))))

-- an item, how many bytes it takes, and what it is to a `-` behind it
abbrev pub item : SetItem → ℕ → Before → Item
item what bytes next = record { item = what; length = bytes; next = next }

-- one byte, from which a `-` leads on
abbrev pub byte_item : List ℕ → Option Item
byte_item text = option_map (λ b. item (Range b.0 b.0) b.1 (After b.0)) (byte_at text)

-- a `-` behind a byte, and before something other than the end of the set
abbrev pub goes_on : List ℕ → Bool
goes_on [] = false
goes_on (b ∷ []) = false
goes_on (b ∷ c ∷ rest) = (b == 45) && not (c == 93)

-- the bytes up to the one behind the `-`
abbrev pub range_item : ℕ → List ℕ → Option Item
range_item first text = option_map (λ b. item (Range first b.0) (b.1 + 1) Apart) (byte_at text)

-- what stands behind `[:`, which it ends at the place of a `]`: a name and `:`, or else the `[` is a byte like others
abbrev pub class_item : List ℕ → List ℕ → ℕ → Option Item
class_item text behind end =
    if nat_lt 0 end && (slice_index behind (end - 1) == 58)
    then option_map (λ class. item (Class class) (end + 3) Apart) (class_named (take (end - 1) behind))
    else byte_item text

-- an item that goes on with no range
abbrev pub plain_item : List ℕ → Option Item
plain_item [] = None
plain_item (b ∷ []) = byte_item (b ∷ [])
plain_item (b ∷ c ∷ rest) =
    if (b == 91) && (c == 58) then option_and_then (class_item (b ∷ c ∷ rest) rest) (position (λ d. d == 93) rest) else byte_item (b ∷ c ∷ rest)

-- the item at the head of a text, by what stands before it
abbrev pub item_at : Before → List ℕ → Option Item
item_at Start text = plain_item text
item_at Apart text = plain_item text
item_at (After first) text = if goes_on text then range_item first (drop 1 text) else plain_item text

-- ---- sets

-- a `]` closes a set, but not as its first byte
abbrev pub closes : Before → ℕ → Bool
closes Start b = false
closes Apart b = b == 93
closes (After first) b = b == 93

-- one item more, and its bytes
abbrev pub with_item : Item → Option (List SetItem × ℕ) → Option (List SetItem × ℕ)
with_item one None = None
with_item one (Some (others, bytes)) = Some (one.item ∷ others, one.length + bytes)

-- the items of a set up to its `]`, and how many bytes they take with it, from what stands behind so many bytes that
-- belong to the item before
abbrev pub items_behind : ℕ → Before → List ℕ → Option (List SetItem × ℕ)
items_behind skip before [] = None
items_behind (suc skip) before (b ∷ rest) = items_behind skip before rest
items_behind zero before (b ∷ rest) =
    if closes before b then Some ([], 1)
    else option_and_then (λ one. with_item one (items_behind (one.length - 1) one.next rest)) (item_at before (b ∷ rest))

-- the set of these items, and how many bytes it takes, with these that stand before them
abbrev pub set_of : Bool → ℕ → List SetItem × ℕ → Piece × ℕ
set_of is_negated before (items, bytes) = (Set (record { is_negated = is_negated; items = items }), before + bytes)

-- the set whose `[` stands before the text, and how many bytes it takes
abbrev pub set_at : List ℕ → Option (Piece × ℕ)
set_at [] = None
set_at (b ∷ rest) =
    if (b == 33) || (b == 94) then option_map (set_of true 2) (items_behind 0 Start rest)
    else option_map (set_of false 1) (items_behind 0 Start (b ∷ rest))

-- ---- pieces

-- `?`: one byte, whichever it is
abbrev pub any_byte : Piece
any_byte = Set (record { is_negated = true; items = [] })

-- the piece at the head of a text, and how many bytes it takes
abbrev pub piece_at : List ℕ → Option (Piece × ℕ)
piece_at [] = None
piece_at (b ∷ rest) =
    if b == 42 then Some (Star, 1) else
    (if b == 63 then Some (any_byte, 1) else
    (if b == 91 then set_at rest else option_map (λ c. (Byte c.0, c.1)) (byte_at (b ∷ rest))))

-- the pieces of what stands behind so many bytes that belong to the piece before. None of a text that ends in a lone
-- backslash, or in a set that isn't closed or names a class that there isn't
abbrev pub pieces_behind : ℕ → List ℕ → Option (List Piece)
pieces_behind skip [] = Some []
pieces_behind (suc skip) (b ∷ rest) = pieces_behind skip rest
pieces_behind zero (b ∷ rest) = option_and_then (λ found. option_map (λ others. found.0 ∷ others) (pieces_behind (found.1 - 1) rest)) (piece_at (b ∷ rest))

-- the pieces that a text spells
abbrev pub pieces_of : List ℕ → Option (List Piece)
pieces_of text = pieces_behind 0 text
