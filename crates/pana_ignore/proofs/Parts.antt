-- Parts that are read behind others.
use Rattle.std.specs.Prelude.{true, false, List, [], ◌∷◌, ◌++◌}
use Rattle.std.proofs.Common.{◌≡◌, refl, sym, ◌∙◌, ap}
use Rattle.std.proofs.lemmas.Bool.{cond-true, cond-false}
use Rattle.std.proofs.lemmas.List.{append-nil}
use Rattle.pana_ignore.specs.declared.piece.Piece.{Piece}
use Rattle.pana_ignore.specs.Match.{split, onto_first, is_nothing}
use Rattle.pana_ignore.specs.Reading.{is_slash, part_of, last_parts, named_parts}
use Rattle.pana_ignore.specs.inner.Parts.{onto_name, parts_behind}
use Rattle.pana_ignore.proofs.Splits.{is_nothing-split}

onto_name-nil : (names : List (List Piece)) → is_nothing names ≡ false → onto_name [] names ≡ names
onto_name-nil [] h = absurd (cc)
onto_name-nil (first ∷ others) h = refl

-- nothing is read yet
pub parts_behind-nil : (pieces : List Piece) → parts_behind [] pieces ≡ named_parts (split is_slash pieces)
parts_behind-nil pieces = ap named_parts (onto_name-nil (split is_slash pieces) (is_nothing-split is_slash pieces))

-- a slash ends a name
pub parts_behind-slash : (name : List Piece) (piece : Piece) (pieces : List Piece) → is_slash piece ≡ true
    → parts_behind name (piece ∷ pieces) ≡ part_of name ∷ parts_behind [] pieces
parts_behind-slash name piece pieces h =
    ap (λ names. named_parts (onto_name name names)) (cond-true (is_slash piece) ([] ∷ split is_slash pieces) (onto_first piece (split is_slash pieces)) h)
    ∙ cond-false (is_nothing (split is_slash pieces)) (last_parts (name ++ [])) (part_of (name ++ []) ∷ named_parts (split is_slash pieces)) (is_nothing-split is_slash pieces)
    ∙ ap (λ n. part_of n ∷ named_parts (split is_slash pieces)) (append-nil name)
    ∙ ap (λ parts. part_of name ∷ parts) (sym (parts_behind-nil pieces))
