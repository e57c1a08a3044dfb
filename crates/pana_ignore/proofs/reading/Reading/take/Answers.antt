use Rattle.std.proofs.Common.{◌≡◌, ◌∷◌, [], ◌++◌, List, Ok, Err, sym, ◌∙◌, ap, append_assoc}
use Rattle.std.specs.Prelude.{Result, OnOk}
use Rattle.pana_ignore.specs.declared.piece.Piece.{Piece}
use Rattle.pana_ignore.specs.Reading.{part_of}
use Rattle.pana_ignore.specs.inner.Parts.{parts_behind}
use Rattle.pana_ignore.proofs.Parts.{parts_behind-slash}
use Rattle.pana_ignore.proofs.reading.Reading.take.Goals as goal

both : {T E : Type 0} (result : Result T E) (P Q R : Type 0) → (P → Q → R) → OnOk result P → OnOk result Q → OnOk result R
both (Ok x) P Q R make p q = make p q
both (Err e) P Q R make p q = tt

pub returns-then-is_slash : goal.returns-then-is_slash
returns-then-is_slash c =
    let parts = c.args.self.now.parts.items in
    let name = c.args.self.now.name.items in
    let new = c.end_name.new.self in
    both c.end_name.result (new.parts.items ≡ parts ++ part_of name ∷ []) (new.name.items ≡ [])
    ((pieces : List Piece) → parts ++ parts_behind name (c.args.piece ∷ pieces) ≡ new.parts.items ++ parts_behind new.name.items pieces)
    (λ ended none pieces.
    ap (λ p. parts ++ p) (parts_behind-slash name c.args.piece pieces (sym c.is_slash.ensures ∙ c.if-is_slash.true))
    ∙ sym (append_assoc parts (part_of name ∷ []) (parts_behind [] pieces))
    ∙ ap (λ p. p ++ parts_behind [] pieces) (sym ended)
    ∙ ap (λ n. new.parts.items ++ parts_behind n pieces) (sym none))
    c.end_name.ensures.parts c.end_name.ensures.name
