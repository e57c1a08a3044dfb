use Rattle.std.proofs.Common.{◌≡◌, ◌∷◌, ◌++◌, Some, ℕ, ◌<◌, Option, IfSome, subst, sym, ◌∙◌, ap, drop}
use Rattle.std.specs.Prelude.{option_map}
use Rattle.pana_ignore.specs.declared.piece.Piece.{Piece}
use Rattle.pana_ignore.specs.Spelling.{piece_at, pieces_of, pieces_behind}
use Rattle.pana_ignore.specs.inner.Parts.{parts_behind}
use Rattle.pana_ignore.proofs.Behind.{pieces_behind-some, option_map-same, option_map-twice}
use Rattle.pana_ignore.proofs.reading.Reading.read.Goals as goal

pub loop-rest-init : goal.loop-rest-init
loop-rest-init c =
    option_map-same _ (λ pieces. c.begin.new.self.parts.items ++ parts_behind c.begin.new.self.name.items pieces) (pieces_of c.args.text.now)
    (λ pieces.
    ap (λ p. p ++ parts_behind c.args.self.now.name.items pieces) (sym c.in_ok-begin.ensures.parts)
    ∙ ap (λ n. c.begin.new.self.parts.items ++ parts_behind n pieces) (sym c.in_ok-begin.ensures.name))

pub loop-rest-preserved : goal.loop-rest-preserved
loop-rest-preserved c =
    let piece = c.in-Some.piece in
    let found : piece_at c.loop-rest.rest.now ≡ Some (piece, c.in-Some.length) = sym c.in_ok-piece.ensures.piece ∙ c.in-Some.is in
    let some : 0 < c.in-Some.length = subst (λ (o : Option (Piece × ℕ)). IfSome o (λ p. 0 < p.1)) c.in-Some.is c.in_ok-piece.ensures.some in
    c.loop-rest.invariant
    ∙ ap (option_map (λ pieces. c.loop-rest.self.parts.items ++ parts_behind c.loop-rest.self.name.items pieces)) (pieces_behind-some c.loop-rest.rest.now piece c.in-Some.length found some)
    ∙ option_map-twice (λ pieces. c.loop-rest.self.parts.items ++ parts_behind c.loop-rest.self.name.items pieces) (λ others. piece ∷ others) (pieces_behind 0 (drop c.in-Some.length c.loop-rest.rest.now))
    ∙ option_map-same _ _ (pieces_behind 0 (drop c.in-Some.length c.loop-rest.rest.now)) c.in_ok-take.ensures
    ∙ ap (λ rest. option_map (λ pieces. c.take.new.self.parts.items ++ parts_behind c.take.new.self.name.items pieces) (pieces_behind 0 rest)) (sym c.split_at.ensures.back)
