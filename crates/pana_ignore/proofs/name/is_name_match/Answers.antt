use Rattle.std.proofs.Common.{◌&&◌, sym, ◌∙◌, ap}
use Rattle.std.proofs.lemmas.List.{nil_from_length}
use Rattle.pana_ignore.specs.Pattern.{is_star, fits_byte, is_name_match}
use Rattle.pana_ignore.proofs.Ends.{last_at, no_last_at}
use Rattle.pana_ignore.proofs.name.is_name_match.Goals as goal

pub returns-in_default-split_last : goal.returns-in_default-split_last
returns-in_default-split_last c =
    sym (c.loop-piece.invariant ∙ no_last_at is_star fits_byte _ _ _ _ c.in-Some.ensures.cases.0 (nil_from_length _ c.in_default-split_last.ensures.cases) (sym c.is_star.ensures ∙ c.if-is_star.false))

pub returns-then-not-fits : goal.returns-then-not-fits
returns-then-not-fits c =
    sym (c.loop-piece.invariant ∙ last_at is_star fits_byte _ _ _ _ _ _ c.in-Some.ensures.cases.0 c.in-Some-split_last.ensures.cases.0 (sym c.is_star.ensures ∙ c.if-is_star.false)
    ∙ ap (λ b. b && is_name_match c.in-Some.others.now c.in-Some-split_last.left.now) (sym c.fits.ensures ∙ c.if-not-fits.true))

pub loop-piece-preserved : goal.loop-piece-preserved
loop-piece-preserved c =
    c.loop-piece.invariant ∙ last_at is_star fits_byte _ _ _ _ _ _ c.in-Some.ensures.cases.0 c.in-Some-split_last.ensures.cases.0 (sym c.is_star.ensures ∙ c.if-is_star.false)
    ∙ ap (λ b. b && is_name_match c.in-Some.others.now c.in-Some-split_last.left.now) (sym c.fits.ensures ∙ c.if-not-fits.false)
