use Rattle.std.proofs.Common.{arith, sym, ◌∙◌}
use Rattle.std.proofs.lemmas.List.{nil_from_length}
use Rattle.pana_ignore.specs.Pattern.{is_star, fits_byte}
use Rattle.pana_ignore.proofs.Matches.{one_at, none_at, other_at, wild_at, later_one_at, later_wild_at, end_at, is_nothing-length}
use Rattle.pana_ignore.proofs.name.run.Goals as goal

pub returns-then-is_star-clause-outcome : goal.returns-then-is_star-clause-outcome
returns-then-is_star-clause-outcome c =
    sym (c.loop-piece.invariant.same ∙ wild_at is_star fits_byte _ _ _ _ c.in-Some.ensures.cases.0 (sym c.is_star.ensures ∙ c.if-is_star.true))

pub returns-then-is_star-clause-later : goal.returns-then-is_star-clause-later
returns-then-is_star-clause-later c =
    λ h. later_wild_at is_star fits_byte _ _ _ _ c.in-Some.ensures.cases.0 (sym c.is_star.ensures ∙ c.if-is_star.true) (c.loop-piece.invariant.later h)

pub returns-then-is_star-clause-left : goal.returns-then-is_star-clause-left
returns-then-is_star-clause-left c = omega (arith, c.in-Some.ensures.cases.1, c.loop-piece.invariant.left)

pub returns-in_default-split_first-clause-outcome : goal.returns-in_default-split_first-clause-outcome
returns-in_default-split_first-clause-outcome c =
    sym (c.loop-piece.invariant.same ∙ none_at is_star fits_byte _ _ _ _ c.in-Some.ensures.cases.0 (nil_from_length _ c.in_default-split_first.ensures.cases) (sym c.is_star.ensures ∙ c.if-is_star.false))

pub returns-then-not-fits-clause-outcome : goal.returns-then-not-fits-clause-outcome
returns-then-not-fits-clause-outcome c =
    sym (c.loop-piece.invariant.same ∙ other_at is_star fits_byte _ _ _ _ _ _ c.in-Some.ensures.cases.0 c.in-Some-split_first.ensures.cases.0 (sym c.is_star.ensures ∙ c.if-is_star.false) (sym c.fits.ensures ∙ c.if-not-fits.true))

pub loop-piece-smaller : goal.loop-piece-smaller
loop-piece-smaller c = omega (arith, c.in-Some.ensures.cases.1)

pub loop-piece-preserved : goal.loop-piece-preserved
loop-piece-preserved c =
    let tame = sym c.is_star.ensures ∙ c.if-is_star.false in record {
      same = c.loop-piece.invariant.same ∙ one_at is_star fits_byte _ _ _ _ _ _ c.in-Some.ensures.cases.0 c.in-Some-split_first.ensures.cases.0 tame (sym c.fits.ensures ∙ c.if-not-fits.false);
      later = λ h. later_one_at is_star fits_byte _ _ _ _ _ _ c.in-Some.ensures.cases.0 c.in-Some-split_first.ensures.cases.0 tame (c.loop-piece.invariant.later h);
      left = omega (arith, c.in-Some.ensures.cases.1, c.loop-piece.invariant.left);
    }

pub returns-then-is_empty-clause-outcome : goal.returns-then-is_empty-clause-outcome
returns-then-is_empty-clause-outcome c =
    sym (c.loop-piece.invariant.same ∙ end_at is_star fits_byte _ _ (nil_from_length _ c.in_default.ensures.cases) ∙ is_nothing-length _ ∙ sym c.is_empty.ensures ∙ c.if-is_empty.true)

pub returns-else-is_empty-clause-outcome : goal.returns-else-is_empty-clause-outcome
returns-else-is_empty-clause-outcome c =
    sym (c.loop-piece.invariant.same ∙ end_at is_star fits_byte _ _ (nil_from_length _ c.in_default.ensures.cases) ∙ is_nothing-length _ ∙ sym c.is_empty.ensures ∙ c.if-is_empty.false)
