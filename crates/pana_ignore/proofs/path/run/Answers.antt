use Rattle.std.proofs.Common.{◌==◌, arith, sym, ◌∙◌, ap}
use Rattle.std.specs.Prelude.{option_copied}
use Rattle.std.proofs.lemmas.List.{nil_from_length}
use Rattle.pana_ignore.specs.Match.{is_nothing}
use Rattle.pana_ignore.specs.Pattern.{is_folders, fits_name}
use Rattle.pana_ignore.specs.inner.Runs.{names_left}
use Rattle.pana_ignore.proofs.Matches.{one_at, later_one_at, later_wild_at, end_at}
use Rattle.pana_ignore.proofs.Splits.{is_nothing-split}
use Rattle.pana_ignore.proofs.path.run.Goals as goal

pub returns-then-is_folders-clause-later : goal.returns-then-is_folders-clause-later
returns-then-is_folders-clause-later c =
    λ h. later_wild_at is_folders fits_name _ _ _ _ c.in-Some.ensures.cases.0 (sym c.is_folders.ensures ∙ c.if-is_folders.true) (c.loop-part.invariant.later h)

pub loop-part-preserved : goal.loop-part-preserved
loop-part-preserved c =
    let tame = sym c.is_folders.ensures ∙ c.if-is_folders.false in
    let names = ap (λ rest. names_left (option_copied rest)) c.in-Some-rest.is ∙ c.split_first-in-Some.ensures.split in record {
      same = c.loop-part.invariant.same ∙ one_at is_folders fits_name _ _ _ _ _ _ c.in-Some.ensures.cases.0 names tame (sym c.fits.ensures ∙ c.if-not-fits.false);
      later = λ h. later_one_at is_folders fits_name _ _ _ _ _ _ c.in-Some.ensures.cases.0 names tame (c.loop-part.invariant.later h);
      left = omega (arith, c.in-Some.ensures.cases.1, c.loop-part.invariant.left);
    }

pub returns-in-Some-rest-2-clause-outcome : goal.returns-in-Some-rest-2-clause-outcome
returns-in-Some-rest-2-clause-outcome c =
    sym (c.loop-part.invariant.same ∙ end_at is_folders fits_name _ _ (nil_from_length _ c.in_default.ensures.cases)
    ∙ ap (λ rest. is_nothing (names_left (option_copied rest))) c.in-Some-rest-2.is ∙ is_nothing-split (λ b. b == 47) c.in-Some-rest-2.field-0.now)
