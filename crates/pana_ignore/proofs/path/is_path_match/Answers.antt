use Rattle.std.proofs.Common.{◌&&◌, sym, ◌∙◌, ap}
use Rattle.std.specs.Prelude.{option_copied}
use Rattle.pana_ignore.specs.Pattern.{is_folders, fits_name, is_path_match}
use Rattle.pana_ignore.specs.inner.Runs.{names_left}
use Rattle.pana_ignore.proofs.Ends.{last_at}
use Rattle.pana_ignore.proofs.path.is_path_match.Goals as goal

pub returns-then-fits : goal.returns-then-fits
returns-then-fits c =
    c.matches_left.ensures
    ∙ sym (last_at is_folders fits_name _ _ _ _ _ _ c.in-Some.ensures.cases.0 c.split_last-in-Some.ensures (sym c.is_folders.ensures ∙ c.if-not-is_folders.true)
    ∙ ap (λ b. b && is_path_match c.in-Some.others.now (names_left (option_copied c.split_last-in-Some.result.0))) (sym c.fits.ensures ∙ c.if-fits.true))

pub returns-else-fits : goal.returns-else-fits
returns-else-fits c =
    c.if-fits.false
    ∙ sym (last_at is_folders fits_name _ _ _ _ _ _ c.in-Some.ensures.cases.0 c.split_last-in-Some.ensures (sym c.is_folders.ensures ∙ c.if-not-is_folders.true)
    ∙ ap (λ b. b && is_path_match c.in-Some.others.now (names_left (option_copied c.split_last-in-Some.result.0))) (sym c.fits.ensures ∙ c.if-fits.false))
