use Rattle.pana_ignore.specs.Pattern.{is_folders, fits_name}
use Rattle.pana_ignore.proofs.InParts.{parts_of_match, match_of_parts}
use Rattle.pana_ignore.proofs.laws.paths_match_in_parts.Goals as goal

pub returns : goal.returns
returns c = λ units items. (parts_of_match is_folders fits_name units items, match_of_parts is_folders fits_name units items)
