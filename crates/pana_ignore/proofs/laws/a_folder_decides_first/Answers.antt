use Rattle.pana_ignore.proofs.Below.{is_ignored-in}
use Rattle.pana_ignore.proofs.laws.a_folder_decides_first.Goals as goal

pub returns : goal.returns
returns c = is_ignored-in
