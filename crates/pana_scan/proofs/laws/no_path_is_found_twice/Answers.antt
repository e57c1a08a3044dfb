use Rattle.pana_scan.proofs.Shared.{found_once}
use Rattle.pana_scan.proofs.laws.no_path_is_found_twice.Goals as goal

pub returns : goal.returns
returns c = found_once
