use Rattle.pana_scan.proofs.Shared.{copies_shared, taken_numbers}
use Rattle.pana_scan.proofs.laws.each_absent_copy_is_renamed_or_missing.Goals as goal

pub returns-clause-renamed : goal.returns-clause-renamed
returns-clause-renamed c = taken_numbers

pub returns-clause-shared : goal.returns-clause-shared
returns-clause-shared c = copies_shared
