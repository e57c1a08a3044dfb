-- The files that are seen, as the code has them.
use Rattle.std.specs.Prelude.{List, map, filter}
use Rattle.pana_scan.specs.declared.seen.SeenFile.{SeenFile}
use Rattle.pana_scan.specs.Notice.{File}

abbrev pub file_of : SeenFile → File
file_of file = record { path = file.path.now; sum = file.sum }

abbrev pub all_files : List SeenFile → List File
all_files = map file_of

-- those at whose paths no copy is
abbrev pub new_files : List SeenFile → List File
new_files files = all_files (filter (λ file. file.is_new) files)
