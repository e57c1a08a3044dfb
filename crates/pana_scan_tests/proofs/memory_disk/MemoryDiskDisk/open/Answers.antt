use Rattle.std.proofs.Common.{◌≡◌, List, ap, sym, ◌∙◌, string_bytes, bytes_eq}
use Rattle.std.specs.List.{slice_get}
use Rattle.pana_scan_tests.specs.declared.memory_disk.MemoryFile.{MemoryFile}
use Rattle.pana_scan_tests.specs.Memory.{file_at}
use Rattle.pana_scan_tests.proofs.Recalled.{found_at, none_found, opens_at, opens_not, position_there}
use Rattle.pana_scan_tests.proofs.memory_disk.MemoryDiskDisk.open.Goals as goal

pub returns-in-Some-clause-opens : goal.returns-in-Some-clause-opens
returns-in-Some-clause-opens c known =
    let files = c.as_slice.result.now in
    let same : files ≡ c.args.self.now.files.items = c.as_slice.ensures.value in
    let is = λ (file : MemoryFile). bytes_eq (string_bytes file.path) c.args.file.now in
    let there = position_there is files c.in-Some.at (sym c.in-Some.is ∙ c.file_at.ensures) in
    opens_at c.args.self.now.files.items c.in-Some.at (file_at c.args.file.now c.args.self.now.files.items)
    (ap (λ (l : List MemoryFile). slice_get l c.in-Some.at) (sym same)
    ∙ found_at is files c.in-Some.at (sym c.in-Some.is ∙ c.file_at.ensures)
    ∙ ap (file_at c.args.file.now) same)
    there.0
    (ap (file_at c.args.file.now) (sym same) ∙ there.1)

pub returns-in-None-clause-opens : goal.returns-in-None-clause-opens
returns-in-None-clause-opens c known =
    let files = c.as_slice.result.now in
    let same : files ≡ c.args.self.now.files.items = c.as_slice.ensures.value in
    opens_not (Unit {0}) (file_at c.args.file.now c.args.self.now.files.items) c.file_failed.result _
    (ap (file_at c.args.file.now) (sym same)
    ∙ none_found (λ (file : MemoryFile). bytes_eq (string_bytes file.path) c.args.file.now) files (sym c.in-None.is ∙ c.file_at.ensures))
    c.file_failed.ensures.fault
