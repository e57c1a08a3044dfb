use Rattle.std.proofs.Common.{◌≡◌, List, ap, sym, ◌∙◌, string_bytes, bytes_eq}
use Rattle.std.specs.List.{slice_get}
use Rattle.pana_scan_tests.specs.declared.memory_disk.MemoryFolder.{MemoryFolder}
use Rattle.pana_scan_tests.specs.Memory.{folder_at, names_after}
use Rattle.pana_scan_tests.proofs.Recalled.{begins_not, found_at, none_found}
use Rattle.pana_scan_tests.proofs.memory_disk.MemoryDiskDisk.list.Goals as goal

pub returns-in-Some-clause-begins : goal.returns-in-Some-clause-begins
returns-in-Some-clause-begins c known =
    let folders = c.as_slice.result.now in
    let same : folders ≡ c.args.self.now.folders.items = c.as_slice.ensures.value in
    ap (names_after 0)
    (ap (λ (l : List MemoryFolder). slice_get l c.in-Some.at) (sym same)
    ∙ found_at (λ (folder : MemoryFolder). bytes_eq (string_bytes folder.path) c.args.folder.now) folders c.in-Some.at (sym c.in-Some.is ∙ c.folder_at.ensures)
    ∙ ap (folder_at c.args.folder.now) same)

pub returns-in-None-clause-begins : goal.returns-in-None-clause-begins
returns-in-None-clause-begins c known =
    let folders = c.as_slice.result.now in
    let same : folders ≡ c.args.self.now.folders.items = c.as_slice.ensures.value in
    begins_not (Unit {0}) (folder_at c.args.folder.now c.args.self.now.folders.items) c.list_failed.result _
    (ap (folder_at c.args.folder.now) (sym same)
    ∙ none_found (λ (folder : MemoryFolder). bytes_eq (string_bytes folder.path) c.args.folder.now) folders (sym c.in-None.is ∙ c.folder_at.ensures))
    c.list_failed.ensures.fault
