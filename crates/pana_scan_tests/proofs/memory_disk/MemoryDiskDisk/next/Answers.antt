use Rattle.std.proofs.Common.{◌≡◌, List, Some, None, ap, sym, ◌∙◌, subst, false, true}
use Rattle.std.specs.List.{slice_get}
use Rattle.std.specs.Prelude.{Err}
use Rattle.pana_scan.specs.declared.disk_fault.DiskFault.{DiskFault}
use Rattle.std.proofs.lemmas.Option.{slice_get_past}
use Rattle.pana_scan.specs.declared.entry.Entry.{Entry}
use Rattle.pana_scan_tests.specs.declared.memory_disk.MemoryFolder.{MemoryFolder}
use Rattle.pana_scan.specs.Disk.{Gives}
use Rattle.pana_scan_tests.specs.Memory.{names_of}
use Rattle.pana_scan_tests.proofs.Recalled.{gives_end, gives_next, item_at}
use Rattle.pana_scan_tests.proofs.memory_disk.MemoryDiskDisk.next.Goals as goal

pub returns-in-Some-get-clause-gives : goal.returns-in-Some-get-clause-gives
returns-in-Some-get-clause-gives c known =
    let disk = c.args.self.now in
    let here : slice_get disk.folders.items disk.folder ≡ Some c.in-Some.folder.now =
    ap (λ (l : List MemoryFolder). slice_get l disk.folder) (sym c.deref.ensures.value) ∙ item_at c.deref.result.now disk.folder c.in-Some.folder.now (c.in-Some.ensures.lookup.3.0, c.in-Some.ensures.lookup.1) in
    let next : slice_get c.in-Some.folder.now.entries.items disk.given ≡ Some c.in_ok-entry.entry =
    ap (λ (l : List Entry). slice_get l disk.given) (sym c.deref-2.ensures.value) ∙ item_at c.deref-2.result.now disk.given c.in-Some-get.entry.now (c.in-Some-get.ensures.lookup.3.0, c.in-Some-get.ensures.lookup.1)
    ∙ ap (λ (e : Entry). Some e) (sym c.in_ok-entry.ensures) in
    gives_next disk.folders.items disk.folder disk.given c.in-Some.folder.now c.in_ok-entry.entry here next

pub returns-then-folder-clause-gives : goal.returns-then-folder-clause-gives
returns-then-folder-clause-gives c known =
    let disk = c.args.self.now in
    let here : slice_get disk.folders.items disk.folder ≡ Some c.in-Some.folder.now =
    ap (λ (l : List MemoryFolder). slice_get l disk.folder) (sym c.deref.ensures.value) ∙ item_at c.deref.result.now disk.folder c.in-Some.folder.now (c.in-Some.ensures.lookup.3.0, c.in-Some.ensures.lookup.1) in
    let none : slice_get c.in-Some.folder.now.entries.items disk.given ≡ None =
    ap (λ (l : List Entry). slice_get l disk.given) (sym c.deref-2.ensures.value) ∙ slice_get_past c.deref-2.result.now disk.given c.in_default-get.ensures.lookup.3 in
    subst (λ (f : DiskFault). Gives (names_of disk) (Err f) (names_of c.list_failed-then-folder.new.self)) (sym c.list_failed-then-folder.ensures.fault)
    (gives_end disk.folders.items disk.folder disk.given c.in-Some.folder.now true here none c.if-folder.true)

pub returns-clause-gives : goal.returns-clause-gives
returns-clause-gives c known =
    let disk = c.args.self.now in
    let here : slice_get disk.folders.items disk.folder ≡ Some c.in-Some.folder.now =
    ap (λ (l : List MemoryFolder). slice_get l disk.folder) (sym c.deref.ensures.value) ∙ item_at c.deref.result.now disk.folder c.in-Some.folder.now (c.in-Some.ensures.lookup.3.0, c.in-Some.ensures.lookup.1) in
    let none : slice_get c.in-Some.folder.now.entries.items disk.given ≡ None =
    ap (λ (l : List Entry). slice_get l disk.given) (sym c.deref-2.ensures.value) ∙ slice_get_past c.deref-2.result.now disk.given c.in_default-get.ensures.lookup.3 in
    gives_end disk.folders.items disk.folder disk.given c.in-Some.folder.now false here none c.if-folder.false
