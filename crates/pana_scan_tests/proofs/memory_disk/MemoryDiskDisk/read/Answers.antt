use Rattle.std.proofs.Common.{◌≡◌, ℕ, ◌+◌, List, ◌++◌, Some, None, ap, sym, ◌∙◌, refl, arith, false, true}
use Rattle.std.specs.List.{slice_get}
use Rattle.std.proofs.lemmas.Option.{slice_get_past}
use Rattle.pana_scan_tests.specs.declared.memory_disk.MemoryFile.{MemoryFile}
use Rattle.pana_scan_tests.specs.Memory.{content_after_open}
use Rattle.pana_scan_tests.proofs.Recalled.{first_byte, item_at, reads_end, reads_next}
use Rattle.pana_scan_tests.proofs.memory_disk.MemoryDiskDisk.read.Goals as goal

pub returns-in-Some-get-clause-reads : goal.returns-in-Some-get-clause-reads
returns-in-Some-get-clause-reads c known =
    let disk = c.args.self.now in
    let byte = c.in-Some-get.byte.now in
    let here : slice_get disk.files.items disk.file ≡ Some c.in-Some.file.now =
    ap (λ (l : List MemoryFile). slice_get l disk.file) (sym c.deref.ensures.value) ∙ item_at c.deref.result.now disk.file c.in-Some.file.now (c.in-Some.ensures.lookup.3.0, c.in-Some.ensures.lookup.1) in
    let next : slice_get c.in-Some.file.now.bytes.items disk.read ≡ Some byte =
    ap (λ (l : List ℕ). slice_get l disk.read) (sym c.deref-2.ensures.value) ∙ item_at c.deref-2.result.now disk.read byte (c.in-Some-get.ensures.lookup.3.0, c.in-Some-get.ensures.lookup.1) in
    let took = reads_next disk.files.items disk.file disk.read c.in-Some.file.now byte here next in
    ((λ none. absurd (omega (arith, none))), λ some. (took.0 ∙ ap (λ (l : List ℕ). l ++ (content_after_open (disk.read + 1) (slice_get disk.files.items disk.file)).bytes) (first_byte c.args.piece.now byte c.requires), took.1, took.2))

pub returns-then-file-clause-reads : goal.returns-then-file-clause-reads
returns-then-file-clause-reads c known =
    let disk = c.args.self.now in
    let here : slice_get disk.files.items disk.file ≡ Some c.in-Some.file.now =
    ap (λ (l : List MemoryFile). slice_get l disk.file) (sym c.deref.ensures.value) ∙ item_at c.deref.result.now disk.file c.in-Some.file.now (c.in-Some.ensures.lookup.3.0, c.in-Some.ensures.lookup.1) in
    let none : slice_get c.in-Some.file.now.bytes.items disk.read ≡ None =
    ap (λ (l : List ℕ). slice_get l disk.read) (sym c.deref-2.ensures.value) ∙ slice_get_past c.deref-2.result.now disk.read c.in_default-get.ensures.lookup.3 in
    reads_end disk.files.items disk.file disk.read c.in-Some.file.now true here none c.if-file.true

pub returns-clause-reads : goal.returns-clause-reads
returns-clause-reads c known =
    let disk = c.args.self.now in
    let here : slice_get disk.files.items disk.file ≡ Some c.in-Some.file.now =
    ap (λ (l : List MemoryFile). slice_get l disk.file) (sym c.deref.ensures.value) ∙ item_at c.deref.result.now disk.file c.in-Some.file.now (c.in-Some.ensures.lookup.3.0, c.in-Some.ensures.lookup.1) in
    let none : slice_get c.in-Some.file.now.bytes.items disk.read ≡ None =
    ap (λ (l : List ℕ). slice_get l disk.read) (sym c.deref-2.ensures.value) ∙ slice_get_past c.deref-2.result.now disk.read c.in_default-get.ensures.lookup.3 in
    ((λ zero. reads_end disk.files.items disk.file disk.read c.in-Some.file.now false here none c.if-file.false), λ some. absurd (some refl))
