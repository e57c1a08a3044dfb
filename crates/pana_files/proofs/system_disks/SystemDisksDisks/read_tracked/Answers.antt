use Rattle.std.proofs.Common.{false, refl, sym, true≢false}
use Rattle.pana_roots.specs.Root.{folder_at}
use Rattle.pana_roots.proofs.Readings.{read_of}
use Rattle.pana_files.proofs.system_disks.SystemDisksDisks.read_tracked.Goals as goal

-- nothing is known of the system's disks
pub returns : goal.returns
returns g c =
    read_of _ _ false _ _ _ _ (folder_at c.args.self.now c.args.root.now) c.disk-first.result c.disk-first.result _ c.in_ok-read_in_threads.field-0 c.disk-first.ensures.gives c.disk-first.ensures.gives (λ known. absurd (true≢false (sym known)))
    c.in_ok-read_in_threads.ensures.behind c.in_ok-read_in_threads.ensures.device refl
