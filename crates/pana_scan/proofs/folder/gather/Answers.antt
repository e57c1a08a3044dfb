use Rattle.std.proofs.Common.{Err, arith, refl, ◌∙◌, subst}
use Rattle.pana_scan.specs.declared.folder.Gathered.{Gathered}
use Rattle.pana_scan.specs.Disk.{Tree}
use Rattle.pana_scan.specs.inner.Walk.{IsFolderRead, IsListedTo}
use Rattle.pana_scan.proofs.Walked.{walk_fails, walk_more}
use Rattle.pana_scan.proofs.folder.gather.Goals as goal

pub returns-in-Err-clause-known : goal.returns-in-Err-clause-known
returns-in-Err-clause-known g c known =
    let old : Gathered = record { folders = c.pop.new.self; files = c.loop-folder.gathered.files; skipped = c.loop-folder.gathered.skipped } in
    walk_fails c.args.most (g.D.Disk.tree c.args.disk.now) c.args.root.now c.loop-folder.gathered.folders.items c.pop.new.self.items c.in-Some.folder c.loop-folder.gathered.files.items c.loop-folder.gathered.skipped
    (g.D.Disk.entries c.loop-folder.disk) old c.in-Err.fault (g.D.Disk.entries c.read_folder-read.new.disk) c.read_folder-read.new.gathered (c.loop-folder.invariant.known known) c.in-Some.ensures.items
    (subst (λ (t : Tree). IsFolderRead {T = Unit {0}} c.args.most t c.args.root.now c.in-Some.folder (g.D.Disk.entries c.loop-folder.disk) old (Err c.in-Err.fault) (g.D.Disk.entries c.read_folder-read.new.disk) c.read_folder-read.new.gathered)
    (c.loop-folder.invariant.tree known) (c.in-Err.ensures.known known))

pub loop-folder-preserved : goal.loop-folder-preserved
loop-folder-preserved g c = record {
  known = λ known.
      walk_more (g.D.Disk.tree c.args.disk.now) c.args.root.now c.loop-folder.gathered.folders.items c.pop.new.self.items c.in-Some.folder (g.D.Disk.entries c.loop-folder.disk)
      (record { folders = c.pop.new.self; files = c.loop-folder.gathered.files; skipped = c.loop-folder.gathered.skipped }) (g.D.Disk.entries c.read_folder-read.new.disk) c.read_folder-read.new.gathered
      (c.loop-folder.invariant.known known) c.in-Some.ensures.items refl
      (subst
      (λ (t : Tree). IsListedTo t c.args.root.now c.in-Some.folder (g.D.Disk.entries c.loop-folder.disk)
      (record { folders = c.pop.new.self; files = c.loop-folder.gathered.files; skipped = c.loop-folder.gathered.skipped }) (g.D.Disk.entries c.read_folder-read.new.disk) c.read_folder-read.new.gathered)
      (c.loop-folder.invariant.tree known) (c.in-Ok.ensures.known known))
      (omega (arith, c.in-Ok.ensures.entries, c.requires.few));
  tree = λ known. c.in-Ok.ensures.tree known ∙ c.loop-folder.invariant.tree known;
  failed = c.in-Ok.ensures.failed;
  entries = c.in-Ok.ensures.entries;
  faults = c.in-Ok.ensures.faults ∙ c.loop-folder.invariant.faults;
}
