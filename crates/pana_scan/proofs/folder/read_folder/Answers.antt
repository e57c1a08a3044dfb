use Rattle.std.proofs.Common.{◌≡◌, Bool, false, ◌||◌, ◌-◌, ◌++◌, ℕ, Option, Ok, ap, ◌∙◌, subst, arith, rules, if◌then◌else◌, option_copied}
use Rattle.std.specs.Option.{option_to_list}
use Rattle.pana_scan.specs.declared.entry.Entry.{Entry}
use Rattle.pana_scan.specs.Disk.{Gives}
use Rattle.pana_scan.specs.Listing.{counted}
use Rattle.pana_scan.specs.Names.{file_in, is_skipped, whole_text}
use Rattle.pana_scan.specs.Order.{Path}
use Rattle.pana_scan.specs.Tree.{inner_folder}
use Rattle.pana_scan.proofs.Kept.{keeps_more, length_more, listing_begins, listing_more, one_given}
use Rattle.pana_scan.proofs.folder.read_folder.Goals as goal

pub loop-entry-init : goal.loop-entry-init
loop-entry-init g c = record {
  known = λ known.
      listing_begins c.args.folder.now.path (c.args.folder.now.levels - 1) _ _ _ c.args.gathered.now _
      (c.in_ok-list_folder.ensures.begins known ∙ ap (λ (p : Option Path). (g.D.Disk.tree c.args.disk.now).names (whole_text c.args.root.now p)) c.as_ref.ensures.value)
      c.in_ok-list_folder.ensures.entries;
  tree = search rules;
  failed = search rules;
  entries = search rules;
  faults = search rules;
  grows = search rules;
}

pub loop-entry-preserved : goal.loop-entry-preserved
loop-entry-preserved g c = record {
  known = λ known.
      let gives = subst (λ (o : Option Entry). Gives (g.D.Disk.names c.loop-entry.disk) (Ok o) (g.D.Disk.names c.next.new.self)) c.in-Some-2.is (c.in_ok-entry.ensures.gives known) in
      let folder : option_copied c.as_ref-in-Some-2.result ≡ c.args.folder.now.path = c.as_ref-in-Some-2.ensures.value in
      let levels : c.in-Some.levels ≡ c.args.folder.now.levels - 1 = search rules in
      listing_more c.args.folder.now.path (c.args.folder.now.levels - 1) _ _ _ _ c.args.gathered.now _ _ c.loop-entry.gathered c.meet-kept.new.self c.in-Some-2.entry (c.loop-entry.invariant.known known) gives
      (one_given (g.D.Disk.entries c.loop-entry.disk) (g.D.Disk.entries c.next.new.self) c.in_ok-entry.field-0 c.in-Some-2.entry c.in_ok-entry.ensures.entries c.in-Some-2.is (omega (arith, c.loop-entry.invariant.entries, c.requires.few)))
      (λ seen keeps.
      keeps_more c.args.folder.now.path (c.args.folder.now.levels - 1) seen c.in-Some-2.entry c.args.gathered.now c.loop-entry.gathered c.meet-kept.new.self keeps
      (c.in_ok-kept.ensures.folders
      ∙ ap (λ (p : Option Path). c.loop-entry.gathered.folders.items ++ option_to_list (inner_folder p c.in-Some.levels c.in-Some-2.entry)) folder
      ∙ ap (λ (n : ℕ). c.loop-entry.gathered.folders.items ++ option_to_list (inner_folder c.args.folder.now.path n c.in-Some-2.entry)) levels)
      (c.in_ok-kept.ensures.files ∙ ap (λ (p : Option Path). c.loop-entry.gathered.files.items ++ option_to_list (file_in p c.in-Some-2.entry)) folder)
      (c.in_ok-kept.ensures.skipped
      ∙ ap (λ (p : Option Path). if is_skipped p c.in-Some-2.entry then counted c.loop-entry.gathered.skipped 1 else c.loop-entry.gathered.skipped) folder));
  tree = λ known. c.in_ok-entry.ensures.tree known ∙ c.loop-entry.invariant.tree known;
  failed = c.in_ok-entry.ensures.failed ∙ ap (λ (b : Bool). b || false) c.loop-entry.invariant.failed;
  entries = omega (arith, c.met.ensures, c.if-met-most.false);
  faults = c.in_ok-entry.ensures.faults ∙ c.loop-entry.invariant.faults;
  grows = omega (
    arith,
    c.loop-entry.invariant.grows,
    length_more c.loop-entry.gathered.folders.items c.meet-kept.new.self.folders.items _ c.in_ok-kept.ensures.folders,
    one_given (g.D.Disk.entries c.loop-entry.disk) (g.D.Disk.entries c.next.new.self) c.in_ok-entry.field-0 c.in-Some-2.entry c.in_ok-entry.ensures.entries c.in-Some-2.is (omega (arith, c.loop-entry.invariant.entries, c.requires.few)),
  );
}
