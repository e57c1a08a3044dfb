use Rattle.std.proofs.Common.{◌≡◌, sym, subst, ◌∙◌, ap}
use Rattle.std.specs.Prelude.{IfErr}
use Rattle.pana_roots.proofs.Rooted.{parts, not_false, good_root, no_folder, taken, many, few_pass, many_pass}
use Rattle.pana_copies.specs.Names.{is_device}
use Rattle.pana_roots.specs.Root.{device_of}
use Rattle.pana_roots.proofs.root.root_of.Goals as goal
use Rattle.pana_roots.proofs.root.root_of.Goals.{then-is_empty-via-then-is_empty, then-is_empty-via-else-is_empty+then-has_device, then-is_empty-via-else-is_empty+else-has_device+then-earlier-ge-MOST_ROOTS}

pub returns-then-is_empty : goal.returns-then-is_empty
returns-then-is_empty c =
    let (before, behind) = parts c.args.word.now _ c.split_once.ensures.cases _ c.in-Some.is in
    let is_d : c.in-Ok.device ≡ device_of c.args.word.now = c.in-Ok.ensures.ok ∙ before in
    elim c.then-is_empty.branch [
      | then-is_empty-via-then-is_empty w ↦ no_folder (λ root. root.device) c.args.earlier.now c.args.word.now c.in-Ok.device c.in-Some.folder.now is_d behind (sym c.is_empty.ensures ∙ w.if-is_empty.true)
      | then-is_empty-via-else-is_empty+then-has_device w ↦ taken (λ root. root.device) c.args.earlier.now c.args.word.now c.in-Ok.device c.in-Some.folder.now is_d behind (sym w.has_device.ensures ∙ w.if-has_device.true)
      | then-is_empty-via-else-is_empty+else-has_device+then-earlier-ge-MOST_ROOTS w ↦ many (λ root. root.device) c.args.earlier.now c.args.word.now c.in-Ok.device c.in-Some.folder.now is_d behind (many_pass _ w.if-earlier-ge-MOST_ROOTS.true)
    ]

pub returns : goal.returns
returns c =
    let (before, behind) = parts c.args.word.now _ c.split_once.ensures.cases _ c.in-Some.is in
    let is_d : c.in-Ok.device ≡ device_of c.args.word.now = c.in-Ok.ensures.ok ∙ before in
    (good_root (λ root. root.device) c.args.earlier.now c.args.word.now c.in-Ok.device c.in-Some.folder.now is_d behind (ap is_device c.in-Ok.ensures.ok ∙ not_false (is_device c.in-Some.device.now) c.in-Ok.ensures.bad (λ is. subst (λ r. IfErr r (λ _. ⊥)) is tt)) (sym c.is_empty.ensures ∙ c.if-is_empty.false) (sym c.has_device.ensures ∙ c.if-has_device.false) (few_pass _ c.if-earlier-ge-MOST_ROOTS.false), is_d, behind)
