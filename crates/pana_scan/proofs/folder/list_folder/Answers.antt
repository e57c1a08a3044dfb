use Rattle.std.proofs.Common.{◌≡◌, ◌∙◌, subst}
use Rattle.pana_scan.specs.Disk.{Begins}
use Rattle.pana_scan.specs.Names.{whole_text}
use Rattle.pana_scan.specs.Order.{Path}
use Rattle.std.specs.Prelude.{option_copied}
use Rattle.pana_scan.proofs.folder.list_folder.Goals as goal

pub returns-clause-begins : goal.returns-clause-begins
returns-clause-begins g c = λ known.
    let name : c.as_str.result.now ≡ whole_text c.args.root.now (option_copied c.args.folder) = c.as_str.ensures.value ∙ c.in_ok-whole.ensures in
    subst (λ (p : Path). Begins ((g.D.Disk.tree c.args.disk.now).names p) c.list-listed.result (g.D.Disk.names c.list-listed.new.self)) name (c.list-listed.ensures.begins known)
