use Rattle.std.proofs.Common.{sym, ◌∙◌}
use Rattle.pana_daemon.proofs.Folders.{awaits_first, awaits_refused}
use Rattle.pana_daemon.proofs.root_folder.RootFolder.begin.Goals as goal

pub returns-then-not-begins : goal.returns-then-not-begins
returns-then-not-begins g c = awaits_refused _ _ _ _ c.args.self.now _ c.self.inside.watcher.count _ c.self.view_is c.requires (sym c.begins.ensures ∙ c.if-not-begins.true)

pub returns : goal.returns
returns g c = awaits_first _ _ _ _ c.args.self.now _ c.self.inside.watcher.count c.so_far.new.watcher.count _ c.self.view_is c.requires (sym c.begins.ensures ∙ c.if-not-begins.false)
