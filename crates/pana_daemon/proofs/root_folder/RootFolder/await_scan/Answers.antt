use Rattle.pana_daemon.proofs.Folders.{awaits_next, awaits_none, awaits_timed}
use Rattle.pana_daemon.proofs.root_folder.RootFolder.await_scan.Goals as goal

pub returns-then-not-begins : goal.returns-then-not-begins
returns-then-not-begins g c = awaits_none c.args.self.now c.in-Some.begins c.in-Some.ensures c.if-not-begins.true

pub returns-in_default-every : goal.returns-in_default-every
returns-in_default-every g c =
    awaits_next _ c.self.inside.looks _ _ c.args.self.now _ c.self.inside.watcher.count c.wait_past.new.watcher.count c.wait_past.result c.is_some.result c.in-Some.begins c.in_default-every.is c.self.view_is c.in-Some.ensures c.if-not-begins.false
    c.wait_past.ensures.seen c.is_some.ensures

pub returns : goal.returns
returns g c =
    awaits_timed _ c.self.inside.looks _ _ c.in-Some-every.seconds c.args.self.now _ c.self.inside.watcher.count c.wait_for.new.watcher.count c.wait_for.result c.in-Some.begins c.in-Some-every.is c.self.view_is c.in-Some.ensures c.if-not-begins.false
    c.wait_for.ensures.seen
