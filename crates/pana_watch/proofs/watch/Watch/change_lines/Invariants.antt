use Rattle.std.proofs.Common.{drop, string_bytes}
use Rattle.pana_watch.proofs.Led.{FollowedSoFar}
use Rattle.pana_watch.proofs.watch.Watch.change_lines.Given as goal

abbrev pub invariant-loop-entry : goal.invariant-loop-entry
invariant-loop-entry g l = FollowedSoFar g.S.Session.step l.fn.by l.fn.self l.fn.session l.fn.entries (string_bytes l.text) l.self l.session (drop l.entry-index l.fn.entries)
