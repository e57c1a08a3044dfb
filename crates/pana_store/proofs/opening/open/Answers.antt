use Rattle.std.proofs.Common.{sym, subst}
use Rattle.pana_store.specs.Entries.{LoadsTo}
use Rattle.pana_store.proofs.Begun.{loads_begun}
use Rattle.pana_store.proofs.opening.open.Goals as goal

pub returns-in-Ok-clause-kept : goal.returns-in-Ok-clause-kept
returns-in-Ok-clause-kept g c known works =
    let hall = c.in_ok-opened.opened.hall in
    let read = g.D.Device.seen c.read.new.log.device in
    let new = g.D.Device.seen c.make_ready.new.log.device in
    let loads : LoadsTo hall read = subst (LoadsTo hall) (sym (c.read.ensures.same known)) (c.in_ok-opened.ensures.hall known) in
    (c.in-Ok.ensures.settled known, loads_begun hall read new (c.in-Ok.ensures.lines known) loads, c.in-Ok.ensures.covers known)
