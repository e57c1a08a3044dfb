use Rattle.pana_family.proofs.Computed.{update_is}
use Rattle.pana_family.proofs.making.updated_event.Goals as goal

pub returns : goal.returns
returns c = update_is c.args.stamp.now.id c.args.stamp.now.event c.in_ok-event.event (record { grown = c.in_ok-event.ensures.grown; filled = c.in_ok-event.ensures.filled })
