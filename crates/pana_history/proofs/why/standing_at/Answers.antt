use Rattle.std.proofs.Common.{◌∙◌, ap}
use Rattle.pana_hall.specs.Living.{living}
use Rattle.pana_hall.specs.Status.{standing_at}
use Rattle.pana_history.proofs.Asked.{asked, at_asked}
use Rattle.pana_history.proofs.why.standing_at.Goals as goal

pub returns-in-Some-clause-standing : goal.returns-in-Some-clause-standing
returns-in-Some-clause-standing c =
    let permitted = rw c.in-Some.ensures.reply at c.apply-reply.ensures.permitted in
    at_asked c.args.hall.now c.args.place.now.device c.in_ok-copy.copy c.in-Some.standing permitted ∙ ap (standing_at (living c.args.hall.now)) c.in_ok-copy.ensures

pub returns-in-Some-clause-hall : goal.returns-in-Some-clause-hall
returns-in-Some-clause-hall c = c.apply-reply.ensures.journal ∙ asked c.args.hall.now c.args.place.now.device c.in_ok-copy.copy c.apply-reply.result

pub returns-in-None-clause-hall : goal.returns-in-None-clause-hall
returns-in-None-clause-hall c = c.apply-reply.ensures.journal ∙ asked c.args.hall.now c.args.place.now.device c.in_ok-copy.copy c.apply-reply.result
