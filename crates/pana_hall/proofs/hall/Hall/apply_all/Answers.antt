use Rattle.pana_hall.proofs.Words.{nat_tests, append_assoc, length-append, arith}
use Rattle.pana_hall.proofs.Runs.{runs_on}
use Rattle.pana_hall.proofs.hall.Hall.apply_all.Goals as goal

pub loop-by-preserved : goal.loop-by-preserved
loop-by-preserved c =
    let (done, runs, whole) = c.loop-by.invariant.answered in
    let on = runs_on c.args.self.now c.loop-by.self done c.loop-by.replies.items c.in-Some.by c.in-Some.call c.apply.result runs c.apply.ensures.permitted in
    grind (arith, nat_tests, append_assoc, length-append, c.push_reserved.ensures.items, c.apply.ensures.journal, c.in-Some.ensures.items, c.loop-by.invariant.room, c.push_reserved.ensures.capacity)
