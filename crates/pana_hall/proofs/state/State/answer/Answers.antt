use Rattle.pana_hall.proofs.Words.{refl, sym, ap, subst}
use Rattle.pana_calls.specs.declared.reply.Reply.TheVariants as replies
use Rattle.pana_hall.specs.Permit.{Answers}
use Rattle.pana_calls.specs.Holdings.{HaveOwnPaths}
use Rattle.pana_hall.proofs.Places.{found_have_own_paths, page_own_paths}
use Rattle.pana_hall.proofs.state.State.answer.Goals as goal

pub from_vec-requires-in-Holdings : goal.from_vec-requires-in-Holdings
from_vec-requires-in-Holdings c =
    subst HaveOwnPaths (sym c.in_ok-made-in-Holdings.ensures) (page_own_paths _ _ (found_have_own_paths _ _ _ _ c.requires.kept.accepted refl refl))

pub returns-in-Pair-clause-ok : goal.returns-in-Pair-clause-ok
returns-in-Pair-clause-ok c = subst (λ q. Answers c.args.self.now.journal.entries q (replies.Pair c.pair_of.result)) (sym c.in-Pair.is) (ap (λ r. replies.Pair r) c.pair_of.ensures)
