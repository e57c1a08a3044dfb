use Rattle.pana_family.proofs.Words.{subst, Plan, CanPlan}
use Rattle.pana_family.proofs.settling.planned_fate.Goals as goal

pub bequeathed_fate-requires-clause-own : goal.bequeathed_fate-requires-clause-own
bequeathed_fate-requires-clause-own c = subst (λ (p : Plan). CanPlan p c.args.rows.now) c.in-Bequeath.is c.requires.can c.args.row.now c.requires.here
