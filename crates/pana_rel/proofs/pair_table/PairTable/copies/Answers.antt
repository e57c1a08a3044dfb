use Rattle.std.specs.Prelude.{◌≡◌, ℕ, Contains}
use Rattle.pana_event.specs.declared.rel.Rel.TheVariants.{Equal}
use Rattle.pana_rel.proofs.Tables.{at_table}
use Rattle.pana_rel.proofs.pair_table.PairTable.copies.Goals as goal

pub returns-clause-itself : goal.returns-clause-itself
returns-clause-itself c =
    at_table _ _ _ c.args.self.now (λ copies rel. (copy : ℕ) → Contains copies copy → rel copy copy ≡ Equal) c.self.view_is c.self.invariant.0.itself
