use Rattle.pana_family.proofs.Words.{ap, ◌∙◌, is_single, StampRow}
use Rattle.pana_family.proofs.reporting.duplicate_change.Goals as goal

pub halves-requires : goal.halves-requires
halves-requires c = ap (λ (r : StampRow). is_single r.stamp.id 256) c.row_of-row.ensures.is ∙ c.requires.able.2
