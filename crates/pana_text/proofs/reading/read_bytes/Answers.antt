use Rattle.pana_text.proofs.Checked.{built_id_normal, built_id_within}
use Rattle.pana_text.proofs.reading.read_bytes.Goals as goal

pub of_node-requires-clause-normal : goal.of_node-requires-clause-normal
of_node-requires-clause-normal c = built_id_normal _ _ _ c.in_ok-check.ensures.ok c.in_ok-id.ensures

pub of_node-requires-clause-within : goal.of_node-requires-clause-within
of_node-requires-clause-within c = built_id_within _ _ _ c.in_ok-check.ensures.ok c.in_ok-id.ensures
