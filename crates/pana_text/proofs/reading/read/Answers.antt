use Rattle.pana_text.proofs.Exclusion.{only_text}
use Rattle.pana_text.proofs.reading.read.Goals as goal

pub returns-clause-only : goal.returns-clause-only
returns-clause-only c = only_text (λ stamp. (stamp.id, stamp.event)) c.read_bytes.result c.as_bytes.result.now c.args.text.now c.as_bytes.ensures.value c.read_bytes.ensures.found c.read_bytes.ensures.says
