use Rattle.std.proofs.Common.{refl}
use Rattle.pana_shared_store.proofs.Found.{begins_otherwise, begins_same}
use Rattle.pana_shared_store.proofs.placing.placed_from.Goals as goal

pub returns-then-is_record : goal.returns-then-is_record
returns-then-is_record c = begins_same _ _ _ _ c.requires.some c.requires.one c.index.ensures c.index-group-0.is (c.if-is_record.ensures.same refl)

pub returns-else-is_record : goal.returns-else-is_record
returns-else-is_record c = begins_otherwise _ _ _ _ c.requires.some c.requires.one c.index.ensures c.index-group-0.is c.args.page refl (c.if-is_record.ensures.other refl)
