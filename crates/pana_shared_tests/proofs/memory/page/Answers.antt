use Rattle.std.proofs.Common.{Result, Ok, Err}
use Rattle.std.specs.Result.{IfOk}
use Rattle.pana_shared_tests.proofs.Remembered.{page_stands}
use Rattle.pana_shared_tests.proofs.memory.page.Goals as goal

if_ok : {A E : Type 0} (P Q : A → Type 0) (r : Result A E) → ((a : A) → P a → Q a) → IfOk r P → IfOk r Q
if_ok P Q (Ok a) f p = f a p
if_ok P Q (Err e) f p = tt

pub returns-clause-part : goal.returns-clause-part
returns-clause-part c = if_ok _ _ c.copy_group.result (λ page is some. page_stands c.args.from c.min-start.result _ c.args.records.now page.items c.min-start.ensures is some) c.copy_group.ensures
