-- What never happens.
use Rattle.std.specs.Prelude.{List}
use Rattle.pana_calls.specs.declared.message.Message.{Message}

-- no call is without an answer
abbrev pub IsNever : {S : Type 0} → S → List Message → S → Type 0
IsNever old calls new = ⊥
