-- What a text says, and what was read of it.
use Rattle.std.specs.Prelude.{◌≡◌, Option, Some, None, Result, Ok, Err}
use Rattle.pana_etcd.specs.declared.text_fault.TextFault.{TextFault}
use Rattle.pana_etcd.specs.declared.text_fault.TextFault.TheVariants.{Other, OutOfMemory}

infixl 10 ◌>>=◌
-- what is there, and then the next
abbrev pub ◌>>=◌ : {A B : Type 0} → Option A → (A → Option B) → Option B
(Some x) >>= next = next x
None >>= next = None

-- a fault that was returned: nothing is said; memory may run out for any
abbrev pub Fails : {A : Type 0} → TextFault → Option A → Type 0
Fails Other said = said ≡ None
Fails OutOfMemory said = Unit {0}

-- what was returned is what is said, unless memory ran out
abbrev pub Gives : {A : Type 0} → Result A TextFault → Option A → Type 0
Gives (Ok x) said = said ≡ Some x
Gives (Err fault) said = Fails fault said

-- what was returned shows what is said, unless memory ran out
abbrev pub Shows : {X A : Type 0} → (X → A) → Result X TextFault → Option A → Type 0
Shows show (Ok x) said = said ≡ Some (show x)
Shows show (Err fault) said = Fails fault said
