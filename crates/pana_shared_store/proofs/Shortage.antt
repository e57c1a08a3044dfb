-- What a call that is prepared gets, and may get for a shortage.
use Rattle.std.proofs.Common.{◌≡◌, ℕ, ◌+◌, List, ◌++◌, length, Option, inr, refl, sym, ap, subst, ◌∙◌, length-append}
use native.Mathlib.Omega.{arith}
use Rattle.pana_journal.specs.declared.entry.Entry.{Entry}
use Rattle.pana_calls.specs.declared.call.Call.{Call}
use Rattle.pana_calls.specs.declared.call.Call.TheVariants as calls
use Rattle.pana_calls.specs.declared.cause.Cause.{Cause}
use Rattle.pana_calls.specs.declared.cause.Cause.TheVariants.{OutOfMemory}
use Rattle.pana_calls.specs.declared.reply.Reply.TheVariants.{Refused}
use Rattle.pana_hall.specs.Permit.{Permits, PermitsBy, journal_after}
use Rattle.pana_hall.specs.Prepared.{PreparedView, Prepares, entries_of}
use Rattle.pana_hall.specs.Step.{Steps}
use Rattle.pana_shared_store.specs.Store.{MayMake}

longer : (old : List Entry) (prepared : PreparedView) → old ≡ old ++ entries_of prepared → ⊥
longer old prepared is =
    let l : length old ≡ length (old ++ entries_of prepared) = ap length is in
    let p : length (old ++ entries_of prepared) ≡ length old + length (entries_of prepared) = length-append old (entries_of prepared) in
    omega (arith, l, p)

pub shortage : (old : List Entry) (by : List ℕ) (call : Call) (prepared : PreparedView) → Prepares old by call prepared → Steps old by call (Refused OutOfMemory) old
unfolding Permits journal_after
shortage old by (calls.Report report) prepared p = (subst (λ (o : Option Cause). PermitsBy o old (calls.Report report) (Refused OutOfMemory)) (sym p.free) (inr (OutOfMemory, refl, refl)), refl)
shortage old by (calls.Sighting sighting) prepared p = (subst (λ (o : Option Cause). PermitsBy o old (calls.Sighting sighting) (Refused OutOfMemory)) (sym p.free) (inr (OutOfMemory, refl, refl)), refl)
shortage old by (calls.Query query) prepared p = absurd (longer old prepared p.entries)

-- a hall alone makes entries of it
pub may_make : (old : List Entry) (by : List ℕ) (call : Call) (prepared : PreparedView) → Prepares old by call prepared → MayMake old by call
may_make old by call prepared p =
    let l : length (journal_after old by call prepared.reply) ≡ length (old ++ entries_of prepared) = ap length p.entries in
    let parts : length (old ++ entries_of prepared) ≡ length old + length (entries_of prepared) = length-append old (entries_of prepared) in
    (prepared.reply, p.permitted, omega (arith, l, parts))

-- what is made of it
pub prepared_steps : (old : List Entry) (by : List ℕ) (call : Call) (prepared : PreparedView) (new : List Entry) → Prepares old by call prepared → new ≡ old ++ entries_of prepared → Steps old by call prepared.reply new
prepared_steps old by call prepared new p made = (p.permitted, made ∙ sym p.entries)
