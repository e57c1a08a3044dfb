-- Laws of what a read says, and of why serving stops.
use Rattle.std.proofs.Common.{◌≡◌, ℕ, ◌+◌, ◌-◌, ◌^◌, ◌<◌, min, max, ◌==◌, Bool, true, false, List, [], Option, length, take, refl, ap, subst, ◌∙◌, append-nil, arith}
use Rattle.std.specs.Prelude.{◌&&◌, ◌||◌, not}
use Rattle.std.proofs.lemmas.Bool.{ne_eqb}
use Rattle.std.specs.Io.KnownBytes.{Consumes}
use Rattle.std.proofs.KnownBytes.{Consumes-trans}
use Rattle.pana_wire.specs.declared.tap.Tap.{Tap}
use Rattle.pana_wire.specs.declared.serving.ServeFault.{ServeFault}
use Rattle.pana_wire.specs.declared.serving.ServeFault.TheVariants.{Read, Write, OutOfMemory, NoAnswer, Turns}
use Rattle.pana_wire.specs.Tap.{has_failed}
use Rattle.pana_wire.specs.Session.{HasCause}
use Rattle.pana_wire.specs.inner.Progress.{IsOutFault}

-- a read that gave nothing
pub read_nothing : (a b c : Option (List ℕ)) (input buffer : List ℕ) (n : ℕ) → n ≡ 0 → Consumes a b input → Consumes b c (take n buffer) → Consumes a c input
read_nothing a b c input buffer n none p q =
    let nothing : Consumes b c [] = subst (λ k. Consumes b c (take k buffer)) none q in
    subst (λ l. Consumes a c l) (append-nil input) (Consumes-trans a b c input [] p nothing)

-- a read more, as far as the count goes
pub reads_more : (r m s n : ℕ) → m ≡ max r (min (r + n) (2 ^ 64 - 1)) → s ≡ max m (min (m + 1) (2 ^ 64 - 1)) → s ≡ max r (min (r + (n + 1)) (2 ^ 64 - 1))
reads_more r m s n p q = omega arith

-- a read that failed, or gave a byte, didn't meet the end
pub failed_is_no_end : (old now new : Bool) → now ≡ old → new ≡ (now || false) → new ≡ old
failed_is_no_end old true new e p = p ∙ e
failed_is_no_end old false new e p = p ∙ e

pub byte_is_no_end : (old now new : Bool) (n : ℕ) (buffer : List ℕ) → (n ≡ 0 → ⊥) → now ≡ old → new ≡ (now || ((n == 0) && not (length buffer == 0))) → new ≡ old
byte_is_no_end old now new n buffer some e p =
    let given : (n == 0) ≡ false = ne_eqb n 0 some in
    failed_is_no_end old now new e (p ∙ ap (λ t. now || (t && not (length buffer == 0))) given)

-- a read with room that gave none did
pub none_is_end : (now new : Bool) (n : ℕ) (buffer : List ℕ) → n ≡ 0 → 0 < length buffer → new ≡ (now || ((n == 0) && not (length buffer == 0))) → new ≡ true
none_is_end now new n buffer none room p =
    let empty : length buffer ≡ 0 → ⊥ = λ e. absurd (omega arith) in
    let full : (length buffer == 0) ≡ false = ne_eqb (length buffer) 0 empty in
    p ∙ ap (λ t. now || ((n == 0) && not t)) full ∙ ap (λ k. now || ((k == 0) && true)) none ∙ or_true now
  where
    or_true : (now : Bool) → (now || true) ≡ true
    or_true true = refl
    or_true false = refl

-- a fault of the writer or of the session, where the reader works
pub out_cause : {R : Type 0} (fault : ServeFault) (most : ℕ) (old new : Tap R) (failed : Bool) → has_failed new ≡ false → IsOutFault failed fault → HasCause fault most old new failed
out_cause Read most old new failed works p = absurd p
out_cause Write most old new failed works p = (works, p)
out_cause OutOfMemory most old new failed works p = (works, p)
out_cause NoAnswer most old new failed works p = (works, p)
out_cause Turns most old new failed works p = absurd p
