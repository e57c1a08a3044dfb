-- Writes of a device in memory that a crash cuts short.
use Rattle.std.proofs.Common.{◌≡◌, inl, inr, ⊎_elim, ℕ, List, [], ◌∷◌, sym, subst}
use Rattle.pana_log.specs.declared.operation.Operation.{Operation}
use Rattle.pana_log.specs.declared.operation.Operation.TheVariants.{Write, Cut, Sync}
use Rattle.pana_log.specs.Operations.{file_after, LeftAfter, Left}

after_mono : (call : Operation) (file : List ℕ) (p q : List ℕ → Type 0) → ((d : List ℕ) → p d → q d) → (c : List ℕ) → LeftAfter call file p c → LeftAfter call file q c
after_mono (Write at bytes) file p q more c left = ⊎_elim (λ is. inl is) (λ from. inr (from.0, more from.0 from.1, from.2)) left
after_mono (Cut len) file p q more c left = ⊎_elim (λ is. inl is) (λ from. inr (from.0, more from.0 from.1, from.2)) left
after_mono Sync file p q more c left = left

pub left_mono : (calls : List Operation) (file : List ℕ) (p q : List ℕ → Type 0) → ((d : List ℕ) → p d → q d) → (c : List ℕ) → Left file p calls c → Left file q calls c
left_mono [] file p q more c left = more c left
left_mono (call ∷ calls) file p q more c left = left_mono calls (file_after call file) (LeftAfter call file p) (LeftAfter call file q) (after_mono call file p q more) c left

-- one call done, whose outcome this is
pub left_on : (calls : List Operation) (call : Operation) (file durable after : List ℕ) → LeftAfter call file (λ d. d ≡ durable) after → (c : List ℕ) → Left (file_after call file) (λ d. d ≡ after) calls c → Left file (λ d. d ≡ durable) (call ∷ calls) c
left_on calls call file durable after here c left =
    left_mono calls (file_after call file) (λ d. d ≡ after) (LeftAfter call file (λ d. d ≡ durable)) (λ d is. subst (LeftAfter call file (λ e. e ≡ durable)) (sym is) here) c left
