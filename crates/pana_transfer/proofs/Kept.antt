-- A part that is kept, and then the rest.
use Rattle.std.proofs.Common.{◌≡◌, ◌∙◌, ap, ℕ, List, ◌∷◌, ◌++◌}
use Rattle.pana_journal.specs.declared.entry.Entry.{Entry}
use Rattle.pana_calls.specs.declared.call.Call.{Call}
use Rattle.pana_calls.specs.declared.answer.Answer.{Answer}
use Rattle.pana_transfer.specs.Transfer.{Keeps, Remakes}

module _ {S : Type 0} (step : S → List ℕ → Call → Answer → S → Type 0) (settles : S → S → Type 0) where
  pub kept_behind : (old made kept new : S) (front back entries : List Entry) → front ++ back ≡ entries
      → Remakes step settles old front made → settles made kept → Keeps step settles kept back new → Keeps step settles old entries new
  kept_behind old made kept new front back entries is remakes settled (parts, are, keeps) = (front ∷ parts, ap (λ rest. front ++ rest) are ∙ is, (made, kept, remakes, settled, keeps))
