-- The entries of a family that count, from the last one back: numbers rise, and the copies that each is about live.
use Rattle.std.proofs.Common.{◌≡◌, ℕ, ◌<◌, ◌≤◌, List, [], ◌∷◌, ◌++◌, length, reverse, true, sym, subst, arith}
use Rattle.std.specs.List.{AllByRecursion}
use Rattle.std.proofs.lemmas.List.{reverse-append, reverse-reverse}
use Rattle.pana_journal.specs.declared.entry.Entry.{Entry}
use Rattle.pana_hall.specs.Accepted.{Accepts, IsAccepted}
use Rattle.pana_hall.specs.Effective.{is_of_copies}
use Rattle.pana_hall.specs.Living.{copies_of}
use Rattle.pana_hall.specs.laws.Layers.{family_of_next}
use Rattle.pana_hall.specs.laws.Tables.{layer}
use Rattle.pana_hall.proofs.Knowns.{Grows, layer_within, layers_hold, read_lives}
use Rattle.pana_hall.proofs.Lists.{each_append, each_weaker}
use Rattle.pana_hall.proofs.Moves.{Lives}
use Rattle.pana_hall.proofs.Sound.{IsSound}
use Rattle.pana_hall.proofs.Tables.{layer_now}
use Rattle.pana_history.specs.Lacking.{family_entries}
use Rattle.pana_history.specs.inner.Alone.{AreFit, IsFit}

-- the last one first
pub reverse-push : {X : Type 0} (xs : List X) (x : X) → reverse (xs ++ x ∷ []) ≡ x ∷ reverse xs
reverse-push xs x = reverse-append xs (x ∷ [])

pub reverse-cons : {X : Type 0} (xs : List X) (x : X) → reverse (x ∷ xs) ≡ reverse xs ++ x ∷ []
reverse-cons xs x = reverse-append (x ∷ []) xs

-- what holds of each holds of each the other way round
pub each_reverse : {X : Type 0} (P : X → Type 0) (xs : List X) → AllByRecursion P xs → AllByRecursion P (reverse xs)
each_reverse P [] all = tt
each_reverse P (x ∷ xs) all = subst (AllByRecursion P) (sym (reverse-cons xs x)) (each_append P (reverse xs) (x ∷ []) (each_reverse P xs all.1) (all.0, tt))

fits_next : (journal : List Entry) (entry : Entry) → IsSound 8 journal → Accepts 8 journal entry → is_of_copies entry.report ≡ true
    → IsFit (layer 8 0 (family_of_next journal entry) journal) → IsFit (layer 8 0 (family_of_next journal entry) journal ++ entry ∷ [])
fits_next journal entry sound accepts is fit =
    let own = layer 8 0 (family_of_next journal entry) journal in
    let next = accepts.next in
    subst AreFit (sym (reverse-push own entry)) (
      each_reverse (λ e. e.number < entry.number) own (each_weaker (λ e. e.number ≤ length journal) (λ e. e.number < entry.number) own (λ e within. omega arith) (layer_within journal 0 (family_of_next journal entry) sound)),
      (λ c names. subst (λ l. Lives (copies_of l) c) (sym (reverse-reverse own)) (read_lives journal entry sound accepts c names)),
      fit,
    )

grows : Grows IsFit
grows = record { none = tt; step = fits_next }

pub fits : (journal : List Entry) (family : ℕ) → IsAccepted 8 journal → IsFit (family_entries journal family)
fits journal family accepted = subst IsFit (layer_now 8 family journal) (layers_hold IsFit grows journal accepted 0 family)
