-- What stands in a list of names or of reports that one more is put into.
use Rattle.std.specs.Prelude.{◌≡◌, ℕ, zero, suc, ◌<◌, List, [], ◌∷◌, ◌++◌, length, get_or, Some, slice_get}
use Rattle.std.proofs.Common.{refl, arith, sym}
use Rattle.std.proofs.lemmas.Option.{slice_get_read, get_or_from_slice_get}
use Rattle.pana_journal.specs.inner.Lines.{Keeps}

pub keeps_all : {X : Type 0} (xs : List X) → Keeps xs xs
keeps_all xs i within = refl

pub keeps_pushed : {X : Type 0} (xs : List X) (x : X) → Keeps xs (xs ++ x ∷ [])
keeps_pushed [] x i within = absurd (omega (arith, within))
keeps_pushed (y ∷ xs) x zero within = refl
keeps_pushed (y ∷ xs) x (suc i) within = keeps_pushed xs x i (omega (arith, within))

pub last_pushed : {X : Type 0} (xs : List X) (x : X) → slice_get (xs ++ x ∷ []) (length xs) ≡ Some x
last_pushed [] x = refl
last_pushed (y ∷ xs) x = last_pushed xs x

-- what is read where an item stands is that item, whatever would be read elsewhere
pub read_there : {X : Type 0} (xs : List X) (i : ℕ) (x d : X) → i < length xs → x ≡ get_or xs i x → x ≡ get_or xs i d
read_there xs i x d within is = sym (get_or_from_slice_get xs i x d (slice_get_read xs (length xs) i x refl within is))
