-- Two states of a session that is of one kind or of another.
use Rattle.std.specs.Prelude.{ℕ}
use Rattle.pana_either.specs.declared.either.EitherSession.{EitherSession}
use Rattle.pana_either.specs.declared.either.EitherSession.TheVariants.{Left, Right}

-- both are of one kind, and related as its states are
abbrev pub alike : {L R : Type 0} → (L → L → Type 0) → (R → R → Type 0) → EitherSession L R → EitherSession L R → Type 0
alike left right (Left a) (Left b) = left a b
alike left right (Right a) (Right b) = right a b
alike left right (Left a) (Right b) = ⊥
alike left right (Right a) (Left b) = ⊥

-- how many things have happened to what the session keeps its state in
abbrev pub moment_of : {L R : Type 0} → (L → ℕ) → (R → ℕ) → EitherSession L R → ℕ
moment_of left right (Left a) = left a
moment_of left right (Right b) = right b
