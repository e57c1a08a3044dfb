-- Where the lines of notes end.
use Rattle.std.proofs.Common.{◌≡◌, ℕ, cond, List, [], ◌∷◌, ◌++◌, ◌⊎◌, inl, inr, refl, sym, ap, ◌∙◌, ⊎_elim, append-nil, append_assoc}
use Rattle.pana_wire.specs.Lines.{unended}
use Rattle.pana_wire.specs.Tap.{Note, noted_at, bytes_in}
use Rattle.pana_wire.proofs.OneLine.{IsInLine}

pub unended_alone : (begun text : List ℕ) → IsInLine text → unended begun text ≡ begun ++ text
unended_alone begun [] line = sym (append-nil begun)
unended_alone begun (b ∷ text) line =
    ap (λ t. cond t (unended [] text) (unended (begun ++ b ∷ []) text)) line.0 ∙ unended_alone (begun ++ b ∷ []) text line.1 ∙ append_assoc begun (b ∷ []) text

pub unended_after : (begun text rest : List ℕ) → IsInLine text → unended begun (text ++ 10 ∷ rest) ≡ unended [] rest
unended_after begun [] rest line = refl
unended_after begun (b ∷ text) rest line =
    ap (λ t. cond t (unended [] (text ++ 10 ∷ rest)) (unended (begun ++ b ∷ []) (text ++ 10 ∷ rest))) line.0 ∙ unended_after (begun ++ b ∷ []) text rest line.1

first_byte : List Note → ℕ
first_byte [] = 0
first_byte (note ∷ notes) = note.byte

first_moment : List Note → ℕ
first_moment [] = 0
first_moment (note ∷ notes) = note.moment

others : List Note → List Note
others [] = []
others (note ∷ notes) = notes

-- the newline is that of the line, or comes in the rest
abbrev pub EndsHere : ℕ → List ℕ → List Note → List Note → ℕ → List Note → Type 0
EndsHere moment text rest before t after = ((bytes_in before ≡ text) × (t ≡ moment))
    ⊎ ((later : List Note) × (bytes_in before ≡ text ++ 10 ∷ bytes_in later) × (rest ≡ later ++ record { byte = 10; moment = t } ∷ after))

pub ends_at : (moment : ℕ) (text : List ℕ) (rest before : List Note) (t : ℕ) (after : List Note) → IsInLine text
    → noted_at moment (text ++ 10 ∷ []) ++ rest ≡ before ++ record { byte = 10; moment = t } ∷ after → EndsHere moment text rest before t after
unfolding first_byte first_moment others
ends_at moment [] rest [] t after line is = inl (refl, sym (ap first_moment is))
ends_at moment [] rest (note ∷ before) t after line is =
    inr (before, ap (λ (b : ℕ). b ∷ bytes_in before) (sym (ap first_byte is)), ap others is)
ends_at moment (b ∷ text) rest [] t after line is =
    let newline : b ≡ 10 = ap first_byte is in absurd (cc (line.0, newline))
ends_at moment (b ∷ text) rest (note ∷ before) t after line is =
    let same : note.byte ≡ b = sym (ap first_byte is) in
    ⊎_elim
    (λ here. inl (ap (λ (x : ℕ). x ∷ bytes_in before) same ∙ ap (λ (l : List ℕ). b ∷ l) here.0, here.1))
    (λ later. inr (later.0, ap (λ (x : ℕ). x ∷ bytes_in before) same ∙ ap (λ (l : List ℕ). b ∷ l) later.1, later.2))
    (ends_at moment text rest before t after line.1 (ap others is))
