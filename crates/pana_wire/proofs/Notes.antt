-- Laws of notes.
use Rattle.std.proofs.Common.{◌≡◌, ℕ, List, [], ◌∷◌, ◌++◌, Option, refl, sym, ap, subst, ◌∙◌, append_assoc, append-nil}
use Rattle.std.specs.Io.KnownBytes.{Appends}
use Rattle.std.proofs.KnownBytes.{Appends-nil, Appends-trans}
use Rattle.pana_wire.specs.declared.tap.Tap.{Tap}
use Rattle.pana_wire.specs.Tap.{Note, inside, noted, noted_at, bytes_in, note_all, notes_in, IsNoted}
use Rattle.pana_wire.specs.inner.Writing.{NotesPrefix}

pub notes_more : (moment : ℕ) (bytes numbers : List ℕ) → notes_in (note_all moment bytes numbers) ≡ notes_in numbers ++ noted_at moment bytes
notes_more moment [] numbers = sym (append-nil (notes_in numbers))
notes_more moment (byte ∷ bytes) numbers =
    notes_more moment bytes (byte ∷ moment ∷ numbers) ∙ append_assoc (notes_in numbers) (record { byte = byte; moment = moment } ∷ []) (noted_at moment bytes)

pub noted_both : (moment : ℕ) (text more : List ℕ) → noted_at moment (text ++ more) ≡ noted_at moment text ++ noted_at moment more
noted_both moment [] more = refl
noted_both moment (byte ∷ text) more = ap (λ (notes : List Note). record { byte = byte; moment = moment } ∷ notes) (noted_both moment text more)

-- one list of notes after another
pub notes_then : (a b c xs ys : List Note) → b ≡ a ++ xs → c ≡ b ++ ys → c ≡ a ++ (xs ++ ys)
notes_then a b c xs ys p q = q ∙ ap (λ (notes : List Note). notes ++ ys) p ∙ append_assoc a xs ys

-- one text after another, at one moment
pub texts_then : (moment : ℕ) (a b c : List Note) (text more : List ℕ) → b ≡ a ++ noted_at moment text → c ≡ b ++ noted_at moment more → c ≡ a ++ noted_at moment (text ++ more)
texts_then moment a b c text more p q =
    notes_then a b c (noted_at moment text) (noted_at moment more) p q ∙ ap (λ (notes : List Note). a ++ notes) (sym (noted_both moment text more))

pub noted_bytes : (moment : ℕ) (text : List ℕ) → bytes_in (noted_at moment text) ≡ text
noted_bytes moment [] = refl
noted_bytes moment (byte ∷ text) = ap (λ (bytes : List ℕ). byte ∷ bytes) (noted_bytes moment text)

pub bytes_both : (xs ys : List Note) → bytes_in (xs ++ ys) ≡ bytes_in xs ++ bytes_in ys
bytes_both [] ys = refl
bytes_both (note ∷ xs) ys = ap (λ (bytes : List ℕ). note.byte ∷ bytes) (bytes_both xs ys)

module _ {W : Type 0} (contents : W → Option (List ℕ)) where
  pub none_noted : (a : Tap W) → IsNoted contents a a []
  none_noted a = (sym (append-nil (noted a)), Appends-nil _)

  -- a text at one moment
  pub text_noted : (moment : ℕ) (a b : Tap W) (text : List ℕ) → noted b ≡ noted a ++ noted_at moment text → Appends (contents (inside a)) (contents (inside b)) text → IsNoted contents a b (noted_at moment text)
  text_noted moment a b text notes written = (notes, subst (Appends (contents (inside a)) (contents (inside b))) (sym (noted_bytes moment text)) written)

  pub noted_then : (a b c : Tap W) (xs ys : List Note) → IsNoted contents a b xs → IsNoted contents b c ys → IsNoted contents a c (xs ++ ys)
  noted_then a b c xs ys p q = (
    notes_then (noted a) (noted b) (noted c) xs ys p.0 q.0,
    subst (Appends (contents (inside a)) (contents (inside c))) (sym (bytes_both xs ys)) (Appends-trans _ _ _ (bytes_in xs) (bytes_in ys) p.1 q.1),
  )

module _ {W : Type 0} (contents : W → Option (List ℕ)) (moment : ℕ) (a : Tap W) where
  -- a prefix of the first of two texts
  pub first_noted : (b : Tap W) (text more : List ℕ) → NotesPrefix contents moment a b text → NotesPrefix contents moment a b (text ++ more)
  first_noted b text more p =
      let (part, rest, notes, written, split) = p in
      (part, rest ++ more, notes, written, ap (λ l. l ++ more) split ∙ append_assoc part rest more)

  -- a text and then a prefix of another
  pub second_noted : (b c : Tap W) (text more : List ℕ) → noted b ≡ noted a ++ noted_at moment text → Appends (contents (inside a)) (contents (inside b)) text
      → NotesPrefix contents moment b c more → NotesPrefix contents moment a c (text ++ more)
  second_noted b c text more first begun p =
      let (part, rest, notes, written, split) = p in
      (text ++ part, rest, texts_then moment (noted a) (noted b) (noted c) text part first notes, Appends-trans _ _ _ text part begun written, ap (λ l. text ++ l) split ∙ sym (append_assoc text part rest))
