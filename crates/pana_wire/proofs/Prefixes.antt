-- Laws of writing a prefix of a text, and of the answer to a line.
use Rattle.std.proofs.Common.{◌≡◌, ℕ, List, ◌++◌, Option, take, refl, sym, ap, subst, ◌∙◌, append_assoc, inl, inr, Ok}
use Rattle.std.specs.Io.KnownBytes.{Appends}
use Rattle.std.proofs.KnownBytes.{Appends-trans}
use Rattle.pana_calls.specs.declared.call.Call.{Call}
use Rattle.pana_calls.specs.declared.answer.Answer.{Answer}
use Rattle.pana_wire.specs.declared.fault.WireFault.{WireFault}
use Rattle.pana_wire.specs.declared.fault.WireFault.TheVariants as faults
use Rattle.pana_calls.specs.declared.message.Message.{Message}
use Rattle.pana_wire.specs.declared.tap.Tap.{Tap}
use Rattle.pana_wire.specs.declared.serving.ServeFault.{ServeFault}
use Rattle.pana_wire.specs.Fault.{fault_text}
use Rattle.pana_wire.specs.Line.{Fails, IsText, line_says}
use Rattle.pana_wire.specs.Answer.{answer_text}
use Rattle.pana_wire.specs.Tap.{noted, AppendsPrefix}
use Rattle.pana_wire.specs.Session.{AnswersLine}
use Rattle.pana_wire.specs.inner.Writing.{Writes, WritesPrefix}
use Rattle.pana_wire.proofs.Notes.{texts_then, first_noted, second_noted}
use Rattle.pana_wire.proofs.Steps.{line_cut}

-- a prefix of the first of two texts
prefix_of_first : (a b : Option (List ℕ)) (text more : List ℕ) → AppendsPrefix a b text → AppendsPrefix a b (text ++ more)
prefix_of_first a b text more p =
    let (written, rest, appended, split) = p in
    (written, rest ++ more, appended, ap (λ l. l ++ more) split ∙ append_assoc written rest more)

-- a text and then a prefix of another
prefix_of_second : (a b c : Option (List ℕ)) (text more : List ℕ) → Appends a b text → AppendsPrefix b c more → AppendsPrefix a c (text ++ more)
prefix_of_second a b c text more p q =
    let (written, rest, appended, split) = q in
    (text ++ written, rest, Appends-trans a b c text written p appended, ap (λ l. text ++ l) split ∙ sym (append_assoc text written rest))

module _ {W : Type 0} (contents : W → Option (List ℕ)) (moment : ℕ) where
  pub writes_both : (a b c : Tap W) (text more : List ℕ) → Writes contents moment a b text → Writes contents moment b c more → Writes contents moment a c (text ++ more)
  writes_both a b c text more p q = record { written = Appends-trans _ _ _ text more p.written q.written; works = q.works; notes = texts_then moment (noted a) (noted b) (noted c) text more p.notes q.notes }

  pub breaks_first : (a b : Tap W) (text more : List ℕ) (fault : ServeFault) → WritesPrefix contents moment a b text fault → WritesPrefix contents moment a b (text ++ more) fault
  breaks_first a b text more fault p = record { is_write = p.is_write; failed = p.failed; written = prefix_of_first _ _ text more p.written; notes = first_noted contents moment a b text more p.notes }

  pub breaks_second : (a b c : Tap W) (text more : List ℕ) (fault : ServeFault) → Writes contents moment a b text → WritesPrefix contents moment b c more fault
      → WritesPrefix contents moment a c (text ++ more) fault
  breaks_second a b c text more fault p q = record { is_write = q.is_write; failed = q.failed; written = prefix_of_second _ _ _ text more p.written q.written; notes = second_noted contents moment a b c text more p.notes p.written q.notes }

module _ {S : Type 0} (step : S → List ℕ → Call → Answer → S → Type 0) where
  -- a message, and the text of its answer, to a line of which this is held
  pub said_line : (old : S) (held line : List ℕ) (m : Message) (text : List ℕ) (new : S) → held ≡ take 65537 line → line_says held ≡ Ok m
      → (answer : Answer) × step old m.by m.call answer new × (text ≡ answer_text answer) → AnswersLine step old line text new 1
  said_line old held line m text new is says (answer, done, e) =
      line_cut step old line text new 1 (subst (λ (l : List ℕ). AnswersLine step old l text new 1) is (inl (rw says (answer, done, e, refl))))

  -- a fault, which is the line's, or that memory ran out
  pub faulty_line : (old : S) (held line text : List ℕ) (fault : WireFault) → held ≡ take 65537 line → Fails fault (line_says held) → (fault ≡ faults.OutOfMemory → IsText held) → text ≡ fault_text fault → AnswersLine step old line text old 0
  faulty_line old held line text fault is says memory e =
      line_cut step old line text old 0 (subst (λ (l : List ℕ). AnswersLine step old l text old 0) is (here fault says memory e))
    where
      here : (fault : WireFault) → Fails fault (line_says held) → (fault ≡ faults.OutOfMemory → IsText held) → text ≡ fault_text fault → AnswersLine step old held text old 0
      here faults.OutOfMemory says memory e = inr (e, refl, refl, memory refl)
      here faults.TooLong says memory e = inl (rw says (e, refl, refl))
      here faults.NotUtf8 says memory e = inl (rw says (e, refl, refl))
      here faults.NotJson says memory e = inl (rw says (e, refl, refl))
      here faults.NotObject says memory e = inl (rw says (e, refl, refl))
      here (faults.BadField field) says memory e = inl (rw says (e, refl, refl))
