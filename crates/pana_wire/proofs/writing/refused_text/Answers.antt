-- The refusal by each cause.
use Rattle.std.proofs.Common.{◌≡◌, List, ℕ, IfOk, refl, subst}
use Rattle.std.specs.Fmt.{digits}
use Rattle.json.specs.Print.{escape_byte}
use Rattle.pana_calls.specs.declared.reply.Reply.TheVariants.{Refused}
use Rattle.pana_wire.specs.Reply.{refused_data, reply_data, reply_text}
use Rattle.pana_wire.proofs.writing.refused_text.Goals as goal
use Rattle.pana_wire.proofs.writing.refused_text.Goals.{in-JournalFull, in-SameCopy, in-OtherFamily, in-FamilyFull, in-TooDeep, in-OutOfMemory, in-UnknownEntry, in-NotYours, in-Settled, in-UnknownFamily}

pub returns-in-UnknownCopy-clause-text : goal.returns-in-UnknownCopy-clause-text
unfolding reply_text reply_data refused_data escape_byte digits
returns-in-UnknownCopy-clause-text c = rw c.in-UnknownCopy.is c.text_around.ensures.text

pub returns-in-PlaceTaken-clause-text : goal.returns-in-PlaceTaken-clause-text
unfolding reply_text reply_data refused_data escape_byte digits
returns-in-PlaceTaken-clause-text c = rw c.in-PlaceTaken.is c.text_around-in-PlaceTaken.ensures.text

pub returns-clause-text : goal.returns-clause-text
unfolding reply_text reply_data refused_data escape_byte digits
returns-clause-text c =
    let same : c.match-cause.text.now ≡ reply_text (Refused c.args.cause.now) = elim c.match-cause.branch [
      | in-JournalFull w ↦ rw (w.text-is, w.in-JournalFull.is) refl
      | in-SameCopy w ↦ rw (w.text-is, w.in-SameCopy.is) refl
      | in-OtherFamily w ↦ rw (w.text-is, w.in-OtherFamily.is) refl
      | in-FamilyFull w ↦ rw (w.text-is, w.in-FamilyFull.is) refl
      | in-TooDeep w ↦ rw (w.text-is, w.in-TooDeep.is) refl
      | in-OutOfMemory w ↦ rw (w.text-is, w.in-OutOfMemory.is) refl
      | in-UnknownEntry w ↦ rw (w.text-is, w.in-UnknownEntry.is) refl
      | in-NotYours w ↦ rw (w.text-is, w.in-NotYours.is) refl
      | in-Settled w ↦ rw (w.text-is, w.in-Settled.is) refl
      | in-UnknownFamily w ↦ rw (w.text-is, w.in-UnknownFamily.is) refl
    ] in
    subst (λ (text : List ℕ). IfOk c.known_text.result (λ bytes. bytes.items ≡ text)) same c.known_text.ensures.text
