-- The text of an answer has no newline.
use Rattle.std.specs.Prelude.{◌≡◌, ℕ, ◌==◌, ◌&&◌, not, Bool, true, false, List, [], ◌∷◌, Result, Ok, Err}
use Rattle.std.specs.List.{list_all}
use Rattle.std.proofs.Common.{refl, sym, subst, inl, inr}
use Rattle.pana_calls.specs.declared.call.Call.{Call}
use Rattle.pana_calls.specs.declared.reply.Reply.{Reply}
use Rattle.pana_wire.specs.declared.field.Field.TheVariants.{By, Do, Device, Path, Copy, Family, A, B, Heir, Sum, Entry, From, Number, Entries, Wait}
use Rattle.pana_wire.specs.declared.fault.WireFault.{WireFault}
use Rattle.pana_wire.specs.declared.fault.WireFault.TheVariants.{TooLong, NotUtf8, NotJson, NotObject, BadField, OutOfMemory}
use Rattle.pana_calls.specs.declared.message.Message.{Message}
use Rattle.pana_wire.specs.Fault.{fault_text}
use Rattle.pana_calls.specs.declared.answer.Answer.{Answer}
use Rattle.pana_calls.specs.declared.answer.Answer.TheVariants.{Given, NotKept}
use Rattle.pana_wire.specs.Answer.{answer_text, not_kept_text}
use Rattle.pana_wire.specs.Reply.{reply_data, reply_text}
use Rattle.pana_wire.specs.Line.{line_says}
use Rattle.pana_wire.specs.Session.{AnswersSaid, AnswersLine}
use Rattle.pana_wire.proofs.OneLine.{IsInLine, text_in_line}
use Rattle.pana_wire.proofs.Whole.{reply_natural}

reply_in_line : (reply : Reply) → IsInLine (reply_text reply)
unfolding reply_text
reply_in_line reply = text_in_line (reply_data reply) (reply_natural reply)

other_byte : (b : Bool) (rest : Bool) → (not b && rest) ≡ true → (b ≡ false) × (rest ≡ true)
other_byte true rest is = absurd (cc)
other_byte false rest is = (refl, is)

all_in_line : (text : List ℕ) → list_all (λ b. not (b == 10)) text ≡ true → IsInLine text
all_in_line [] is = tt
all_in_line (b ∷ text) is = let both = other_byte (b == 10) (list_all (λ b. not (b == 10)) text) is in (both.0, all_in_line text both.1)

fault_in_line : (fault : WireFault) → IsInLine (fault_text fault)
fault_in_line TooLong = all_in_line (fault_text TooLong) refl
fault_in_line NotUtf8 = all_in_line (fault_text NotUtf8) refl
fault_in_line NotJson = all_in_line (fault_text NotJson) refl
fault_in_line NotObject = all_in_line (fault_text NotObject) refl
fault_in_line (BadField By) = all_in_line (fault_text (BadField By)) refl
fault_in_line (BadField Do) = all_in_line (fault_text (BadField Do)) refl
fault_in_line (BadField Device) = all_in_line (fault_text (BadField Device)) refl
fault_in_line (BadField Path) = all_in_line (fault_text (BadField Path)) refl
fault_in_line (BadField Copy) = all_in_line (fault_text (BadField Copy)) refl
fault_in_line (BadField Family) = all_in_line (fault_text (BadField Family)) refl
fault_in_line (BadField A) = all_in_line (fault_text (BadField A)) refl
fault_in_line (BadField B) = all_in_line (fault_text (BadField B)) refl
fault_in_line (BadField Heir) = all_in_line (fault_text (BadField Heir)) refl
fault_in_line (BadField Sum) = all_in_line (fault_text (BadField Sum)) refl
fault_in_line (BadField Entry) = all_in_line (fault_text (BadField Entry)) refl
fault_in_line (BadField From) = all_in_line (fault_text (BadField From)) refl
fault_in_line (BadField Number) = all_in_line (fault_text (BadField Number)) refl
fault_in_line (BadField Entries) = all_in_line (fault_text (BadField Entries)) refl
fault_in_line (BadField Wait) = all_in_line (fault_text (BadField Wait)) refl
fault_in_line OutOfMemory = all_in_line (fault_text OutOfMemory) refl

said_in_line : (answer : Answer) → IsInLine (answer_text answer)
said_in_line (Given reply) = reply_in_line reply
said_in_line NotKept = all_in_line not_kept_text refl

said_so : {S : Type 0} (step : S → List ℕ → Call → Answer → S → Type 0) (old : S) (said : Result Message WireFault) (text : List ℕ) (new : S) (n : ℕ) → AnswersSaid step old said text new n → IsInLine text
said_so step old (Err fault) text new n a = subst IsInLine (sym a.0) (fault_in_line fault)
said_so step old (Ok m) text new n (answer, done, is, one) = subst IsInLine (sym is) (said_in_line answer)

pub answer_in_line : {S : Type 0} (step : S → List ℕ → Call → Answer → S → Type 0) (old : S) (line text : List ℕ) (new : S) (n : ℕ) → AnswersLine step old line text new n → IsInLine text
answer_in_line step old line text new n (inl said) = said_so step old (line_says line) text new n said
answer_in_line step old line text new n (inr memory) = subst IsInLine (sym memory.0) (fault_in_line OutOfMemory)
