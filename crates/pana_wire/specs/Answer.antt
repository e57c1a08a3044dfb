-- The text of each answer.
use Rattle.std.specs.Prelude.{ℕ, List, codes}
use Rattle.pana_calls.specs.declared.answer.Answer.{Answer}
use Rattle.pana_calls.specs.declared.answer.Answer.TheVariants.{Given, NotKept}
use Rattle.pana_wire.specs.Reply.{reply_text}

-- the text of a report that isn't kept
abbrev pub not_kept_text : List ℕ
not_kept_text = codes "{\"code\":14,\"refused\":\"NotKept\"}"

-- the text of an answer
abbrev pub answer_text : Answer → List ℕ
answer_text (Given reply) = reply_text reply
answer_text NotKept = not_kept_text
