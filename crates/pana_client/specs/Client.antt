-- What a client does when it makes a call.
use Rattle.std.specs.Prelude.{◌≡◌, ℕ, Bool, true, false, List, Option}
use Rattle.pana_calls.specs.declared.answer.Answer.{Answer}
use Rattle.pana_calls.specs.declared.call.Call.{Call}
use Rattle.pana_client.specs.declared.client.Client.{Client}
use Rattle.pana_client.specs.Line.{MayBegin, ReadsAnswer, ReadsPart, WritesCall}

-- where the answers come from
abbrev pub reader_of : {R W : Type 0} → Client R W → R
reader_of client = client.reader

-- where the calls go
abbrev pub writer_of : {R W : Type 0} → Client R W → W
writer_of client = client.writer

-- whether each call so far has got its answer
abbrev pub works : {R W : Type 0} → Client R W → Bool
works client = client.works

-- The call has got its answer, as all before it have: the writer has gained one line, which says the call, and its newline;
-- the reader has given one line, which is the text of the answer, and its newline.
pub record IsAnswered {R W : Type 0} (remaining : R → Option (List ℕ)) (contents : W → Option (List ℕ)) (old : Client R W) (by : List ℕ) (call : Call) (answer : Answer) (new : Client R W) : Type 0 where
  pub works_before : works old ≡ true
  pub works_after : works new ≡ true
  pub writes : WritesCall by call (contents (writer_of old)) (contents (writer_of new))
  pub reads : ReadsAnswer answer (remaining (reader_of old)) (remaining (reader_of new))

-- The call has got no answer, and no later one gets any. At most its line was written, in whole or in part, and at most one
-- line was read. Where an earlier call had got none, nothing was done.
pub record IsUnanswered {R W : Type 0} (remaining : R → Option (List ℕ)) (contents : W → Option (List ℕ)) (old : Client R W) (by : List ℕ) (call : Call) (new : Client R W) : Type 0 where
  pub stopped : works new ≡ false
  pub idle : works old ≡ false → new ≡ old
  pub writes : MayBegin by call (contents (writer_of old)) (contents (writer_of new))
  pub reads : ReadsPart (remaining (reader_of old)) (remaining (reader_of new))
