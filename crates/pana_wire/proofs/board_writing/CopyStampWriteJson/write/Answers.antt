-- The parts of the object, one after another.
use Rattle.std.specs.Prelude.{codes, decimal}
use Rattle.std.proofs.Common.{List, [], ◌∷◌, ◌++◌}
use Rattle.std.proofs.lemmas.Result.{on_ok_weaker}
use Rattle.json.specs.Token.{Token, begin_object, end_object, key, number, string}
use Rattle.pana_wire.specs.Reply.{stamp_data}
use Rattle.pana_wire.proofs.Pieces.{both_written}
use Rattle.pana_wire.proofs.board_writing.CopyStampWriteJson.write.Goals as goal

pub returns-clause-tokens : goal.returns-clause-tokens
unfolding stamp_data
returns-clause-tokens c =
    let begin_at : List Token = c.begin_object.new.self.tokens in
    let copy_at : List Token = c.write_number.new.out.tokens in
    let stamp_at : List Token = c.write_text.new.out.tokens in
    let end_at : List Token = c.end_object.new.self.tokens in
    let begin_part : List Token = begin_object ∷ [] in
    let copy_part : List Token = key (codes "copy") ∷ number (decimal c.args.self.now.copy) ∷ [] in
    let stamp_part : List Token = key (codes "stamp") ∷ string c.as_str.result.now ∷ [] in
    let end_part : List Token = end_object ∷ [] in
    rw (← c.as_str.ensures.value)
    (on_ok_weaker c.end_object.result
    (λ last.
    (both_written c.args.out.now.tokens begin_at end_at begin_part (copy_part ++ (stamp_part ++ end_part)) c.in_ok-begin_object.ensures.ok
    (both_written begin_at copy_at end_at copy_part (stamp_part ++ end_part) c.in_ok-write_number.ensures.tokens
    (both_written copy_at stamp_at end_at stamp_part end_part c.in_ok-write_text.ensures.tokens
    last))))
    c.end_object.ensures.ok)
