-- The parts of the object, one after another.
use Rattle.std.specs.Prelude.{codes, decimal}
use Rattle.std.proofs.Common.{List, [], ◌∷◌, ◌++◌}
use Rattle.std.proofs.lemmas.Result.{on_ok_weaker}
use Rattle.json.specs.Token.{Token, begin_object, end_object, key, number}
use Rattle.pana_wire.specs.Reply.{counts_data}
use Rattle.pana_wire.proofs.Pieces.{both_written}
use Rattle.pana_wire.proofs.standing_writing.HallCountsWriteJson.write.Goals as goal

pub returns-clause-tokens : goal.returns-clause-tokens
unfolding counts_data
returns-clause-tokens c =
    let begin_at : List Token = c.begin_object.new.self.tokens in
    let copies_at : List Token = c.write_number.new.out.tokens in
    let devices_at : List Token = c.write_number-2.new.out.tokens in
    let end_at : List Token = c.end_object.new.self.tokens in
    let begin_part : List Token = begin_object ∷ [] in
    let copies_part : List Token = key (codes "copies") ∷ number (decimal c.args.self.now.copies) ∷ [] in
    let devices_part : List Token = key (codes "devices") ∷ number (decimal c.args.self.now.devices) ∷ [] in
    let end_part : List Token = end_object ∷ [] in
    on_ok_weaker c.end_object.result
    (λ last.
    (both_written c.args.out.now.tokens begin_at end_at begin_part (copies_part ++ (devices_part ++ end_part)) c.in_ok-begin_object.ensures.ok
    (both_written begin_at copies_at end_at copies_part (devices_part ++ end_part) c.in_ok-write_number.ensures.tokens
    (both_written copies_at devices_at end_at devices_part end_part c.in_ok-write_number-2.ensures.tokens
    last))))
    c.end_object.ensures.ok
