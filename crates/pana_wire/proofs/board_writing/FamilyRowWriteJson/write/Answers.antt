-- The parts of the object, one after another.
use Rattle.std.specs.Prelude.{codes, decimal}
use Rattle.std.proofs.Common.{List, [], ◌∷◌, ◌++◌}
use Rattle.std.proofs.lemmas.Result.{on_ok_weaker}
use Rattle.json.specs.Token.{Token, begin_object, end_object, key, number, boolean}
use Rattle.pana_wire.specs.Reply.{family_data}
use Rattle.pana_wire.proofs.Pieces.{both_written}
use Rattle.pana_wire.proofs.board_writing.FamilyRowWriteJson.write.Goals as goal

pub returns-clause-tokens : goal.returns-clause-tokens
unfolding family_data
returns-clause-tokens c =
    let begin_at : List Token = c.begin_object.new.self.tokens in
    let copies_at : List Token = c.write_count.new.out.tokens in
    let family_at : List Token = c.write_row_number.new.out.tokens in
    let newest_at : List Token = c.write_count-2.new.out.tokens in
    let split_at : List Token = c.write_flag.new.out.tokens in
    let end_at : List Token = c.end_object.new.self.tokens in
    let begin_part : List Token = begin_object ∷ [] in
    let copies_part : List Token = key (codes "copies") ∷ number (decimal c.args.self.now.copies) ∷ [] in
    let family_part : List Token = key (codes "family") ∷ number (decimal c.args.self.now.family) ∷ [] in
    let newest_part : List Token = key (codes "newest") ∷ number (decimal c.args.self.now.newest) ∷ [] in
    let split_part : List Token = key (codes "split") ∷ boolean c.args.self.now.split ∷ [] in
    let end_part : List Token = end_object ∷ [] in
    on_ok_weaker c.end_object.result
    (λ last.
    (both_written c.args.out.now.tokens begin_at end_at begin_part (copies_part ++ (family_part ++ (newest_part ++ (split_part ++ end_part)))) c.in_ok-begin_object.ensures.ok
    (both_written begin_at copies_at end_at copies_part (family_part ++ (newest_part ++ (split_part ++ end_part))) c.in_ok-write_count.ensures.tokens
    (both_written copies_at family_at end_at family_part (newest_part ++ (split_part ++ end_part)) c.in_ok-write_row_number.ensures.tokens
    (both_written family_at newest_at end_at newest_part (split_part ++ end_part) c.in_ok-write_count-2.ensures.tokens
    (both_written newest_at split_at end_at split_part end_part c.in_ok-write_flag.ensures.tokens
    last))))))
    c.end_object.ensures.ok
