-- The parts of the object, one after another.
use Rattle.std.specs.Prelude.{codes, decimal}
use Rattle.std.proofs.Common.{List, [], ◌∷◌, ◌++◌}
use Rattle.std.proofs.lemmas.Result.{on_ok_weaker}
use Rattle.json.specs.Token.{Token, begin_object, end_object, key, number, string}
use Rattle.pana_wire.specs.Reply.{row_data}
use Rattle.pana_wire.proofs.Pieces.{both_written}
use Rattle.pana_wire.proofs.board_writing.BoardRowWriteJson.write.Goals as goal

pub returns-clause-tokens : goal.returns-clause-tokens
unfolding row_data
returns-clause-tokens c =
    let begin_at : List Token = c.begin_object.new.self.tokens in
    let conflict_at : List Token = c.write_count.new.out.tokens in
    let copy_at : List Token = c.write_row_number.new.out.tokens in
    let device_at : List Token = c.write_text.new.out.tokens in
    let equal_at : List Token = c.write_count-2.new.out.tokens in
    let newer_at : List Token = c.write_count-3.new.out.tokens in
    let older_at : List Token = c.write_count-4.new.out.tokens in
    let path_at : List Token = c.write_text-2.new.out.tokens in
    let end_at : List Token = c.end_object.new.self.tokens in
    let begin_part : List Token = begin_object ∷ [] in
    let conflict_part : List Token = key (codes "conflict") ∷ number (decimal c.args.self.now.conflict) ∷ [] in
    let copy_part : List Token = key (codes "copy") ∷ number (decimal c.args.self.now.copy) ∷ [] in
    let device_part : List Token = key (codes "device") ∷ string c.as_str.result.now ∷ [] in
    let equal_part : List Token = key (codes "equal") ∷ number (decimal c.args.self.now.equal) ∷ [] in
    let newer_part : List Token = key (codes "newer") ∷ number (decimal c.args.self.now.newer) ∷ [] in
    let older_part : List Token = key (codes "older") ∷ number (decimal c.args.self.now.older) ∷ [] in
    let path_part : List Token = key (codes "path") ∷ string c.as_str-2.result.now ∷ [] in
    let end_part : List Token = end_object ∷ [] in
    rw (← c.as_str.ensures.text, ← c.as_str-2.ensures.text)
    (on_ok_weaker c.end_object.result
    (λ last.
    (both_written c.args.out.now.tokens begin_at end_at begin_part (conflict_part ++ (copy_part ++ (device_part ++ (equal_part ++ (newer_part ++ (older_part ++ (path_part ++ end_part))))))) c.in_ok-begin_object.ensures.ok
    (both_written begin_at conflict_at end_at conflict_part (copy_part ++ (device_part ++ (equal_part ++ (newer_part ++ (older_part ++ (path_part ++ end_part)))))) c.in_ok-write_count.ensures.tokens
    (both_written conflict_at copy_at end_at copy_part (device_part ++ (equal_part ++ (newer_part ++ (older_part ++ (path_part ++ end_part))))) c.in_ok-write_row_number.ensures.tokens
    (both_written copy_at device_at end_at device_part (equal_part ++ (newer_part ++ (older_part ++ (path_part ++ end_part)))) c.in_ok-write_text.ensures.tokens
    (both_written device_at equal_at end_at equal_part (newer_part ++ (older_part ++ (path_part ++ end_part))) c.in_ok-write_count-2.ensures.tokens
    (both_written equal_at newer_at end_at newer_part (older_part ++ (path_part ++ end_part)) c.in_ok-write_count-3.ensures.tokens
    (both_written newer_at older_at end_at older_part (path_part ++ end_part) c.in_ok-write_count-4.ensures.tokens
    (both_written older_at path_at end_at path_part end_part c.in_ok-write_text-2.ensures.tokens
    last)))))))))
    c.end_object.ensures.ok)
