-- The parts of the object, one after another.
use Rattle.std.specs.Prelude.{codes, decimal}
use Rattle.std.proofs.Common.{List, [], ◌∷◌, ◌++◌}
use Rattle.std.proofs.lemmas.Result.{on_ok_weaker}
use Rattle.json.specs.Token.{Token, begin_object, end_object, key, number, string}
use Rattle.pana_wire.specs.Reply.{placed_data, status_row_data}
use Rattle.pana_wire.proofs.Pieces.{both_written}
use Rattle.pana_wire.proofs.standing_writing.StatusRowWriteJson.write.Goals as goal

pub returns-clause-tokens : goal.returns-clause-tokens
unfolding status_row_data placed_data
returns-clause-tokens c =
    let begin_at : List Token = c.begin_object.new.self.tokens in
    let copy_at : List Token = c.write_number.new.out.tokens in
    let device_at : List Token = c.write_text.new.out.tokens in
    let path_at : List Token = c.write_text-2.new.out.tokens in
    let state_at : List Token = c.write_text-3.new.out.tokens in
    let with_at : List Token = c.key.new.self.tokens in
    let with_begin_at : List Token = c.begin_object-2.new.self.tokens in
    let with_copy_at : List Token = c.write_number-2.new.out.tokens in
    let with_device_at : List Token = c.write_text-4.new.out.tokens in
    let with_path_at : List Token = c.write_text-5.new.out.tokens in
    let end_at : List Token = c.end_object.new.self.tokens in
    let with_end_at : List Token = c.end_object-2.new.self.tokens in
    let begin_part : List Token = begin_object ∷ [] in
    let copy_part : List Token = key (codes "copy") ∷ number (decimal c.args.self.now.copy) ∷ [] in
    let device_part : List Token = key (codes "device") ∷ string c.as_str.result.now ∷ [] in
    let path_part : List Token = key (codes "path") ∷ string c.as_str-2.result.now ∷ [] in
    let state_part : List Token = key (codes "state") ∷ string c.name.result.now ∷ [] in
    let with_part : List Token = key (codes "with") ∷ [] in
    let with_begin_part : List Token = begin_object ∷ [] in
    let with_copy_part : List Token = key (codes "copy") ∷ number (decimal c.args.self.now.with.copy) ∷ [] in
    let with_device_part : List Token = key (codes "device") ∷ string c.as_str-3.result.now ∷ [] in
    let with_path_part : List Token = key (codes "path") ∷ string c.as_str-4.result.now ∷ [] in
    let end_part : List Token = end_object ∷ [] in
    let with_end_part : List Token = end_object ∷ [] in
    rw (← c.as_str.ensures.text, ← c.as_str-2.ensures.text, ← c.name.ensures, ← c.as_str-3.ensures.text, ← c.as_str-4.ensures.text)
    (on_ok_weaker c.end_object-2.result
    (λ last.
    (both_written c.args.out.now.tokens begin_at with_end_at begin_part (copy_part ++ (device_part ++ (path_part ++ (state_part ++ (with_part ++ (with_begin_part ++ (with_copy_part ++ (with_device_part ++ (with_path_part ++ (end_part ++ with_end_part)))))))))) c.in_ok-begin_object.ensures.ok
    (both_written begin_at copy_at with_end_at copy_part (device_part ++ (path_part ++ (state_part ++ (with_part ++ (with_begin_part ++ (with_copy_part ++ (with_device_part ++ (with_path_part ++ (end_part ++ with_end_part))))))))) c.in_ok-write_number.ensures.tokens
    (both_written copy_at device_at with_end_at device_part (path_part ++ (state_part ++ (with_part ++ (with_begin_part ++ (with_copy_part ++ (with_device_part ++ (with_path_part ++ (end_part ++ with_end_part)))))))) c.in_ok-write_text.ensures.tokens
    (both_written device_at path_at with_end_at path_part (state_part ++ (with_part ++ (with_begin_part ++ (with_copy_part ++ (with_device_part ++ (with_path_part ++ (end_part ++ with_end_part))))))) c.in_ok-write_text-2.ensures.tokens
    (both_written path_at state_at with_end_at state_part (with_part ++ (with_begin_part ++ (with_copy_part ++ (with_device_part ++ (with_path_part ++ (end_part ++ with_end_part)))))) c.in_ok-write_text-3.ensures.tokens
    (both_written state_at with_at with_end_at with_part (with_begin_part ++ (with_copy_part ++ (with_device_part ++ (with_path_part ++ (end_part ++ with_end_part))))) c.in_ok-key.ensures.ok
    (both_written with_at with_begin_at with_end_at with_begin_part (with_copy_part ++ (with_device_part ++ (with_path_part ++ (end_part ++ with_end_part)))) c.in_ok-begin_object-2.ensures.ok
    (both_written with_begin_at with_copy_at with_end_at with_copy_part (with_device_part ++ (with_path_part ++ (end_part ++ with_end_part))) c.in_ok-write_number-2.ensures.tokens
    (both_written with_copy_at with_device_at with_end_at with_device_part (with_path_part ++ (end_part ++ with_end_part)) c.in_ok-write_text-4.ensures.tokens
    (both_written with_device_at with_path_at with_end_at with_path_part (end_part ++ with_end_part) c.in_ok-write_text-5.ensures.tokens
    (both_written with_path_at end_at with_end_at end_part with_end_part c.in_ok-end_object.ensures.ok
    last))))))))))))
    c.end_object-2.ensures.ok)
