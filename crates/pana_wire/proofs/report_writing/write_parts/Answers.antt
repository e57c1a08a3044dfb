use Rattle.std.proofs.Common.{rules, ◌∙◌, [], ◌∷◌, ◌++◌, List, ap}
use Rattle.std.specs.Prelude.{codes, option_copied, option_map}
use Rattle.json.specs.Token.{Token, begin_object, end_object, key, string}
use Rattle.pana_wire.specs.inner.Pieces.{number_tokens, text_tokens}
use Rattle.pana_wire.proofs.Pieces.{both_written}
use Rattle.pana_wire.proofs.ReportTokens.{IsKnownOf, written}
use Rattle.pana_wire.proofs.report_writing.write_parts.Goals as goal

pub returns : goal.returns
returns c =
    let numbers = c.args.numbers in
    let place = option_copied c.args.place in
    let sum = option_copied c.sum.result in
    let known : IsKnownOf numbers place sum c.args.number = record {
      a = c.in_ok-write_number_if_given.ensures.number;
      b = c.in_ok-write_number_if_given-2.ensures.number;
      copy = c.in_ok-write_number_if_given-3.ensures.number;
      device = c.in_ok-write_device.ensures.device;
      entry = c.in_ok-write_number_if_given-4.ensures.number;
      heir = c.in_ok-write_number_if_given-5.ensures.number;
      number = c.in_ok-write_number_if_given-6.ensures.number;
      path = c.in_ok-write_path.ensures.path;
      sum = c.in_ok-write_sum.ensures.sum;
    } in
    let is = written c.as_str.result.now numbers place c.args.word.now sum c.args.by.now c.args.report.now c.args.number c.as_str.ensures.text c.requires.numbers c.requires.place c.requires.word c.sum.ensures known in
    let begin_at : List Token = c.begin_object.new.self.tokens in
    let a_at : List Token = c.write_number_if_given.new.out.tokens in
    let b_at : List Token = c.write_number_if_given-2.new.out.tokens in
    let by_at : List Token = c.write_text.new.out.tokens in
    let copy_at : List Token = c.write_number_if_given-3.new.out.tokens in
    let device_at : List Token = c.write_device.new.out.tokens in
    let do_at : List Token = c.write_text-2.new.out.tokens in
    let entry_at : List Token = c.write_number_if_given-4.new.out.tokens in
    let heir_at : List Token = c.write_number_if_given-5.new.out.tokens in
    let number_at : List Token = c.write_number_if_given-6.new.out.tokens in
    let path_at : List Token = c.write_path.new.out.tokens in
    let sum_at : List Token = c.write_sum.new.out.tokens in
    let end_at : List Token = c.end_object.new.self.tokens in
    let begin_part : List Token = begin_object ∷ [] in
    let a_part : List Token = number_tokens (codes "a") numbers.a in
    let b_part : List Token = number_tokens (codes "b") numbers.b in
    let by_part : List Token = key (codes "by") ∷ string c.as_str.result.now ∷ [] in
    let copy_part : List Token = number_tokens (codes "copy") numbers.copy in
    let device_part : List Token = text_tokens (codes "device") (option_map (λ p. p.device) place) in
    let do_part : List Token = key (codes "do") ∷ string c.args.word.now ∷ [] in
    let entry_part : List Token = number_tokens (codes "entry") numbers.entry in
    let heir_part : List Token = number_tokens (codes "heir") numbers.heir in
    let number_part : List Token = number_tokens (codes "number") c.args.number in
    let path_part : List Token = text_tokens (codes "path") (option_map (λ p. p.path) place) in
    let sum_part : List Token = text_tokens (codes "sum") sum in
    let end_part : List Token = end_object ∷ [] in
    let tokens =
    (both_written c.args.out.now.tokens begin_at end_at begin_part (a_part ++ (b_part ++ (by_part ++ (copy_part ++ (device_part ++ (do_part ++ (entry_part ++ (heir_part ++ (number_part ++ (path_part ++ (sum_part ++ end_part))))))))))) c.in_ok-begin_object.ensures.ok
    (both_written begin_at a_at end_at a_part (b_part ++ (by_part ++ (copy_part ++ (device_part ++ (do_part ++ (entry_part ++ (heir_part ++ (number_part ++ (path_part ++ (sum_part ++ end_part)))))))))) c.in_ok-write_number_if_given.ensures.tokens
    (both_written a_at b_at end_at b_part (by_part ++ (copy_part ++ (device_part ++ (do_part ++ (entry_part ++ (heir_part ++ (number_part ++ (path_part ++ (sum_part ++ end_part))))))))) c.in_ok-write_number_if_given-2.ensures.tokens
    (both_written b_at by_at end_at by_part (copy_part ++ (device_part ++ (do_part ++ (entry_part ++ (heir_part ++ (number_part ++ (path_part ++ (sum_part ++ end_part)))))))) c.in_ok-write_text.ensures.tokens
    (both_written by_at copy_at end_at copy_part (device_part ++ (do_part ++ (entry_part ++ (heir_part ++ (number_part ++ (path_part ++ (sum_part ++ end_part))))))) c.in_ok-write_number_if_given-3.ensures.tokens
    (both_written copy_at device_at end_at device_part (do_part ++ (entry_part ++ (heir_part ++ (number_part ++ (path_part ++ (sum_part ++ end_part)))))) c.in_ok-write_device.ensures.tokens
    (both_written device_at do_at end_at do_part (entry_part ++ (heir_part ++ (number_part ++ (path_part ++ (sum_part ++ end_part))))) c.in_ok-write_text-2.ensures.tokens
    (both_written do_at entry_at end_at entry_part (heir_part ++ (number_part ++ (path_part ++ (sum_part ++ end_part)))) c.in_ok-write_number_if_given-4.ensures.tokens
    (both_written entry_at heir_at end_at heir_part (number_part ++ (path_part ++ (sum_part ++ end_part))) c.in_ok-write_number_if_given-5.ensures.tokens
    (both_written heir_at number_at end_at number_part (path_part ++ (sum_part ++ end_part)) c.in_ok-write_number_if_given-6.ensures.tokens
    (both_written number_at path_at end_at path_part (sum_part ++ end_part) c.in_ok-write_path.ensures.tokens
    (both_written path_at sum_at end_at sum_part end_part c.in_ok-write_sum.ensures.tokens
    c.in_ok-end_object.ensures.ok)))))))))))) in
    record {
      tokens = tokens ∙ ap (λ (ts : List Token). c.args.out.now.tokens ++ ts) is.tokens;
      before = search rules;
      by = c.as_str.ensures.device;
      names = is.names;
      reads = is.reads;
    }
