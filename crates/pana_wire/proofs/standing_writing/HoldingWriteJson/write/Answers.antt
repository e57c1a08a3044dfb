-- With a sum and without.
use Rattle.std.specs.Prelude.{Option, Some, None, codes, decimal, option_copied}
use Rattle.std.proofs.Common.{◌≡◌, refl, ℕ, List, [], ◌∷◌, ◌++◌}
use Rattle.std.proofs.lemmas.Result.{on_ok_weaker}
use Rattle.json.specs.Token.{Token, begin_object, end_object, key, number, string}
use Rattle.json.specs.Tree.{json_tokens}
use Rattle.serde_json.specs.Data.{object, member, no_members}
use Rattle.serde_json.specs.Data as values
use Rattle.serde_json.specs.Written.{outline}
use Rattle.pana_wire.specs.inner.Pieces.{text_tokens}
use Rattle.pana_wire.specs.Report.{number_data}
use Rattle.pana_wire.specs.Reply.{holding_data, with_sum}
use Rattle.pana_wire.proofs.Pieces.{both_written}
use Rattle.pana_wire.proofs.standing_writing.HoldingWriteJson.write.Goals as goal

whole : (copy family touch : ℕ) (path : List ℕ) (sum : Option (List ℕ)) →
    begin_object ∷ key (codes "copy") ∷ number (decimal copy) ∷ key (codes "family") ∷ number (decimal family) ∷ key (codes "path") ∷ string path
    ∷ text_tokens (codes "sum") sum ++ key (codes "touch") ∷ number (decimal touch) ∷ end_object ∷ []
    ≡ json_tokens (outline (with_sum sum (object (member (codes "copy") (number_data copy) (member (codes "family") (number_data family) (member (codes "path") (values.string path) (member (codes "touch") (number_data touch) no_members)))))))
whole copy family touch path None = refl
whole copy family touch path (Some sum) = refl

pub returns-clause-tokens : goal.returns-clause-tokens
unfolding holding_data
returns-clause-tokens c =
    let begin_at : List Token = c.begin_object.new.self.tokens in
    let copy_at : List Token = c.write_row_number.new.out.tokens in
    let family_at : List Token = c.write_row_number-2.new.out.tokens in
    let path_at : List Token = c.write_text.new.out.tokens in
    let sum_at : List Token = c.write_sum.new.out.tokens in
    let touch_at : List Token = c.write_row_number-3.new.out.tokens in
    let end_at : List Token = c.end_object.new.self.tokens in
    let begin_part : List Token = begin_object ∷ [] in
    let copy_part : List Token = key (codes "copy") ∷ number (decimal c.args.self.now.copy) ∷ [] in
    let family_part : List Token = key (codes "family") ∷ number (decimal c.args.self.now.family) ∷ [] in
    let path_part : List Token = key (codes "path") ∷ string c.as_str.result.now ∷ [] in
    let sum_part : List Token = text_tokens (codes "sum") (option_copied c.lent.result) in
    let touch_part : List Token = key (codes "touch") ∷ number (decimal c.args.self.now.touch) ∷ [] in
    let end_part : List Token = end_object ∷ [] in
    let holding = c.args.self.now in
    rw (← whole holding.copy holding.family holding.touch holding.path holding.sum, ← c.as_str.ensures.text, ← c.lent.ensures) (on_ok_weaker c.end_object.result
    (λ last.
    (both_written c.args.out.now.tokens begin_at end_at begin_part (copy_part ++ (family_part ++ (path_part ++ (sum_part ++ (touch_part ++ end_part))))) c.in_ok-begin_object.ensures.ok
    (both_written begin_at copy_at end_at copy_part (family_part ++ (path_part ++ (sum_part ++ (touch_part ++ end_part)))) c.in_ok-write_row_number.ensures.tokens
    (both_written copy_at family_at end_at family_part (path_part ++ (sum_part ++ (touch_part ++ end_part))) c.in_ok-write_row_number-2.ensures.tokens
    (both_written family_at path_at end_at path_part (sum_part ++ (touch_part ++ end_part)) c.in_ok-write_text.ensures.tokens
    (both_written path_at sum_at end_at sum_part (touch_part ++ end_part) c.in_ok-write_sum.ensures.tokens
    (both_written sum_at touch_at end_at touch_part end_part c.in_ok-write_row_number-3.ensures.tokens
    last)))))))
    c.end_object.ensures.ok)
