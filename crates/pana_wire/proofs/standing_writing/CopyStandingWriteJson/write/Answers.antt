-- With a sum and without.
use Rattle.std.specs.Prelude.{Option, Some, None, codes, decimal, option_copied}
use Rattle.std.proofs.Common.{◌≡◌, refl, ℕ, List, [], ◌∷◌, ◌++◌}
use Rattle.std.proofs.lemmas.Result.{on_ok_weaker}
use Rattle.json.specs.Token.{Token, begin_object, end_object, key, number, string}
use Rattle.json.specs.Tree.{json_tokens}
use Rattle.serde_json.specs.Written.{outline}
use Rattle.pana_calls.specs.declared.standing.CopyStanding.{CopyStanding}
use Rattle.pana_calls.specs.Standing.{state_name}
use Rattle.pana_wire.specs.inner.Pieces.{text_tokens}
use Rattle.pana_wire.specs.Reply.{standing_data, with_sum}
use Rattle.pana_wire.proofs.Pieces.{both_written}
use Rattle.pana_wire.proofs.standing_writing.CopyStandingWriteJson.write.Goals as goal

whole : (standing : CopyStanding) (sum : Option (List ℕ)) →
    begin_object
    ∷ key (codes "conflict") ∷ number (decimal standing.conflict)
    ∷ key (codes "copy") ∷ number (decimal standing.copy)
    ∷ key (codes "equal") ∷ number (decimal standing.equal)
    ∷ key (codes "family") ∷ number (decimal standing.family)
    ∷ key (codes "newer") ∷ number (decimal standing.newer)
    ∷ key (codes "older") ∷ number (decimal standing.older)
    ∷ key (codes "state") ∷ string (state_name standing.state)
    ∷ text_tokens (codes "sum") sum ++ end_object ∷ []
    ≡ json_tokens (outline (with_sum sum (standing_data standing)))
unfolding standing_data
whole standing None = refl
whole standing (Some sum) = refl

pub returns-clause-tokens : goal.returns-clause-tokens
returns-clause-tokens c =
    let begin_at : List Token = c.begin_object.new.self.tokens in
    let conflict_at : List Token = c.write_number.new.out.tokens in
    let copy_at : List Token = c.write_number-2.new.out.tokens in
    let equal_at : List Token = c.write_number-3.new.out.tokens in
    let family_at : List Token = c.write_number-4.new.out.tokens in
    let newer_at : List Token = c.write_number-5.new.out.tokens in
    let older_at : List Token = c.write_number-6.new.out.tokens in
    let state_at : List Token = c.write_text.new.out.tokens in
    let sum_at : List Token = c.write_sum.new.out.tokens in
    let end_at : List Token = c.end_object.new.self.tokens in
    let begin_part : List Token = begin_object ∷ [] in
    let conflict_part : List Token = key (codes "conflict") ∷ number (decimal c.args.self.now.conflict) ∷ [] in
    let copy_part : List Token = key (codes "copy") ∷ number (decimal c.args.self.now.copy) ∷ [] in
    let equal_part : List Token = key (codes "equal") ∷ number (decimal c.args.self.now.equal) ∷ [] in
    let family_part : List Token = key (codes "family") ∷ number (decimal c.args.self.now.family) ∷ [] in
    let newer_part : List Token = key (codes "newer") ∷ number (decimal c.args.self.now.newer) ∷ [] in
    let older_part : List Token = key (codes "older") ∷ number (decimal c.args.self.now.older) ∷ [] in
    let state_part : List Token = key (codes "state") ∷ string c.name.result.now ∷ [] in
    let sum_part : List Token = text_tokens (codes "sum") (option_copied c.lent.result) in
    let end_part : List Token = end_object ∷ [] in
    rw (← whole c.args.self.now c.args.self.now.sum, ← c.name.ensures, ← c.lent.ensures) (on_ok_weaker c.end_object.result
    (λ last.
    (both_written c.args.out.now.tokens begin_at end_at begin_part (conflict_part ++ (copy_part ++ (equal_part ++ (family_part ++ (newer_part ++ (older_part ++ (state_part ++ (sum_part ++ end_part)))))))) c.in_ok-begin_object.ensures.ok
    (both_written begin_at conflict_at end_at conflict_part (copy_part ++ (equal_part ++ (family_part ++ (newer_part ++ (older_part ++ (state_part ++ (sum_part ++ end_part))))))) c.in_ok-write_number.ensures.tokens
    (both_written conflict_at copy_at end_at copy_part (equal_part ++ (family_part ++ (newer_part ++ (older_part ++ (state_part ++ (sum_part ++ end_part)))))) c.in_ok-write_number-2.ensures.tokens
    (both_written copy_at equal_at end_at equal_part (family_part ++ (newer_part ++ (older_part ++ (state_part ++ (sum_part ++ end_part))))) c.in_ok-write_number-3.ensures.tokens
    (both_written equal_at family_at end_at family_part (newer_part ++ (older_part ++ (state_part ++ (sum_part ++ end_part)))) c.in_ok-write_number-4.ensures.tokens
    (both_written family_at newer_at end_at newer_part (older_part ++ (state_part ++ (sum_part ++ end_part))) c.in_ok-write_number-5.ensures.tokens
    (both_written newer_at older_at end_at older_part (state_part ++ (sum_part ++ end_part)) c.in_ok-write_number-6.ensures.tokens
    (both_written older_at state_at end_at state_part (sum_part ++ end_part) c.in_ok-write_text.ensures.tokens
    (both_written state_at sum_at end_at sum_part end_part c.in_ok-write_sum.ensures.tokens
    last))))))))))
    c.end_object.ensures.ok)
