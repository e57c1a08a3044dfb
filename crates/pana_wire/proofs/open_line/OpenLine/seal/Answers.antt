-- The mark, the digits, and what closes the object.
use Rattle.std.proofs.Common.{rules, ◌≡◌, ◌≤◌, List, ℕ, [], ◌∷◌, ◌++◌, length, sym, ap, subst, ◌∙◌}
use Rattle.hex.specs.Hex.{encode_lower}
use Rattle.pana_wire.specs.Seal.{mark, close}
use Rattle.pana_wire.proofs.LongLine.{whole_line, sealed_length}
use Rattle.pana_wire.proofs.open_line.OpenLine.seal.Goals as goal

pub returns : goal.returns
returns c entries is =
    let digest = c.args.digest.now in
    let digits : c.encode_to_slice.new.output ≡ encode_lower digest = search rules in
    let line : c.push-3.new.self ≡ ((c.args.self.now ++ mark) ++ encode_lower digest) ++ (close ++ 10 ∷ []) =
    c.push-3.ensures ∙ ap (λ (t : List ℕ). t ++ (close ++ 10 ∷ [])) (c.push-2.ensures ∙ ap (λ (t : List ℕ). t ++ c.encode_to_slice.new.output) c.push.ensures ∙ ap (λ (t : List ℕ). (c.args.self.now ++ mark) ++ t) digits) in
    whole_line entries digest c.args.self.now c.push-3.new.self (λ i. c.fits-digest i) is line (subst (λ (t : List ℕ). length t ≤ 1048577) (sym line) (sealed_length c.args.self.now digest c.told-digest c.requires.room))
