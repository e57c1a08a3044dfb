use Rattle.std.proofs.Common.{rules, ◌∙◌, ap, append_assoc}
use Rattle.std.specs.Prelude.{List, ℕ, [], ◌≡◌, ◌++◌}
use Rattle.sha2.specs.Sha256.{sha256}
use Rattle.pana_wire.specs.Seal.{mark, seal_with}
use Rattle.pana_seal.specs.Seal.{digest_of}
use Rattle.pana_seal.proofs.sealer.Sealer.push_sealed.Goals as goal

-- the digest behind the line's own bytes, once they are taken up
taken_up : (before body : List ℕ) → digest_of (before ++ body) [] ≡ digest_of before body
taken_up before body = ap sha256 (append_assoc before body mark)

pub returns-clause-is : goal.returns-clause-is
returns-clause-is c before covers =
    let line = c.split_seal.ensures in
    let so_far = c.push.ensures before covers in
    let digest = c.in_ok-digest.ensures (before ++ c.split_seal.result.0.now) so_far ∙ taken_up before c.split_seal.result.0.now in
    let seal = c.in_ok-seal.ensures ∙ ap seal_with digest in
    let same = c.eq.ensures in
    let items = c.as_bytes.ensures.value in
    search rules
