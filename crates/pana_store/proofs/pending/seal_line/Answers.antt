-- The digest is of the bytes before, and of the entries' body.
use Rattle.std.proofs.Common.{◌≡◌, ap, ◌∙◌}
use Rattle.pana_seal.specs.Seal.{digest_of}
use Rattle.pana_wire.specs.Seal.{entries_body}
use Rattle.pana_wire.proofs.LongLine.{body_text}
use Rattle.pana_store.proofs.Lines.{is_line, is_sealed_behind}
use Rattle.pana_store.proofs.pending.seal_line.Goals as goal

pub returns-clause-line : goal.returns-clause-line
returns-clause-line c waiting is = is_line waiting c.finish-digest.result c.seal.new.self (c.seal.ensures waiting (c.close.ensures.line waiting is))

pub returns-clause-sealed : goal.returns-clause-sealed
returns-clause-sealed c waiting before is covers =
    let body = c.close.ensures.line waiting is in
    let made : c.finish-digest.result ≡ digest_of before (entries_body waiting) = c.finish-digest.ensures before covers ∙ ap (digest_of before) (c.as_slice.ensures ∙ body.text ∙ body_text waiting) in
    is_sealed_behind before waiting c.finish-digest.result c.seal.new.self made (c.seal.ensures waiting body)
