-- Three texts, one behind the other.
use Rattle.std.proofs.Common.{List, ℕ, ◌++◌, ◌∙◌, ap, subst, sym}
use Rattle.std.specs.Str.{IsUtf8}
use Rattle.std.proofs.lemmas.Str.{IsUtf8-append}
use Rattle.pana_wire.proofs.json_writing.text_around.Goals as goal

pub returns-clause-utf8 : goal.returns-clause-utf8
returns-clause-utf8 c =
    let begun = c.in_ok-extend_from_slice.ensures.items ∙ ap (λ (bytes : List ℕ). bytes ++ c.as_bytes.result.now) c.requires in
    let first : IsUtf8 c.extend_from_slice.new.self.items = subst IsUtf8 (sym begun) c.as_bytes.ensures.utf8 in
    let second : IsUtf8 c.extend_from_slice-2.new.self.items = subst IsUtf8 (sym c.in_ok-extend_from_slice-2.ensures.items) (IsUtf8-append _ _ first c.as_bytes-2.ensures.utf8) in
    subst IsUtf8 (sym c.in_ok-extend_from_slice-3.ensures.items) (IsUtf8-append _ _ second c.as_bytes-3.ensures.utf8)
