-- The bytes that there is room for are kept.
use Rattle.std.proofs.Common.{rules, ◌≡◌, ◌+◌, ◌-◌, ◌++◌, List, ℕ, length, ap, ◌∙◌, arith}
use Rattle.pana_wire.proofs.Lines.{keep_room}
use Rattle.pana_wire.proofs.line_buffer.LineBuffer.extend.Goals as goal

pub returns : goal.returns
returns c =
    let room = 65537 - c.len-room.result in
    let full : 65537 ≡ length c.args.self.now + room = omega (arith, c.self.invariant.0, c.len-room.ensures, ap (λ (l : List ℕ). length l) c.self.view_is) in
    let grown : c.extend_from_slice.new.self.items ≡ c.self.inside.bytes.items ++ c.at_most.result.now = search rules in
    grown ∙ ap (λ (l : List ℕ). l ++ c.at_most.result.now) c.self.view_is ∙ ap (λ (l : List ℕ). c.args.self.now ++ l) c.at_most.ensures ∙ keep_room c.args.self.now c.args.bytes.now room full
