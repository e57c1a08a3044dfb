-- The last member of the name was found.
use Rattle.std.proofs.Common.{◌≡◌, ◌<◌, ◌-◌, ◌+◌, ℕ, List, length, take, None, option_map, refl, sym, ap, ◌∙◌, arith}
use Rattle.serde_json.specs.Data.{no_members}
use Rattle.pana_wire.specs.declared.flat_object.Member.{Member}
use Rattle.pana_wire.specs.inner.FlatObject.{content_data, content_of}
use Rattle.pana_wire.proofs.FlatObject.{content_found, content_met, content_passed}
use Rattle.pana_wire.proofs.flat_object.FlatObject.content.Goals as goal

pub loop-left-preserved : goal.loop-left-preserved
loop-left-preserved c =
    let l = c.loop-left in
    let ms = c.as_slice-members.result.now in
    let one : l.left ≡ (l.left - 1) + 1 = omega (arith, c.loop-left-test.true) in
    let less : l.left - 1 < length ms = omega (arith, c.loop-left-test.true, l.invariant.0) in
    (omega (arith, l.invariant.0), l.invariant.1 ∙ content_passed c.args.name.now ms (l.left - 1) l.left _ one less (sym c.eq.ensures ∙ c.if-eq.false))

pub returns-then-eq : goal.returns-then-eq
returns-then-eq c =
    let l = c.loop-left in
    let name = c.args.name.now in
    let ms = c.as_slice-members.result.now in
    let one : l.left ≡ (l.left - 1) + 1 = omega (arith, c.loop-left-test.true) in
    let less : l.left - 1 < length ms = omega (arith, c.loop-left-test.true, l.invariant.0) in
    let met = l.invariant.1 ∙ content_met name ms (l.left - 1) l.left _ one less (sym c.eq.ensures ∙ c.if-eq.true) in
    let found = content_found name c.args.self.now.members.items None no_members refl in
    ap (option_map content_data) (sym met ∙ ap (λ (items : List Member). content_of name items None) c.as_slice-members.ensures) ∙ found

pub returns : goal.returns
returns c =
    let l = c.loop-left in
    let name = c.args.name.now in
    let ms = c.as_slice-members.result.now in
    let none : l.left ≡ 0 = omega (arith, c.loop-left-test.false) in
    let met = l.invariant.1 ∙ ap (λ (k : ℕ). content_of name (take k ms) None) none in
    ap (option_map content_data) (sym met ∙ ap (λ (items : List Member). content_of name items None) c.as_slice-members.ensures)
    ∙ content_found name c.args.self.now.members.items None no_members refl
