use Rattle.std.proofs.Common.{◌≡◌, ◌+◌, ◌-◌, ◌∷◌, [], ◌++◌, length, drop, refl, sym, ◌∙◌, arith}
use Rattle.pana_ignore.proofs.Behind.{items_behind-item}
use Rattle.pana_ignore.proofs.set.read_items.Goals as goal

pub loop-byte-preserved : goal.loop-byte-preserved
loop-byte-preserved c =
    let one = c.in-Some-item_at.found in
    let rest = c.loop-byte.rest.now in
    let behind = c.split_at.result.1.now in
    let pushed : c.push.new.self.items ≡ c.loop-byte.items.items ++ one.item ∷ [] = c.in_ok-push.ensures.items in
    let left : behind ≡ drop one.length rest = c.split_at.ensures.back in
    let bytes : length c.args.text.now - length behind ≡ length c.args.text.now - length rest + one.length = omega (arith, c.split_at.ensures.back_len, c.loop-byte.invariant.within) in
    record {
      read = c.loop-byte.invariant.read
          ∙ items_behind-item c.loop-byte.before rest _ _ one c.loop-byte.items.items (length c.args.text.now - length rest) c.in-Some.ensures.cases.0
          (sym c.closes.ensures ∙ c.if-closes.false) (sym c.item_at.ensures.item ∙ c.in-Some-item_at.is) c.in-Some-item_at.ensures.some
          ∙ sym (rw (pushed, bytes, left) refl);
      within = omega (arith, c.split_at.ensures.back_len, c.loop-byte.invariant.within);
    }
