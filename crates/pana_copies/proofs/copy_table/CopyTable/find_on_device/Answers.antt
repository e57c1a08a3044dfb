use Rattle.std.proofs.Common.{◌≡◌, ◌++◌, filter_map, nat_eq, refl, sym, subst, ap, ◌∙◌, append-nil, arith}
use Rattle.std.specs.List.{IsDistinct}
use Rattle.pana_copies.specs.Spots.{kept}
use Rattle.pana_copies.specs.inner.Sides.{number_on}
use Rattle.pana_copies.proofs.OnDevice.{once, found_on}
use Rattle.pana_copies.proofs.copy_table.CopyTable.find_on_device.Goals as goal

pub overflow_add-at : goal.overflow_add-at
overflow_add-at c = omega (arith, c.in-Some.ensures.within.1, c.len.ensures.len, c.len.type_inv)

-- each copy of the device was found
all : (c : goal.In_default) → c.loop-index.copies.items ≡ filter_map (number_on c.args.device.now c.args.from) c.args.self.now.spots
all c =
    sym (append-nil c.loop-index.copies.items)
    ∙ ap (λ l. c.loop-index.copies.items ++ l) (sym (c.in_default.ensures.none refl c.args.device.now c.args.from c.mark-mark.ensures)) ∙ c.loop-index.invariant

pub returns-clause-once : goal.returns-clause-once
returns-clause-once c = subst (IsDistinct nat_eq) (sym (all c)) (once c.args.device.now c.args.from c.args.self.now.spots c.len.ensures.once)

pub returns-clause-found : goal.returns-clause-found
unfolding kept
returns-clause-found c = rw (all c) (found_on c.args.self.now.spots c.len.ensures.once c.args.device.now c.args.from)
