use Rattle.std.proofs.Common.{rules, ◌≡◌, ◌∷◌, ◌++◌, map, sym, subst, ◌∙◌}
use Rattle.std.specs.List.{IsDistinct}
use Rattle.std.specs.Map.{keys_of}
use Rattle.std.specs.Map.Iter.{deref}
use Rattle.std.specs.Str.{bytes_eq}
use Rattle.std.proofs.lemmas.List.{map-append}
use Rattle.std.proofs.lemmas.Map.Iter.{rest_so_far, rest_more, iter_end}
use Rattle.pana_copies.specs.Spots.{kept, place_of}
use Rattle.pana_copies.proofs.Paths.{AreFound, found_none, found_more, found_no_more, found_all}
use Rattle.pana_copies.proofs.copy_table.CopyTable.find_with_path.Goals as goal
use Rattle.pana_copies.proofs.copy_table.CopyTable.find_with_path.Goals.{in-Some-at+in_ok-push, in_default}

pub loop-device-init : goal.loop-device-init
loop-device-init c = record { path = c.in_ok-own.ensures; found = rw c.new-copies.ensures.items (found_none _ _) }

pub loop-device-preserved : goal.loop-device-preserved
loop-device-preserved c =
    let loop = c.loop-device in
    let so_far = rest_so_far deref loop.yielded c.into_iter-device-iterator.result loop.device-iterator loop.yielded_by in
    let more = rest_more deref loop.device-iterator c.next.new.self c.next.result c.in-Some.device c.in-Some.is c.next.ensures.steps in
    let keys : keys_of c.self.inside.devices.entries ≡ map deref loop.yielded ++ c.in-Some.device.now ∷ c.next.new.self = cc in
    let apart = subst (IsDistinct bytes_eq) keys c.keys-device-items.ensures.unique in
    let device_is = c.copy_of-in-loop-device.ensures in
    record {
      path = c.into_path-own.ensures ∙ loop.invariant.path;
      found = elim c.match-at.branch [
        | in-Some-at+in_ok-push w ↦ rw (map-append, w.copies-is, w.in_ok-push.ensures.items)
            (found_more _ _ (map deref loop.yielded) c.in-Some.device.now loop.copies.items _ device_is loop.invariant.path c.next.new.self w.in-Some-at.copy apart (rw w.in-Some-at.is at c.at.ensures) loop.invariant.found)
        | in_default w ↦ rw (map-append, w.copies-is)
            (found_no_more _ _ (map deref loop.yielded) c.in-Some.device.now loop.copies.items _ device_is loop.invariant.path (rw w.in_default.is at c.at.ensures) loop.invariant.found)
      ];
    }

pub returns-clause-found : goal.returns-clause-found
unfolding kept
returns-clause-found c =
    let in_self = c.self.inside in
    let found = c.loop-device.copies.items in
    let all : map deref c.loop-device.yielded ≡ keys_of in_self.devices.entries = search (rules, iter_end) in
    let are = subst (λ devices. AreFound (place_of c.args.self.now) c.args.path.now devices found) all c.loop-device.invariant.found in
    let at_inside = subst (λ t. AreFound (place_of t) c.args.path.now (keys_of in_self.devices.entries) found) (sym c.self.view_is) are in
    rw (← c.self.view_is) (found_all in_self.families.entries in_self.places.keys in_self.devices.entries c.self.invariant.0 c.args.path.now found at_inside)
