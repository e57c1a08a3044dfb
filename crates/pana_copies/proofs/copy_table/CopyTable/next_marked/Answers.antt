use Rattle.std.proofs.Common.{refl, sym, ap}
use Rattle.pana_copies.proofs.OnDevice.{marks_are, none_marked, past_marked, some_marked, within_marked}
use Rattle.pana_copies.proofs.copy_table.CopyTable.next_marked.Goals as goal

pub returns-then-at-marks-clause-none : goal.returns-then-at-marks-clause-none
returns-then-at-marks-clause-none c =
    let self = c.self.inside in
    let are = marks_are self.families.entries self.places.keys self.marks.items c.as_slice-marks.result.now c.args.self.now.spots c.self.invariant.0.even c.self.invariant.1 (sym (ap (λ t. t.spots) c.self.view_is)) c.as_slice-marks.ensures.value in
    λ none device from is. past_marked c.args.self.now.spots c.as_slice-marks.result.now are c.args.at c.args.mark c.if-at-marks.true device from

pub returns-in_err-behind-clause-none : goal.returns-in_err-behind-clause-none
returns-in_err-behind-clause-none c =
    let self = c.self.inside in
    let are = marks_are self.families.entries self.places.keys self.marks.items c.as_slice-marks.result.now c.args.self.now.spots c.self.invariant.0.even c.self.invariant.1 (sym (ap (λ t. t.spots) c.self.view_is)) c.as_slice-marks.ensures.value in
    λ none. none_marked c.args.self.now.spots c.as_slice-marks.result.now are c.args.at c.args.mark (c.in_err-behind.ensures.none refl)

pub returns-clause-within : goal.returns-clause-within
returns-clause-within c =
    let self = c.self.inside in
    let are = marks_are self.families.entries self.places.keys self.marks.items c.as_slice-marks.result.now c.args.self.now.spots c.self.invariant.0.even c.self.invariant.1 (sym (ap (λ t. t.spots) c.self.view_is)) c.as_slice-marks.ensures.value in
    within_marked c.args.self.now.spots c.as_slice-marks.result.now are c.args.at c.args.mark c.in_ok-behind.behind c.in_ok-behind.ensures.some.1

pub returns-clause-found : goal.returns-clause-found
returns-clause-found c =
    let self = c.self.inside in
    let are = marks_are self.families.entries self.places.keys self.marks.items c.as_slice-marks.result.now c.args.self.now.spots c.self.invariant.0.even c.self.invariant.1 (sym (ap (λ t. t.spots) c.self.view_is)) c.as_slice-marks.ensures.value in
    some_marked c.args.self.now.spots c.as_slice-marks.result.now are c.args.at c.args.mark c.in_ok-behind.behind c.in_ok-behind.ensures.some.0
