use Rattle.std.proofs.Common.{ℕ, ◌+◌, ◌&&◌, Bool, List, [], ◌∷◌, ◌++◌, cond, drop, is_none, map, Option, refl, rules, sym, take, ap, ap₂, ◌∙◌}
use Rattle.pana_hall.specs.Effective.{is_of_copies}
use Rattle.pana_hall.proofs.Words.{map-append}
use Rattle.pana_history.specs.Row.{Drawn}
use Rattle.pana_history.specs.Rows.{entry_row}
use Rattle.pana_history.specs.declared.lane.Lane.{Lane}
use Rattle.pana_history.specs.inner.Lanes.{lanes_after}
use Rattle.pana_history.specs.inner.Story.{story_row}
use Rattle.pana_history.specs.inner.Withdrawals.{counts}
use Rattle.pana_history.proofs.Found.{next_item, taken_apart}
use Rattle.pana_history.proofs.Story.{lanes_so_far, next_lanes, next_row, no_lanes, number_is}
use Rattle.pana_history.proofs.rows.story_of.Goals as goal

pub loop-entry-init : goal.loop-entry-init
loop-entry-init c = record { rows = let new = c.new-rows.ensures in search rules; lanes = c.in_ok-lanes.ensures ∙ no_lanes c.args.own.now }

pub loop-entry-preserved : goal.loop-entry-preserved
loop-entry-preserved c =
    let own = c.args.own.now in
    let i = c.loop-entry.entry-index in
    let e = c.entry-item.result in
    let apart = taken_apart own i e c.loop-entry-test.true c.entry-item.is in
    let next = next_item own i e c.loop-entry-test.true c.entry-item.is in
    let story = c.requires.story in
    let number = number_is c.args.last own (take i own) e (drop (i + 1) own) apart story in
    let withdrawal = c.withdrawal_in-withdrawal.ensures ∙ c.requires.withdrawals e.number number.0 number.1 in
    let far = c.loop-entry.invariant in
    record {
      rows =
          c.in_ok-push.ensures.items
          ∙ ap₂ (λ (l : List Drawn) (r : Drawn). l ++ r ∷ []) far.rows
          (c.in_ok-entry_row.ensures ∙ ap₂ (λ (l : List Lane) (w : Option ℕ). entry_row l w e) (c.as_slice.ensures.value ∙ far.lanes) withdrawal ∙ sym (next_row c.args.last own (take i own) e (drop (i + 1) own) apart story))
          ∙ sym (ap (map (story_row own)) next ∙ map-append (story_row own) (take i own) (e ∷ []));
      lanes =
          c.in_ok-lanes-2.ensures
          ∙ ap₂ (λ (b : Bool) (l : List Lane). cond b (lanes_after e.number e.report l) l) (ap (λ (w : Option ℕ). is_of_copies e.report && is_none w) withdrawal) far.lanes
          ∙ sym (next_lanes c.args.last own (take i own) e (drop (i + 1) own) apart story (counts own e) refl) ∙ ap (lanes_so_far own) (sym next);
    }
