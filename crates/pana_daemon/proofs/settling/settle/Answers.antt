use Rattle.std.proofs.Common.{arith, ap, sym, ◌∙◌}
use Rattle.pana_tickets.specs.Hands.{ShareView}
use Rattle.pana_daemon.specs.Post.{doors_in}
use Rattle.pana_daemon.specs.inner.Doors.{hands_of}
use Rattle.pana_daemon.proofs.Doors.{joined_drawn, joined_missed, joined_most, joined_parts, left_are_of, missed_of_left, parts_of_left}
use Rattle.pana_daemon.proofs.settling.settle.Goals as goal

pub take_in-is_closed-requires-clause-doors : goal.take_in-is_closed-requires-clause-doors
take_in-is_closed-requires-clause-doors g c = left_are_of c.args.tickets.now (doors_in c.args.posts.items) c.requires.doors

pub all_drawn-requires-clause-whole : goal.all_drawn-requires-clause-whole
all_drawn-requires-clause-whole g c =
    let doors = doors_in c.args.posts.items in
    let begun = c.requires.whole in
    let parts = joined_parts c.args.whole.now.hand doors in
    let each = parts_of_left c.args.tickets.now doors c.requires.doors in
    ap (λ (s : ShareView). s.hand.parts) c.take_in-is_closed.ensures.whole ∙ parts ∙ omega (arith, each, c.requires.count, ap (λ (s : ShareView). s.hand.parts) begun)

pub all_drawn-requires-clause-missed : goal.all_drawn-requires-clause-missed
all_drawn-requires-clause-missed g c =
    let doors = doors_in c.args.posts.items in
    let is = ap (λ (s : ShareView). s.hand.missed) c.take_in-is_closed.ensures.whole ∙ joined_missed c.args.whole.now.hand doors in
    let some = missed_of_left c.args.tickets.now doors c.requires.doors (sym c.take_in-is_closed.ensures.closed ∙ c.if-not-is_closed.true) in
    omega (arith, is, some, c.requires.count)

pub returns-then-not-is_closed-clause-drawn : goal.returns-then-not-is_closed-clause-drawn
returns-then-not-is_closed-clause-drawn g c unclosed =
    let doors = doors_in c.args.posts.items in
    let begun = c.requires.whole in
    let taken = c.take_in-is_closed.ensures.whole in
    let same = c.all_drawn.ensures.same in
    let is = ap (λ (s : ShareView). s.hand.drawn) (same ∙ taken) ∙ joined_drawn c.args.whole.now.hand doors in
    let most = ap (λ (s : ShareView). s.hand.most) (same ∙ taken) ∙ joined_most c.args.whole.now.hand (hands_of doors) ∙ ap (λ (s : ShareView). s.hand.most) begun in
    let all = c.all_drawn.ensures.all in
    omega (arith, is, most, all, ap (λ (s : ShareView). s.hand.drawn) begun)
