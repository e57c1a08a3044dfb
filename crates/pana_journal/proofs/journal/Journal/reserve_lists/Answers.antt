use Rattle.std.proofs.Common.{◌≡◌, length, ap, sym, ◌∙◌, arith}
use Rattle.pana_journal.specs.Entries.{Contents}
use Rattle.pana_journal.proofs.Lines.{entries_count, there_same}
use Rattle.pana_journal.proofs.journal.Journal.reserve_lists.Goals as goal

pub invariant_of-self-2 : goal.invariant_of-self-2
invariant_of-self-2 c =
    let inside = c.self.inside in
    let count : inside.lines.len ≡ length c.args.self.now.entries =
    inside.lines.ok.0 ∙ sym (entries_count inside.names.items inside.others.items 1 inside.lines.items) ∙ ap (λ (j : Contents). length j.entries) c.self.view_is in
    let lines = c.reserve.ensures in
    let names = c.reserve-2.ensures in
    let others = c.reserve-3.ensures in
    let room = c.max-self-inside.ensures in (
      there_same inside.names.items _ inside.others.items _ inside.lines.items _ names.items others.items lines.items c.self.invariant.0,
      (omega (arith, lines.len, names.len, c.self.invariant.1.0), omega (arith, names.len, names.capacity, c.in_ok-reserve-2.ensures.ok, c.self.invariant.1.1, room)),
      (omega (arith, lines.len, others.len, c.self.invariant.2.0), omega (arith, others.len, others.capacity, c.in_ok-reserve-3.ensures.ok, c.self.invariant.2.1, room)),
      (omega (arith, lines.len), omega (arith, lines.len, lines.capacity, c.in_ok-reserve.ensures.ok, c.self.invariant.3.1, room)),
      omega (arith, lines.len, c.self.invariant.4, count, c.requires, room),
    )
