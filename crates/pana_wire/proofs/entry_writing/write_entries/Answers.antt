-- One entry more is written.
use Rattle.std.proofs.Common.{◌≡◌, ◌+◌, ◌<◌, ◌≤◌, [], ◌∷◌, ◌++◌, length, take, refl, sym, subst, ◌∙◌, arith}
use Rattle.std.specs.List.{All}
use Rattle.std.proofs.lemmas.Grind.{common_steps}
use Rattle.std.proofs.lemmas.List.{take_more, take_all}
use Rattle.std.proofs.lemmas.List.Elements.{All-push}
use Rattle.pana_wire.specs.inner.LongLine.{IsKnown}
use Rattle.pana_wire.proofs.entry_writing.write_entries.Goals as goal

pub loop-entry-preserved : goal.loop-entry-preserved
loop-entry-preserved c =
    let entries = c.args.entries.now in
    let i = c.loop-entry.entry-index in
    let x = c.entry-item.result in
    let within : i < length entries = omega arith in
    let grown : take (i + 1) entries ≡ take i entries ++ x ∷ [] = take_more entries i x within ∙ rw (sym c.entry-item.is) refl in
    (grind (arith, common_steps), grind (arith, common_steps), subst (λ l. All IsKnown l) (sym grown) (All-push IsKnown (take i entries) x c.loop-entry.invariant.2 c.in_ok-write_entry.ensures.known))

pub returns-clause-known : goal.returns-clause-known
returns-clause-known c =
    let entries = c.args.entries.now in
    let past : length entries ≤ c.loop-entry.entry-index = omega arith in
    subst (λ l. All IsKnown l) (take_all c.loop-entry.entry-index entries past) c.loop-entry.invariant.2
