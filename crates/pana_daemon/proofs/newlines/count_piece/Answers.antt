use Rattle.std.proofs.Common.{rules, ◌≡◌, ◌<◌, length, take, refl, subst}
use Rattle.std.specs.Io.KnownBytes.{Consumes}
use Rattle.pana_wire.specs.Tap.{inside}
use Rattle.pana_wire.proofs.Ends.{none_is_end}
use Rattle.pana_daemon.proofs.newlines.count_piece.Goals as goal

pub returns-in-Ok-eq0 : goal.returns-in-Ok-eq0
returns-in-Ok-eq0 g c =
    let old = g.R.Read.remaining (inside c.args.input.now) in
    let new = g.R.Read.remaining (inside c.read.new.self) in
    let buffer = c.read.new.buffer in
    let none : c.in-Ok-eq0.field-0 ≡ 0 = search rules in
    let room : 0 < length buffer = search rules in
    let met = none_is_end _ _ c.in-Ok-eq0.field-0 buffer none room c.in-Ok-eq0.ensures.ended in
    (subst (λ k. Consumes old new (take k buffer)) none c.in-Ok-eq0.ensures.bytes.0, refl, search (rules, met))
