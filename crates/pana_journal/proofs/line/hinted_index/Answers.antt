use Rattle.std.proofs.Common.{◌≡◌, length, sym, ap, ◌∙◌, refl, Some}
use Rattle.std.proofs.lemmas.Bool.{ltb-true}
use Rattle.std.proofs.lemmas.Option.{slice_get_read}
use Rattle.std.proofs.lemmas.Slice.Eq.{bytes_eq-Decides}
use Rattle.pana_journal.proofs.line.hinted_index.Goals as goal

pub returns-then-eq : goal.returns-then-eq
returns-then-eq c =
    let names = c.args.names.now in
    let index = c.in_ok-index.field-0.now in
    let name = c.in_ok-get.field-0.now in
    let same : name ≡ c.args.by.now = (bytes_eq-Decides name c.args.by.now).0 (sym c.eq.ensures ∙ c.if-eq.true) in
    slice_get_read names (length names) index name refl (ltb-true index (length names) (sym c.in_ok-get.ensures.lookup.0)) c.in_ok-get.ensures.lookup.1 ∙ ap Some same
