use Rattle.std.proofs.Common.{◌≡◌, ◌+◌, [], Some, length, refl, subst, ap, sym, ◌∙◌, arith}
use Rattle.std.proofs.lemmas.Option.{slice_get_read}
use Rattle.pana_journal.specs.Entries.{Contents, entry_at}
use Rattle.pana_journal.specs.inner.Lines.{IsThere, report_kept}
use Rattle.pana_journal.proofs.Kept.{read_there}
use Rattle.pana_journal.proofs.Lines.{entries_count}
use Rattle.pana_journal.proofs.Pages.{kept_behind}
use Rattle.pana_journal.proofs.journal.Journal.copy_behind.Goals as goal

pub index-line-requires : goal.index-line-requires
index-line-requires c =
    let inside = c.self.inside in
    let count : inside.lines.len ≡ length c.args.self.now.entries =
    inside.lines.ok.0 ∙ sym (entries_count inside.names.items inside.others.items 1 inside.lines.items) ∙ ap (λ (j : Contents). length j.entries) c.self.view_is in
    omega (arith, count, c.requires)

pub report_copy-requires : goal.report_copy-requires
report_copy-requires c =
    let inside = c.self.inside in
    let line = c.index-line.result.now in
    let count : length inside.lines.items ≡ length c.args.self.now.entries =
    sym (entries_count inside.names.items inside.others.items 1 inside.lines.items) ∙ ap (λ (j : Contents). length j.entries) c.self.view_is in
    let at = slice_get_read inside.lines.items (length inside.lines.items) c.args.index line refl (omega (arith, count, c.requires)) c.index-line.ensures in
    subst (λ l. IsThere (length l) line.report) (sym c.as_slice.ensures.value) (c.self.invariant.0 c.args.index line at).1

pub overflow_add-result : goal.overflow_add-result
overflow_add-result c =
    let inside = c.self.inside in
    let count : inside.lines.len ≡ length c.args.self.now.entries =
    inside.lines.ok.0 ∙ sym (entries_count inside.names.items inside.others.items 1 inside.lines.items) ∙ ap (λ (j : Contents). length j.entries) c.self.view_is in
    omega (arith, count, c.requires, c.self.invariant.4)

pub index-requires : goal.index-requires
index-requires c =
    let inside = c.self.inside in
    let line = c.index-line.result.now in
    let count : length inside.lines.items ≡ length c.args.self.now.entries =
    sym (entries_count inside.names.items inside.others.items 1 inside.lines.items) ∙ ap (λ (j : Contents). length j.entries) c.self.view_is in
    let at = slice_get_read inside.lines.items (length inside.lines.items) c.args.index line refl (omega (arith, count, c.requires)) c.index-line.ensures in
    omega (arith, (c.self.invariant.0 c.args.index line at).0, inside.names.ok.0)

pub returns : goal.returns
returns c =
    let inside = c.self.inside in
    let line = c.index-line.result.now in
    let count : length inside.lines.items ≡ length c.args.self.now.entries =
    sym (entries_count inside.names.items inside.others.items 1 inside.lines.items) ∙ ap (λ (j : Contents). length j.entries) c.self.view_is in
    let at = slice_get_read inside.lines.items (length inside.lines.items) c.args.index line refl (omega (arith, count, c.requires)) c.index-line.ensures in
    let there = c.self.invariant.0 c.args.index line at in
    let by = c.copy_of.ensures ∙ read_there inside.names.items line.by c.index.result.now [] there.0 c.index.ensures in
    let report = c.in_ok-report.ensures ∙ ap (λ l. report_kept l line.report) c.as_slice.ensures.value in
    ap (λ (j : Contents). entry_at j.entries (c.args.index + 1)) (sym c.self.view_is)
    ∙ kept_behind inside.names.items inside.others.items inside.lines.items c.args.index line at
    ∙ ap (λ b. Some (record { number = c.args.index + 1; by = b; report = report_kept inside.others.items line.report })) (sym by)
    ∙ ap (λ r. Some (record { number = c.args.index + 1; by = c.copy_of.result; report = r })) (sym report)
