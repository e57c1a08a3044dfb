use Rattle.std.proofs.Common.{◌≡◌, ◌+◌, length, get_or, [], ◌∷◌, ◌++◌, ap, sym, subst, ◌∙◌, arith}
use Rattle.std.proofs.lemmas.Option.{get_or_from_slice_get, slice_get_within}
use Rattle.pana_journal.specs.Entries.{Contents}
use Rattle.pana_journal.specs.declared.line.Line.{Line}
use Rattle.pana_journal.specs.inner.Lines.{AreThere, entries_kept, entry_kept, report_kept}
use Rattle.pana_journal.proofs.Lines.{entries_count, entries_keep, entries_push, there_pushed}
use Rattle.pana_journal.proofs.journal.Journal.append.Goals as goal

pub invariant_of-self : goal.invariant_of-self
invariant_of-self c =
    let inside = c.self.inside in
    let names = c.keep_name-by in
    let others = c.keep_report-report in
    let lines = c.push_reserved in
    let line : Line = record { by = names.result; report = others.result } in
    let by = slice_get_within names.new.names.items names.result c.args.by names.ensures.is in
    let there = there_pushed inside.names.items names.new.names.items inside.others.items others.new.others.items inside.lines.items line names.ensures.least others.ensures.least c.self.invariant.0 by others.ensures.there in
    let room : inside.room ≡ c.args.self.now.room = ap (λ (j : Contents). j.room) c.self.view_is in (
      subst (AreThere names.new.names.items others.new.others.items) (sym lines.ensures.items) there,
      (omega (arith, names.ensures.more, lines.ensures.len, c.self.invariant.1.0), omega (arith, names.ensures.more, names.ensures.capacity, c.self.invariant.1.1, room, c.requires)),
      (omega (arith, others.ensures.more, lines.ensures.len, c.self.invariant.2.0), omega (arith, others.ensures.more, others.ensures.capacity, c.self.invariant.2.1, room, c.requires)),
      (omega arith, omega (arith, lines.ensures.len, lines.ensures.capacity, c.self.invariant.3.1, room, c.requires)),
      omega (arith, lines.ensures.len, c.self.invariant.4, room, c.requires),
    )

pub returns-clause-number : goal.returns-clause-number
returns-clause-number c =
    let inside = c.self.inside in
    let count : inside.lines.len ≡ length c.args.self.now.entries =
    inside.lines.ok.0 ∙ sym (entries_count inside.names.items inside.others.items 1 inside.lines.items) ∙ ap (λ (j : Contents). length j.entries) c.self.view_is in
    let lines = c.push_reserved.new.self in
    let next : c.length.result ≡ lines.len = c.length.ensures.length ∙ entries_count c.keep_name-by.new.names.items c.keep_report-report.new.others.items 1 lines.items ∙ sym lines.ok.0 in
    omega (arith, next, c.push_reserved.ensures.len, count)

pub returns-clause-entries : goal.returns-clause-entries
returns-clause-entries c =
    let inside = c.self.inside in
    let names = c.keep_name-by.new.names.items in
    let others = c.keep_report-report.new.others.items in
    let line : Line = record { by = c.keep_name-by.result; report = c.keep_report-report.result } in
    let count : length inside.lines.items ≡ length c.args.self.now.entries =
    sym (entries_count inside.names.items inside.others.items 1 inside.lines.items) ∙ ap (λ (j : Contents). length j.entries) c.self.view_is in
    let number : 1 + length inside.lines.items ≡ c.length.result = omega (arith, count, returns-clause-number c) in
    let by = get_or_from_slice_get names c.keep_name-by.result c.args.by [] c.keep_name-by.ensures.is in
    ap (entries_kept names others 1) c.push_reserved.ensures.items
    ∙ entries_push names others 1 inside.lines.items line
    ∙ ap (λ l. l ++ entry_kept names others (1 + length inside.lines.items) line ∷ [])
    (entries_keep inside.names.items inside.others.items names others 1 inside.lines.items c.keep_name-by.ensures.keeps c.keep_report-report.ensures.keeps c.self.invariant.0
    ∙ ap (λ (j : Contents). j.entries) c.self.view_is)
    ∙ ap (λ n. c.args.self.now.entries ++ record { number = n; by = get_or names c.keep_name-by.result []; report = report_kept others c.keep_report-report.result } ∷ []) number
    ∙ ap (λ b. c.args.self.now.entries ++ record { number = c.length.result; by = b; report = report_kept others c.keep_report-report.result } ∷ []) by
    ∙ ap (λ r. c.args.self.now.entries ++ record { number = c.length.result; by = c.args.by; report = r } ∷ []) c.keep_report-report.ensures.is
