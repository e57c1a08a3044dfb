use Rattle.std.proofs.Common.{rules, ◌≡◌, ◌≢◌, ◌<◌, ◌≤◌, ◌+◌, ℕ, Option, [], List, length, take, drop, vec_len, length-take-le, take-append-drop, sym, ap, subst, ◌∙◌}
use native.Mathlib.Omega.{arith}
use Rattle.pana_journal.specs.declared.entry.Entry.{Entry}
use Rattle.pana_shared_store.specs.declared.placing.Placed.TheVariants.{Ours, Others, Full}
use Rattle.pana_shared_store.specs.Store.{AreFirst}
use Rattle.pana_shared_store.specs.inner.{IsStore}
use Rattle.pana_calls.specs.Session.{MakesAll}
use Rattle.pana_shared_store.specs.inner.Groups.{AreBehind, Goes, GroupsNot, moment, shown}
use Rattle.pana_shared_store.proofs.Grouped.{asked_all, full_stay, full_store, is_new_all, is_unused_all, looks_from, looks_not, may_put_all, none_made, others_stay_all, others_store, ours_all, ours_store, unknown_not, unknown_store}
use Rattle.pana_shared_store.proofs.Gathered.{no_records}
use Rattle.pana_shared_store.proofs.Made.{placed_as}
use Rattle.pana_shared_store.proofs.Readied.{store_looked}
use Rattle.pana_shared_store.proofs.grouping.make_group.Goals as goal

pub read_behind-requires-clause-first : goal.read_behind-requires-clause-first
read_behind-requires-clause-first g c known =
    let many : length (take c.gather-count.result c.args.calls.now) ≡ c.gather-count.result = length-take-le c.gather-count.result c.args.calls.now c.gather-count.ensures.within in
    let counted : 0 < c.gather-count.result = search rules in
    let some : 0 < length (take c.gather-count.result c.args.calls.now) = omega (arith, many, counted) in
    let until : c.args.turn.now + c.gather-count.result ≡ c.args.turn.now + length (take c.gather-count.result c.args.calls.now) = omega (arith, many) in
    let zero : vec_len c.gather-count.new.group ≡ 0 = search rules in
    let none = no_records c.gather-count.new.group.items (sym c.gather-count.new.group.ok.0 ∙ zero) in
    let same : c.gather-count.new.hall ≡ c.args.hall.now = none_made g.L.SharedLog.is_known c.args.is_stale c.args.hall.now c.gather-count.new.hall c.args.turn.now (c.args.turn.now + c.gather-count.result) c.length-at.result c.writer-writer.result (g.L.SharedLog.seen c.args.log.now) (g.L.SharedLog.seen c.args.log.now) c.args.calls.now (take c.gather-count.result c.args.calls.now) c.args.answers.now.items c.gather-count.new.answers.items c.gather-count.new.group.items c.requires.store c.writer-writer.ensures c.gather-count.ensures.gathers c.length-at.ensures.length some until none in
    subst (λ (l : List Entry). AreFirst l (g.L.SharedLog.seen c.args.log.now).records) (sym same) (c.requires.store known).first

pub returns-in_err-read_behind-clause-store : goal.returns-in_err-read_behind-clause-store
returns-in_err-read_behind-clause-store g c known =
    let many : length (take c.gather-count.result c.args.calls.now) ≡ c.gather-count.result = length-take-le c.gather-count.result c.args.calls.now c.gather-count.ensures.within in
    let counted : 0 < c.gather-count.result = search rules in
    let some : 0 < length (take c.gather-count.result c.args.calls.now) = omega (arith, many, counted) in
    let until : c.args.turn.now + c.gather-count.result ≡ c.args.turn.now + length (take c.gather-count.result c.args.calls.now) = omega (arith, many) in
    let zero : vec_len c.gather-count.new.group ≡ 0 = search rules in
    let none = no_records c.gather-count.new.group.items (sym c.gather-count.new.group.ok.0 ∙ zero) in
    let same : c.gather-count.new.hall ≡ c.args.hall.now = none_made g.L.SharedLog.is_known c.args.is_stale c.args.hall.now c.gather-count.new.hall c.args.turn.now (c.args.turn.now + c.gather-count.result) c.length-at.result c.writer-writer.result (g.L.SharedLog.seen c.args.log.now) (g.L.SharedLog.seen c.read_behind.new.log) c.args.calls.now (take c.gather-count.result c.args.calls.now) c.args.answers.now.items c.gather-count.new.answers.items c.gather-count.new.group.items c.requires.store c.writer-writer.ensures c.gather-count.ensures.gathers c.length-at.ensures.length some until none in
    let looks = looks_from g.L.SharedLog.is_known c.args.hall.now c.gather-count.new.hall c.read_behind.new.hall (g.L.SharedLog.seen c.args.log.now) (g.L.SharedLog.seen c.read_behind.new.log) same c.read_behind.ensures.looks in
    subst (λ (o : Option ℕ). IsStore (shown c.read_behind.new.hall o) c.args.turn.now (g.L.SharedLog.seen c.read_behind.new.log)) (sym c.requires.kept) (store_looked c.args.turn.now c.args.hall.now c.read_behind.new.hall (g.L.SharedLog.seen c.args.log.now) (g.L.SharedLog.seen c.read_behind.new.log) (c.requires.store known) (looks.reads known) looks.goes_on (looks.first known))

pub returns-then-branch-clause-store : goal.returns-then-branch-clause-store
returns-then-branch-clause-store g c known =
    let many : length (take c.gather-count.result c.args.calls.now) ≡ c.gather-count.result = length-take-le c.gather-count.result c.args.calls.now c.gather-count.ensures.within in
    let counted : 0 < c.gather-count.result = search rules in
    let some : 0 < length (take c.gather-count.result c.args.calls.now) = omega (arith, many, counted) in
    let until : c.args.turn.now + c.gather-count.result ≡ c.args.turn.now + length (take c.gather-count.result c.args.calls.now) = omega (arith, many) in
    let zero : vec_len c.gather-count.new.group ≡ 0 = search rules in
    let none = no_records c.gather-count.new.group.items (sym c.gather-count.new.group.ok.0 ∙ zero) in
    let same : c.gather-count.new.hall ≡ c.args.hall.now = none_made g.L.SharedLog.is_known c.args.is_stale c.args.hall.now c.gather-count.new.hall c.args.turn.now (c.args.turn.now + c.gather-count.result) c.length-at.result c.writer-writer.result (g.L.SharedLog.seen c.args.log.now) (g.L.SharedLog.seen c.read_behind.new.log) c.args.calls.now (take c.gather-count.result c.args.calls.now) c.args.answers.now.items c.gather-count.new.answers.items c.gather-count.new.group.items c.requires.store c.writer-writer.ensures c.gather-count.ensures.gathers c.length-at.ensures.length some until none in
    let looks = looks_from g.L.SharedLog.is_known c.args.hall.now c.gather-count.new.hall c.read_behind.new.hall (g.L.SharedLog.seen c.args.log.now) (g.L.SharedLog.seen c.read_behind.new.log) same c.read_behind.ensures.looks in
    subst (λ (o : Option ℕ). IsStore (shown c.read_behind.new.hall o) c.args.turn.now (g.L.SharedLog.seen c.read_behind.new.log)) (sym c.requires.kept) (store_looked c.args.turn.now c.args.hall.now c.read_behind.new.hall (g.L.SharedLog.seen c.args.log.now) (g.L.SharedLog.seen c.read_behind.new.log) (c.requires.store known) (looks.reads known) looks.goes_on (looks.first known))

pub returns-else-branch-clause-store : goal.returns-else-branch-clause-store
returns-else-branch-clause-store g c known =
    let many : length (take c.gather-count.result c.args.calls.now) ≡ c.gather-count.result = length-take-le c.gather-count.result c.args.calls.now c.gather-count.ensures.within in
    let counted : 0 < c.gather-count.result = search rules in
    let some : 0 < length (take c.gather-count.result c.args.calls.now) = omega (arith, many, counted) in
    let until : c.args.turn.now + c.gather-count.result ≡ c.args.turn.now + length (take c.gather-count.result c.args.calls.now) = omega (arith, many) in
    let zero : vec_len c.gather-count.new.group ≡ 0 = search rules in
    let none = no_records c.gather-count.new.group.items (sym c.gather-count.new.group.ok.0 ∙ zero) in
    let same : c.gather-count.new.hall ≡ c.args.hall.now = none_made g.L.SharedLog.is_known c.args.is_stale c.args.hall.now c.gather-count.new.hall c.args.turn.now (c.args.turn.now + c.gather-count.result) c.length-at.result c.writer-writer.result (g.L.SharedLog.seen c.args.log.now) (g.L.SharedLog.seen c.read_behind.new.log) c.args.calls.now (take c.gather-count.result c.args.calls.now) c.args.answers.now.items c.gather-count.new.answers.items c.gather-count.new.group.items c.requires.store c.writer-writer.ensures c.gather-count.ensures.gathers c.length-at.ensures.length some until none in
    let looks = looks_from g.L.SharedLog.is_known c.args.hall.now c.gather-count.new.hall c.read_behind.new.hall (g.L.SharedLog.seen c.args.log.now) (g.L.SharedLog.seen c.read_behind.new.log) same c.read_behind.ensures.looks in
    subst (λ (o : Option ℕ). IsStore (shown c.read_behind.new.hall o) c.args.turn.now (g.L.SharedLog.seen c.read_behind.new.log)) (sym c.requires.kept) (store_looked c.args.turn.now c.args.hall.now c.read_behind.new.hall (g.L.SharedLog.seen c.args.log.now) (g.L.SharedLog.seen c.read_behind.new.log) (c.requires.store known) (looks.reads known) looks.goes_on (looks.first known))

pub returns-in_err-read_behind-clause-err : goal.returns-in_err-read_behind-clause-err
returns-in_err-read_behind-clause-err g c =
    let many : length (take c.gather-count.result c.args.calls.now) ≡ c.gather-count.result = length-take-le c.gather-count.result c.args.calls.now c.gather-count.ensures.within in
    let counted : 0 < c.gather-count.result = search rules in
    let some : 0 < length (take c.gather-count.result c.args.calls.now) = omega (arith, many, counted) in
    let until : c.args.turn.now + c.gather-count.result ≡ c.args.turn.now + length (take c.gather-count.result c.args.calls.now) = omega (arith, many) in
    let zero : vec_len c.gather-count.new.group ≡ 0 = search rules in
    let none = no_records c.gather-count.new.group.items (sym c.gather-count.new.group.ok.0 ∙ zero) in
    let same : c.gather-count.new.hall ≡ c.args.hall.now = none_made g.L.SharedLog.is_known c.args.is_stale c.args.hall.now c.gather-count.new.hall c.args.turn.now (c.args.turn.now + c.gather-count.result) c.length-at.result c.writer-writer.result (g.L.SharedLog.seen c.args.log.now) (g.L.SharedLog.seen c.read_behind.new.log) c.args.calls.now (take c.gather-count.result c.args.calls.now) c.args.answers.now.items c.gather-count.new.answers.items c.gather-count.new.group.items c.requires.store c.writer-writer.ensures c.gather-count.ensures.gathers c.length-at.ensures.length some until none in
    let looks = looks_from g.L.SharedLog.is_known c.args.hall.now c.gather-count.new.hall c.read_behind.new.hall (g.L.SharedLog.seen c.args.log.now) (g.L.SharedLog.seen c.read_behind.new.log) same c.read_behind.ensures.looks in
    let within = c.gather-count.ensures.within in
    let given : 0 < length c.args.calls.now = omega (arith, counted, within) in
    let fact : GroupsNot g.L.SharedLog.is_known (moment c.args.hall.now (g.L.SharedLog.seen c.args.log.now) c.args.turn.now) c.args.calls.now (moment (shown c.read_behind.new.hall c.args.kept.now) (g.L.SharedLog.seen c.read_behind.new.log) c.args.turn.now) =
    subst (λ (o : Option ℕ). GroupsNot g.L.SharedLog.is_known (moment c.args.hall.now (g.L.SharedLog.seen c.args.log.now) c.args.turn.now) c.args.calls.now (moment (shown c.read_behind.new.hall o) (g.L.SharedLog.seen c.read_behind.new.log) c.args.turn.now)) (sym c.requires.kept) (looks_not g.L.SharedLog.is_known c.args.hall.now c.read_behind.new.hall c.args.turn.now c.args.turn.now (g.L.SharedLog.seen c.args.log.now) (g.L.SharedLog.seen c.read_behind.new.log) c.args.calls.now given looks) in
    search (rules, fact)

pub returns-then-branch-clause-ok : goal.returns-then-branch-clause-ok
returns-then-branch-clause-ok g c =
    let many : length (take c.gather-count.result c.args.calls.now) ≡ c.gather-count.result = length-take-le c.gather-count.result c.args.calls.now c.gather-count.ensures.within in
    let counted : 0 < c.gather-count.result = search rules in
    let some : 0 < length (take c.gather-count.result c.args.calls.now) = omega (arith, many, counted) in
    let until : c.args.turn.now + c.gather-count.result ≡ c.args.turn.now + length (take c.gather-count.result c.args.calls.now) = omega (arith, many) in
    let zero : vec_len c.gather-count.new.group ≡ 0 = search rules in
    let none = no_records c.gather-count.new.group.items (sym c.gather-count.new.group.ok.0 ∙ zero) in
    let same : c.gather-count.new.hall ≡ c.args.hall.now = none_made g.L.SharedLog.is_known c.args.is_stale c.args.hall.now c.gather-count.new.hall c.args.turn.now (c.args.turn.now + c.gather-count.result) c.length-at.result c.writer-writer.result (g.L.SharedLog.seen c.args.log.now) (g.L.SharedLog.seen c.read_behind.new.log) c.args.calls.now (take c.gather-count.result c.args.calls.now) c.args.answers.now.items c.gather-count.new.answers.items c.gather-count.new.group.items c.requires.store c.writer-writer.ensures c.gather-count.ensures.gathers c.length-at.ensures.length some until none in
    let looks = looks_from g.L.SharedLog.is_known c.args.hall.now c.gather-count.new.hall c.read_behind.new.hall (g.L.SharedLog.seen c.args.log.now) (g.L.SharedLog.seen c.read_behind.new.log) same c.read_behind.ensures.looks in
    let last : c.read_behind.new.hall ≡ c.args.hall.now = c.in_ok-read_behind.ensures.same c.if-branch.true ∙ same in (
      counted,
      c.gather-count.ensures.within,
      c.gather-count.ensures.gathers.given,
      c.gather-count.ensures.gathers.adds,
      subst (λ (l : List Entry). MakesAll (Goes g.L.SharedLog.is_known c.args.is_stale) (moment c.args.hall.now (g.L.SharedLog.seen c.args.log.now) c.args.turn.now) (take c.gather-count.result c.args.calls.now) c.gather-count.ensures.gathers.given (moment l (g.L.SharedLog.seen c.read_behind.new.log) c.args.turn.now)) (sym (ap (shown c.read_behind.new.hall) c.requires.kept ∙ last))
          (asked_all g.L.SharedLog.is_known c.args.is_stale c.args.hall.now c.gather-count.new.hall c.args.turn.now (c.args.turn.now + c.gather-count.result) c.length-at.result c.writer-writer.result (g.L.SharedLog.seen c.args.log.now) (g.L.SharedLog.seen c.read_behind.new.log) c.args.calls.now (take c.gather-count.result c.args.calls.now) c.args.answers.now.items c.gather-count.new.answers.items c.gather-count.new.group.items c.requires.store c.writer-writer.ensures c.gather-count.ensures.gathers c.length-at.ensures.length some until none looks.reads (λ known. subst (λ (l : List Entry). AreFirst l (g.L.SharedLog.seen c.read_behind.new.log).records) last (looks.first known))
          (λ known. subst (λ (l : List Entry). AreBehind c.args.is_stale (take c.gather-count.result c.args.calls.now) (length (g.L.SharedLog.seen c.args.log.now).records ≤ length l)) last (c.in_ok-read_behind.ensures.all known))),
    )

pub place-requires-clause-may : goal.place-requires-clause-may
place-requires-clause-may g c known =
    let many : length (take c.gather-count.result c.args.calls.now) ≡ c.gather-count.result = length-take-le c.gather-count.result c.args.calls.now c.gather-count.ensures.within in
    let counted : 0 < c.gather-count.result = search rules in
    let some : 0 < length (take c.gather-count.result c.args.calls.now) = omega (arith, many, counted) in
    let until : c.args.turn.now + c.gather-count.result ≡ c.args.turn.now + length (take c.gather-count.result c.args.calls.now) = omega (arith, many) in
    let one : c.gather-count.new.group.items ≢ [] = search rules in
    may_put_all g.L.SharedLog.is_known c.args.is_stale c.args.hall.now c.gather-count.new.hall c.args.turn.now (c.args.turn.now + c.gather-count.result) c.length-at.result c.writer-writer.result (g.L.SharedLog.seen c.args.log.now) (g.L.SharedLog.seen c.args.log.now) c.args.calls.now (take c.gather-count.result c.args.calls.now) c.args.answers.now.items c.gather-count.new.answers.items c.gather-count.new.group.items c.requires.store c.writer-writer.ensures c.gather-count.ensures.gathers c.length-at.ensures.length some until one known

pub place-requires-clause-other : goal.place-requires-clause-other
place-requires-clause-other g c known =
    let many : length (take c.gather-count.result c.args.calls.now) ≡ c.gather-count.result = length-take-le c.gather-count.result c.args.calls.now c.gather-count.ensures.within in
    let counted : 0 < c.gather-count.result = search rules in
    let some : 0 < length (take c.gather-count.result c.args.calls.now) = omega (arith, many, counted) in
    let until : c.args.turn.now + c.gather-count.result ≡ c.args.turn.now + length (take c.gather-count.result c.args.calls.now) = omega (arith, many) in
    let one : c.gather-count.new.group.items ≢ [] = search rules in
    is_new_all g.L.SharedLog.is_known c.args.is_stale c.args.hall.now c.gather-count.new.hall c.args.turn.now (c.args.turn.now + c.gather-count.result) c.length-at.result c.writer-writer.result (g.L.SharedLog.seen c.args.log.now) (g.L.SharedLog.seen c.args.log.now) c.args.calls.now (take c.gather-count.result c.args.calls.now) c.args.answers.now.items c.gather-count.new.answers.items c.gather-count.new.group.items c.requires.store c.writer-writer.ensures c.gather-count.ensures.gathers c.length-at.ensures.length some until one known

pub place-requires-clause-unused : goal.place-requires-clause-unused
place-requires-clause-unused g c known =
    let many : length (take c.gather-count.result c.args.calls.now) ≡ c.gather-count.result = length-take-le c.gather-count.result c.args.calls.now c.gather-count.ensures.within in
    let counted : 0 < c.gather-count.result = search rules in
    let some : 0 < length (take c.gather-count.result c.args.calls.now) = omega (arith, many, counted) in
    let until : c.args.turn.now + c.gather-count.result ≡ c.args.turn.now + length (take c.gather-count.result c.args.calls.now) = omega (arith, many) in
    let one : c.gather-count.new.group.items ≢ [] = search rules in
    is_unused_all g.L.SharedLog.is_known c.args.is_stale c.args.hall.now c.gather-count.new.hall c.args.turn.now (c.args.turn.now + c.gather-count.result) c.length-at.result c.writer-writer.result (g.L.SharedLog.seen c.args.log.now) (g.L.SharedLog.seen c.args.log.now) c.args.calls.now (take c.gather-count.result c.args.calls.now) c.args.answers.now.items c.gather-count.new.answers.items c.gather-count.new.group.items c.requires.store c.writer-writer.ensures c.gather-count.ensures.gathers c.length-at.ensures.length some until one known

pub returns-in-Ok-Ours-clause-store : goal.returns-in-Ok-Ours-clause-store
returns-in-Ok-Ours-clause-store g c known =
    let many : length (take c.gather-count.result c.args.calls.now) ≡ c.gather-count.result = length-take-le c.gather-count.result c.args.calls.now c.gather-count.ensures.within in
    let counted : 0 < c.gather-count.result = search rules in
    let some : 0 < length (take c.gather-count.result c.args.calls.now) = omega (arith, many, counted) in
    let until : c.args.turn.now + c.gather-count.result ≡ c.args.turn.now + length (take c.gather-count.result c.args.calls.now) = omega (arith, many) in
    let one : c.gather-count.new.group.items ≢ [] = search rules in
    ours_store g.L.SharedLog.is_known c.args.is_stale c.args.hall.now c.gather-count.new.hall c.args.turn.now (c.args.turn.now + c.gather-count.result) c.length-at.result c.writer-writer.result (g.L.SharedLog.seen c.args.log.now) (g.L.SharedLog.seen c.place.new.log) c.args.calls.now (take c.gather-count.result c.args.calls.now) c.args.answers.now.items c.gather-count.new.answers.items c.gather-count.new.group.items c.requires.store c.writer-writer.ensures c.gather-count.ensures.gathers c.length-at.ensures.length some until one known (placed_as (g.L.SharedLog.seen c.args.log.now) (g.L.SharedLog.seen c.place.new.log) c.length-at.result c.gather-count.new.group.items _ Ours c.in-Ok-Ours.field-0-is (c.in-Ok-Ours.ensures.ok known))

pub returns-in-Ok-Ours-clause-ok : goal.returns-in-Ok-Ours-clause-ok
returns-in-Ok-Ours-clause-ok g c =
    let many : length (take c.gather-count.result c.args.calls.now) ≡ c.gather-count.result = length-take-le c.gather-count.result c.args.calls.now c.gather-count.ensures.within in
    let counted : 0 < c.gather-count.result = search rules in
    let some : 0 < length (take c.gather-count.result c.args.calls.now) = omega (arith, many, counted) in
    let until : c.args.turn.now + c.gather-count.result ≡ c.args.turn.now + length (take c.gather-count.result c.args.calls.now) = omega (arith, many) in
    let one : c.gather-count.new.group.items ≢ [] = search rules in
    (counted, c.gather-count.ensures.within, c.gather-count.ensures.gathers.given, c.gather-count.ensures.gathers.adds, ours_all g.L.SharedLog.is_known c.args.is_stale c.args.hall.now c.gather-count.new.hall c.args.turn.now (c.args.turn.now + c.gather-count.result) c.length-at.result c.writer-writer.result (g.L.SharedLog.seen c.args.log.now) (g.L.SharedLog.seen c.place.new.log) c.args.calls.now (take c.gather-count.result c.args.calls.now) c.args.answers.now.items c.gather-count.new.answers.items c.gather-count.new.group.items c.requires.store c.writer-writer.ensures c.gather-count.ensures.gathers c.length-at.ensures.length some until one (λ known. (placed_as (g.L.SharedLog.seen c.args.log.now) (g.L.SharedLog.seen c.place.new.log) c.length-at.result c.gather-count.new.group.items _ Ours c.in-Ok-Ours.field-0-is (c.in-Ok-Ours.ensures.ok known))))

pub returns-in-Ok-Others-clause-store : goal.returns-in-Ok-Others-clause-store
returns-in-Ok-Others-clause-store g c known =
    let many : length (take c.gather-count.result c.args.calls.now) ≡ c.gather-count.result = length-take-le c.gather-count.result c.args.calls.now c.gather-count.ensures.within in
    let counted : 0 < c.gather-count.result = search rules in
    let some : 0 < length (take c.gather-count.result c.args.calls.now) = omega (arith, many, counted) in
    let until : c.args.turn.now + c.gather-count.result ≡ c.args.turn.now + length (take c.gather-count.result c.args.calls.now) = omega (arith, many) in
    let one : c.gather-count.new.group.items ≢ [] = search rules in
    others_store g.L.SharedLog.is_known c.args.is_stale c.args.hall.now c.gather-count.new.hall c.args.turn.now (c.args.turn.now + c.gather-count.result) c.length-at.result c.writer-writer.result (g.L.SharedLog.seen c.args.log.now) (g.L.SharedLog.seen c.place.new.log) c.args.calls.now (take c.gather-count.result c.args.calls.now) c.args.answers.now.items c.gather-count.new.answers.items c.gather-count.new.group.items c.requires.store c.writer-writer.ensures c.gather-count.ensures.gathers c.length-at.ensures.length some until one c.in-Ok-Others.page known (placed_as (g.L.SharedLog.seen c.args.log.now) (g.L.SharedLog.seen c.place.new.log) c.length-at.result c.gather-count.new.group.items _ (Others c.in-Ok-Others.page) c.in-Ok-Others.field-0-is (c.in-Ok-Others.ensures.ok known))

pub returns-in-Ok-Others-clause-ok : goal.returns-in-Ok-Others-clause-ok
returns-in-Ok-Others-clause-ok g c =
    let many : length (take c.gather-count.result c.args.calls.now) ≡ c.gather-count.result = length-take-le c.gather-count.result c.args.calls.now c.gather-count.ensures.within in
    let counted : 0 < c.gather-count.result = search rules in
    let some : 0 < length (take c.gather-count.result c.args.calls.now) = omega (arith, many, counted) in
    let until : c.args.turn.now + c.gather-count.result ≡ c.args.turn.now + length (take c.gather-count.result c.args.calls.now) = omega (arith, many) in
    let one : c.gather-count.new.group.items ≢ [] = search rules in
    others_stay_all g.L.SharedLog.is_known c.args.is_stale c.args.hall.now c.gather-count.new.hall c.args.turn.now (c.args.turn.now + c.gather-count.result) c.length-at.result c.writer-writer.result (g.L.SharedLog.seen c.args.log.now) (g.L.SharedLog.seen c.place.new.log) c.args.calls.now (take c.gather-count.result c.args.calls.now) c.args.answers.now.items c.gather-count.new.answers.items c.gather-count.new.group.items c.requires.store c.writer-writer.ensures c.gather-count.ensures.gathers c.length-at.ensures.length some until one c.in-Ok-Others.page (λ known. (placed_as (g.L.SharedLog.seen c.args.log.now) (g.L.SharedLog.seen c.place.new.log) c.length-at.result c.gather-count.new.group.items _ (Others c.in-Ok-Others.page) c.in-Ok-Others.field-0-is (c.in-Ok-Others.ensures.ok known)))

pub returns-in-Ok-Full-clause-store : goal.returns-in-Ok-Full-clause-store
returns-in-Ok-Full-clause-store g c known =
    let many : length (take c.gather-count.result c.args.calls.now) ≡ c.gather-count.result = length-take-le c.gather-count.result c.args.calls.now c.gather-count.ensures.within in
    let counted : 0 < c.gather-count.result = search rules in
    let some : 0 < length (take c.gather-count.result c.args.calls.now) = omega (arith, many, counted) in
    let until : c.args.turn.now + c.gather-count.result ≡ c.args.turn.now + length (take c.gather-count.result c.args.calls.now) = omega (arith, many) in
    let one : c.gather-count.new.group.items ≢ [] = search rules in
    full_store g.L.SharedLog.is_known c.args.is_stale c.args.hall.now c.gather-count.new.hall c.args.turn.now (c.args.turn.now + c.gather-count.result) c.length-at.result c.writer-writer.result (g.L.SharedLog.seen c.args.log.now) (g.L.SharedLog.seen c.place.new.log) c.args.calls.now (take c.gather-count.result c.args.calls.now) c.args.answers.now.items c.gather-count.new.answers.items c.gather-count.new.group.items c.requires.store c.writer-writer.ensures c.gather-count.ensures.gathers c.length-at.ensures.length some until one known (placed_as (g.L.SharedLog.seen c.args.log.now) (g.L.SharedLog.seen c.place.new.log) c.length-at.result c.gather-count.new.group.items _ Full c.in-Ok-Full.field-0-is (c.in-Ok-Full.ensures.ok known))

pub returns-in-Ok-Full-clause-ok : goal.returns-in-Ok-Full-clause-ok
returns-in-Ok-Full-clause-ok g c =
    let many : length (take c.gather-count.result c.args.calls.now) ≡ c.gather-count.result = length-take-le c.gather-count.result c.args.calls.now c.gather-count.ensures.within in
    let counted : 0 < c.gather-count.result = search rules in
    let some : 0 < length (take c.gather-count.result c.args.calls.now) = omega (arith, many, counted) in
    let until : c.args.turn.now + c.gather-count.result ≡ c.args.turn.now + length (take c.gather-count.result c.args.calls.now) = omega (arith, many) in
    let one : c.gather-count.new.group.items ≢ [] = search rules in
    full_stay g.L.SharedLog.is_known c.args.is_stale c.args.hall.now c.gather-count.new.hall c.args.turn.now (c.args.turn.now + c.gather-count.result) c.length-at.result c.writer-writer.result (g.L.SharedLog.seen c.args.log.now) (g.L.SharedLog.seen c.place.new.log) c.args.calls.now (take c.gather-count.result c.args.calls.now) c.args.answers.now.items c.gather-count.new.answers.items c.gather-count.new.group.items c.requires.store c.writer-writer.ensures c.gather-count.ensures.gathers c.length-at.ensures.length some until one (λ known. (placed_as (g.L.SharedLog.seen c.args.log.now) (g.L.SharedLog.seen c.place.new.log) c.length-at.result c.gather-count.new.group.items _ Full c.in-Ok-Full.field-0-is (c.in-Ok-Full.ensures.ok known)))

pub returns-in-Err-clause-store : goal.returns-in-Err-clause-store
returns-in-Err-clause-store g c known =
    let many : length (take c.gather-count.result c.args.calls.now) ≡ c.gather-count.result = length-take-le c.gather-count.result c.args.calls.now c.gather-count.ensures.within in
    let counted : 0 < c.gather-count.result = search rules in
    let some : 0 < length (take c.gather-count.result c.args.calls.now) = omega (arith, many, counted) in
    let until : c.args.turn.now + c.gather-count.result ≡ c.args.turn.now + length (take c.gather-count.result c.args.calls.now) = omega (arith, many) in
    let one : c.gather-count.new.group.items ≢ [] = search rules in
    unknown_store g.L.SharedLog.is_known c.args.is_stale c.args.hall.now c.gather-count.new.hall c.args.turn.now (c.args.turn.now + c.gather-count.result) c.length-at.result c.writer-writer.result (g.L.SharedLog.seen c.args.log.now) (g.L.SharedLog.seen c.place.new.log) c.args.calls.now (take c.gather-count.result c.args.calls.now) c.args.answers.now.items c.gather-count.new.answers.items c.gather-count.new.group.items c.requires.store c.writer-writer.ensures c.gather-count.ensures.gathers c.length-at.ensures.length some until one known (c.in-Err.ensures.err known)

pub returns-in-Err-clause-err : goal.returns-in-Err-clause-err
returns-in-Err-clause-err g c =
    let many : length (take c.gather-count.result c.args.calls.now) ≡ c.gather-count.result = length-take-le c.gather-count.result c.args.calls.now c.gather-count.ensures.within in
    let counted : 0 < c.gather-count.result = search rules in
    let some : 0 < length (take c.gather-count.result c.args.calls.now) = omega (arith, many, counted) in
    let until : c.args.turn.now + c.gather-count.result ≡ c.args.turn.now + length (take c.gather-count.result c.args.calls.now) = omega (arith, many) in
    let one : c.gather-count.new.group.items ≢ [] = search rules in
    unknown_not g.L.SharedLog.is_known c.args.is_stale c.args.hall.now c.gather-count.new.hall c.args.turn.now (c.args.turn.now + c.gather-count.result) c.length-at.result c.writer-writer.result (g.L.SharedLog.seen c.args.log.now) (g.L.SharedLog.seen c.place.new.log) c.args.calls.now (take c.gather-count.result c.args.calls.now) c.args.answers.now.items c.gather-count.new.answers.items c.gather-count.new.group.items c.requires.store c.writer-writer.ensures c.gather-count.ensures.gathers c.length-at.ensures.length some until one (drop c.gather-count.result c.args.calls.now) (sym (take-append-drop c.gather-count.result c.args.calls.now)) c.in-Err.ensures.err
