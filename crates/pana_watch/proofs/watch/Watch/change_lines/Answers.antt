use Rattle.std.proofs.Common.{◌≡◌, ℕ, ◌+◌, suc, List, [], ◌∷◌, drop, drop-cons, string_bytes, sym, ap, subst, ◌∙◌, arith}
use Rattle.std.proofs.Math.ListN.{drop_of_length-le}
use Rattle.pana_journal.specs.declared.entry.Entry.{Entry}
use Rattle.pana_watch.proofs.Led.{FollowedSoFar, followed, followed_on}
use Rattle.pana_watch.proofs.watch.Watch.change_lines.Goals as goal

pub loop-entry-preserved : goal.loop-entry-preserved
loop-entry-preserved g c =
    let entries = c.args.entries.now in
    let i = c.loop-entry.entry-index in
    let entry = c.entry-item.result in
    let next : suc i ≡ i + 1 = omega arith in
    let there : drop i entries ≡ entry ∷ drop (i + 1) entries =
    drop-cons entries i entry c.loop-entry-test.true ∙ ap (λ (e : Entry). e ∷ drop (suc i) entries) (sym c.entry-item.is) ∙ ap (λ (k : ℕ). entry ∷ drop k entries) next in
    let path = c.in_ok-family.ensures in
    followed_on g.S.Session.step c.args.by.now c.args.self.now c.args.session.now entries (string_bytes c.loop-entry.text) c.loop-entry.self c.loop-entry.session entry (drop (i + 1) entries)
    (subst (λ (rest : List Entry). FollowedSoFar g.S.Session.step c.args.by.now c.args.self.now c.args.session.now entries (string_bytes c.loop-entry.text) c.loop-entry.self c.loop-entry.session rest) there c.loop-entry.invariant)
    path.0 c.in_ok-family.family c.family_of.new.session path.1 c.in_ok-change.change c.look.new.self c.look.new.session c.in_ok-change.ensures.ok
    (string_bytes c.push_change.new.text) c.in_ok-push_change.ensures

pub returns : goal.returns
returns g c =
    let entries = c.args.entries.now in
    let none : drop c.loop-entry.entry-index entries ≡ [] = drop_of_length-le entries c.loop-entry-test.false in
    followed g.S.Session.step c.args.by.now c.args.self.now c.args.session.now entries (string_bytes c.loop-entry.text) c.loop-entry.self c.loop-entry.session
    (subst (λ (rest : List Entry). FollowedSoFar g.S.Session.step c.args.by.now c.args.self.now c.args.session.now entries (string_bytes c.loop-entry.text) c.loop-entry.self c.loop-entry.session rest) none c.loop-entry.invariant)
