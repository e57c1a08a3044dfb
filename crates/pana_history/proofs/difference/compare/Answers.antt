use Rattle.std.proofs.Common.{rules, ◌≡◌, ℕ, List, [], ◌∷◌, ap, ◌∙◌, subst}
use Rattle.pana_journal.specs.declared.entry.Entry.{Entry}
use Rattle.pana_history.specs.inner.Sources.{reaches}
use Rattle.pana_history.proofs.Alone.{IsFoundSoFar, fit_before, found_all, found_first, found_next}
use Rattle.pana_history.proofs.difference.compare.Goals as goal

pub loop-entry-init : goal.loop-entry-init
loop-entry-init c =
    let entries = c.args.entries.items in
    let sources = c.in_ok-sources.sources in
    let made = c.in_ok-sources.ensures in
    let none = c.none-found in
    record {
      fit = c.requires;
      ours = found_first entries (c.args.a ∷ []) (c.args.b ∷ []) sources.first.items sources.second.items none.result.first.items none.ensures.first made.first made.second;
      theirs = found_first entries (c.args.b ∷ []) (c.args.a ∷ []) sources.second.items sources.first.items none.result.second.items none.ensures.second made.second made.first;
    }

pub loop-entry-preserved : goal.loop-entry-preserved
loop-entry-preserved c =
    let entries = c.args.entries.items in
    let loop = c.loop-entry in
    let entry = c.in-Some.entry in
    let left = c.pop.new.self.items in
    let last = c.in-Some.ensures.items in
    let far = loop.invariant in
    let now = loop.sources in
    let then = c.in-Ok.before in
    let before = c.in-Ok.ensures in
    let first = c.reaches-is_in_first.ensures ∙ ap (λ (s : List ℕ). reaches s entry.report) c.as_slice.ensures.value in
    let second = c.reaches-is_in_second.ensures ∙ ap (λ (s : List ℕ). reaches s entry.report) c.as_slice-in-Some.ensures.value in
    record {
      fit = fit_before loop.entries.items left entry last far.fit;
      ours =
          found_next entries loop.entries.items left entry (c.args.a ∷ []) (c.args.b ∷ []) now.first.items now.second.items loop.found.first.items last far.ours c.take.new.self.first.items
          c.reaches-is_in_first.result c.reaches-is_in_second.result c.in_ok-take.ensures.first first second then.first.items then.second.items before.first before.second;
      theirs =
          found_next entries loop.entries.items left entry (c.args.b ∷ []) (c.args.a ∷ []) now.second.items now.first.items loop.found.second.items last far.theirs c.take.new.self.second.items
          c.reaches-is_in_second.result c.reaches-is_in_first.result c.in_ok-take.ensures.second second first then.second.items then.first.items before.second before.first;
    }

pub returns-clause-first : goal.returns-clause-first
returns-clause-first c =
    let loop = c.loop-entry in
    let none : loop.entries.items ≡ [] = search rules in
    c.reverse.ensures.items
    ∙ found_all c.args.entries.items c.args.a c.args.b loop.sources.first.items loop.sources.second.items loop.found.first.items c.requires
    (subst (λ (left : List Entry). IsFoundSoFar c.args.entries.items (c.args.a ∷ []) (c.args.b ∷ []) loop.found.first.items left loop.sources.first.items loop.sources.second.items) none loop.invariant.ours)

pub returns-clause-second : goal.returns-clause-second
returns-clause-second c =
    let loop = c.loop-entry in
    let none : loop.entries.items ≡ [] = search rules in
    c.reverse-2.ensures.items
    ∙ found_all c.args.entries.items c.args.b c.args.a loop.sources.second.items loop.sources.first.items loop.found.second.items c.requires
    (subst (λ (left : List Entry). IsFoundSoFar c.args.entries.items (c.args.b ∷ []) (c.args.a ∷ []) loop.found.second.items left loop.sources.second.items loop.sources.first.items) none loop.invariant.theirs)
