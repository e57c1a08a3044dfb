use Rattle.std.proofs.Common.{ap, sym, ◌∙◌}
use Rattle.pana_ticks.specs.Hands.{ShareView}
use Rattle.pana_daemon.proofs.Counted.{input_counted, refused_counted, unread_counted}
use Rattle.pana_daemon.proofs.daemon.count_input.Goals as goal

pub returns-then-not-has_roots : goal.returns-then-not-has_roots
returns-then-not-has_roots g c = record {
  id = ap (λ (s : ShareView). s.id) c.requires;
  of = tt;
  counts = unread_counted _ c.args.has_roots c.args.counter.count c.if-not-has_roots.true (ap (λ (s : ShareView). s.count) c.requires);
}

pub returns-then-not-begins : goal.returns-then-not-begins
returns-then-not-begins g c = record {
  id = ap (λ (s : ShareView). s.id) c.requires;
  of = c.ask-verdict.ensures;
  counts = refused_counted _ c.args.has_roots c.ask-verdict.result c.args.counter.count c.if-not-has_roots.false (sym c.begins.ensures ∙ c.if-not-begins.true) (ap (λ (s : ShareView). s.count) c.requires);
}

pub returns : goal.returns
returns g c = record {
  id = c.count_newlines.ensures.id;
  of = c.ask-verdict.ensures;
  counts = input_counted _ c.new-input.result c.count_newlines.new.input c.args.has_roots c.ask-verdict.result c.count_newlines.new.counter.count c.if-not-has_roots.false (sym c.begins.ensures ∙ c.if-not-begins.false)
      c.new-input.ensures.unused c.count_newlines.ensures.counts;
}
