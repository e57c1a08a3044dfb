use Rattle.std.proofs.Common.{sym, ◌∙◌}
use Rattle.pana_ask.proofs.Numbered.{spelled_otherwise, unread}
use Rattle.pana_ask.proofs.words.Words.entry.Goals as goal

pub returns-in_default-clause-err : goal.returns-in_default-clause-err
returns-in_default-clause-err c = (c.in_ok-name.ensures.ok, unread c.in_ok-name.name.now c.parse.result c.parse.ensures.value.0 c.in_default.field-0 c.in_default.is)

pub returns-then-ne-clause-err : goal.returns-then-ne-clause-err
returns-then-ne-clause-err c = (
  c.in_ok-name.ensures.ok,
  spelled_otherwise c.in_ok-name.name.now c.parse.result c.parse.ensures.value.0 c.in-Ok.entry c.as_str.result.now c.in-Ok.is
      (c.as_str.ensures.value ∙ c.in_ok-to_string.ensures.ok) (sym c.ne.ensures ∙ c.if-ne.true),
)
