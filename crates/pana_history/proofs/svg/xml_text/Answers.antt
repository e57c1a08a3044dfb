use Rattle.std.proofs.Common.{ℕ, List, [], ◌++◌, chars, flat_map, sym, ap, ◌∙◌, map-id}
use Rattle.std.proofs.lemmas.Iterator.{YieldsList-from_chars}
use Rattle.std.proofs.lemmas.Iterator.Consumers.{YieldsList-end}
use Rattle.std.proofs.lemmas.List.{flat_map_more}
use Rattle.pana_history.specs.Svg.{xml_char}
use Rattle.pana_history.proofs.svg.xml_text.Goals as goal

pub loop-c-preserved : goal.loop-c-preserved
loop-c-preserved c =
    c.in_ok-push_char.ensures ∙ ap (λ (text : List ℕ). text ++ xml_char c.in-Some.c) c.loop-c.invariant ∙ flat_map_more xml_char [] c.loop-c.yielded c.in-Some.c

pub returns : goal.returns
returns c =
    let end = YieldsList-end (YieldsList-from_chars c.as_str.result.now c.as_str.utf8 cc) c.loop-c.yielded _ c.loop-c.yielded_by _ _ c.in-None.is c.next.ensures.steps in
    c.loop-c.invariant ∙ ap (flat_map xml_char) (sym (map-id c.loop-c.yielded) ∙ end.0 ∙ ap chars (c.as_str.ensures.value ∙ c.in_ok-safe.ensures))
