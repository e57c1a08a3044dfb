use Rattle.pana_hall.proofs.Words.{arith, nat_tests, Some, option_copied, option_map, sym, ap, ◌∙◌, RoomyFamily, last_place}
use Rattle.pana_hall.proofs.Histories.{history_first, history_none}
use Rattle.pana_hall.proofs.kept_family.KeptFamily.last_place.Goals as goal

pub returns-in-Some-place : goal.returns-in-Some-place
returns-in-Some-place c =
    ap (λ p. Some p) c.deref.ensures ∙ ap (option_map (λ p. p.value)) (sym c.in-Some-place.is)
    ∙ sym (ap (λ (k : RoomyFamily). last_place k.kept.undo) (sym c.self.view_is)
    ∙ ap last_place (history_first c.self.inside.family.rows c.self.inside.undo.items c.in-Some.undo.now (sym c.front.ensures ∙ ap option_copied c.in-Some.is)))

pub returns-in-None-place : goal.returns-in-None-place
returns-in-None-place c =
    ap (option_map (λ p. p.value)) (sym c.in-None-place.is)
    ∙ sym (ap (λ (k : RoomyFamily). last_place k.kept.undo) (sym c.self.view_is)
    ∙ ap last_place (history_first c.self.inside.family.rows c.self.inside.undo.items c.in-Some.undo.now (sym c.front.ensures ∙ ap option_copied c.in-Some.is)))

pub returns-in-None : goal.returns-in-None
returns-in-None c = grind (arith, nat_tests, history_none, c.self.view_is, c.front.ensures, c.in-None.is)
