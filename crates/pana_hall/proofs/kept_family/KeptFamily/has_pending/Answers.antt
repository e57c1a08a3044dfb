use Rattle.pana_hall.proofs.Words.{◌==◌, list_any, ap, ◌∙◌, RoomyFamily}
use Rattle.pana_hall.proofs.Histories.{has_is}
use Rattle.pana_hall.proofs.kept_family.KeptFamily.has_pending.Goals as goal

pub returns : goal.returns
returns c = c.has_entry.ensures ∙ has_is c.args.entry c.self.inside.family.rows c.self.inside.undo.items ∙ ap (λ (k : RoomyFamily). list_any (λ u. u.entry == c.args.entry) k.kept.undo) c.self.view_is
