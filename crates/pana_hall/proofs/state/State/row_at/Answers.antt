use Rattle.std.proofs.lemmas.Result.{IfOk-weaker}
use Rattle.pana_hall.proofs.Words.{◌≡◌, false, true, cond, None, option_map, sym, ap, ◌∙◌, Spot, living}
use Rattle.pana_hall.specs.Status.{is_asked}
use Rattle.pana_hall.specs.inner.Relatives.{row_in}
use Rattle.pana_hall.proofs.{Answered.found_spot, Related.row_asked}
use Rattle.pana_hall.proofs.state.State.row_at.Goals as goal

pub returns-then-not-is_asked : goal.returns-then-not-is_asked
returns-then-not-is_asked c =
    let journal = c.args.self.now.journal.entries in
    let copy = found_spot journal c.args.self.now.copies c.args.copy _ c.requires.kept.spots (sym c.get.ensures ∙ ap (option_map _) c.in-Some.is) in
    let asked : is_asked c.args.device.now copy.0.place ≡ false =
    ap (λ (s : Spot). is_asked c.args.device.now s.place) copy.2 ∙ sym c.is_asked.ensures ∙ c.if-not-is_asked.true in
    sym (row_asked journal c.args.device.now c.args.copy copy.0 copy.1 ∙ ap (λ b. cond b (row_in (living journal) None c.args.copy) None) asked)

pub returns : goal.returns
returns c =
    let journal = c.args.self.now.journal.entries in
    let copy = found_spot journal c.args.self.now.copies c.args.copy _ c.requires.kept.spots (sym c.get.ensures ∙ ap (option_map _) c.in-Some.is) in
    let asked : is_asked c.args.device.now copy.0.place ≡ true =
    ap (λ (s : Spot). is_asked c.args.device.now s.place) copy.2 ∙ sym c.is_asked.ensures ∙ c.if-not-is_asked.false in
    IfOk-weaker c.row_of.result _ _ (λ made h. h ∙ sym (row_asked journal c.args.device.now c.args.copy copy.0 copy.1 ∙ ap (λ b. cond b (row_in (living journal) None c.args.copy) None) asked)) c.row_of.ensures
