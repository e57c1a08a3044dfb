use Rattle.pana_hall.proofs.Words.{sym, ◌∙◌}
use Rattle.std.proofs.lemmas.Result.{IfOk-weaker, IfErr-weaker}
use Rattle.pana_hall.specs.declared.decision.Decision.TheVariants.{Both, One}
use Rattle.pana_hall.proofs.Sighted.{are_two, known_answers, plan_prepares, refused_answers, short_answers}
use Rattle.pana_hall.proofs.state.State.plan_sighting.Goals as goal

pub plan_two-requires-clause-two : goal.plan_two-requires-clause-two
plan_two-requires-clause-two c = are_two c.args.self.now.journal.entries c.args.sighting _ _ c.requires.accepted (sym c.in-Ok-Both.field-0-is ∙ c.in-Ok-Both.ensures)

pub returns-in-Ok-Known-clause-reply : goal.returns-in-Ok-Known-clause-reply
returns-in-Ok-Known-clause-reply c = known_answers c.args.self.now.journal.entries c.args.by.now c.args.sighting c.in-Ok-Known.copy (sym c.in-Ok-Known.field-0-is ∙ c.in-Ok-Known.ensures)

pub returns-in-Ok-One-clause-prepares : goal.returns-in-Ok-One-clause-prepares
returns-in-Ok-One-clause-prepares c =
    IfOk-weaker c.plan_one.result _ _
    (λ plan is. plan_prepares c.args.self.now.journal.entries c.args.by.now c.args.sighting (One c.in-Ok-One.report) plan (sym c.in-Ok-One.field-0-is ∙ c.in-Ok-One.ensures) (λ copy e. absurd (cc)) is) c.plan_one.ensures.plan

pub returns-in-Ok-One-clause-reply : goal.returns-in-Ok-One-clause-reply
returns-in-Ok-One-clause-reply c =
    IfErr-weaker c.plan_one.result _ _
    (λ reply is. refused_answers c.args.self.now.journal.entries c.args.by.now c.args.sighting (One c.in-Ok-One.report) reply (sym c.in-Ok-One.field-0-is ∙ c.in-Ok-One.ensures) is) c.plan_one.ensures.refused

pub returns-in-Ok-Both-clause-prepares : goal.returns-in-Ok-Both-clause-prepares
returns-in-Ok-Both-clause-prepares c =
    IfOk-weaker c.plan_two.result _ _
    (λ plan is. plan_prepares c.args.self.now.journal.entries c.args.by.now c.args.sighting (Both c.in-Ok-Both.first c.in-Ok-Both.second) plan (sym c.in-Ok-Both.field-0-is ∙ c.in-Ok-Both.ensures) (λ copy e. absurd (cc)) is) c.plan_two.ensures.plan

pub returns-in-Ok-Both-clause-reply : goal.returns-in-Ok-Both-clause-reply
returns-in-Ok-Both-clause-reply c =
    IfErr-weaker c.plan_two.result _ _
    (λ reply is. refused_answers c.args.self.now.journal.entries c.args.by.now c.args.sighting (Both c.in-Ok-Both.first c.in-Ok-Both.second) reply (sym c.in-Ok-Both.field-0-is ∙ c.in-Ok-Both.ensures) is) c.plan_two.ensures.refused

pub returns-in-Err-clause-reply : goal.returns-in-Err-clause-reply
returns-in-Err-clause-reply c = short_answers c.args.self.now.journal.entries c.args.by.now c.args.sighting
