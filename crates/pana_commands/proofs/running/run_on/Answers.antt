-- What is served begins with the new hall's journal, which is empty.
use Rattle.std.proofs.Common.{false, inl, inr, subst}
use Rattle.std.proofs.lemmas.Result.{IfOk-weaker, IfErr-weaker}
use Rattle.pana_hall.specs.Step.{Replies}
use Rattle.pana_wire.specs.Session.{Serves, Stops, NeverBegins}
use Rattle.pana_commands.specs.Never.{IsNever}
use Rattle.pana_commands.proofs.AlwaysAnswered.{always_answered}
use Rattle.pana_commands.proofs.running.run_on.Goals as goal

pub returns-in-Ok-clause-ok : goal.returns-in-Ok-clause-ok
returns-in-Ok-clause-ok g c = IfOk-weaker c.serve-served.result _ _
    (λ served said. (c.serve-served.new.session, subst (λ old. Serves g.R.Read.remaining g.W.Write.contents Replies c.args.reader.now c.serve-served.new.reader c.args.writer.now c.serve-served.new.writer old c.serve-served.new.session served) c.in-Ok.ensures said))
    c.serve-served.ensures.ok

pub returns-in-Ok-clause-fault : goal.returns-in-Ok-clause-fault
returns-in-Ok-clause-fault g c = IfErr-weaker c.serve-served.result _ _
    (λ fault said. (
      c.serve-served.new.session,
      elim said [
        | inl nothing ↦ inl (subst (λ old. NeverBegins c.args.reader.now c.serve-served.new.reader c.args.writer.now c.serve-served.new.writer old c.serve-served.new.session fault) c.in-Ok.ensures nothing)
        | inr stops ↦ inr (subst (λ old. Stops g.R.Read.remaining g.W.Write.contents Replies false IsNever c.args.reads c.args.reader.now c.serve-served.new.reader c.args.writer.now c.serve-served.new.writer old c.serve-served.new.session fault) c.in-Ok.ensures stops)
      ],
    ))
    c.serve-served.ensures.fault

pub returns-in-Ok-clause-answered : goal.returns-in-Ok-clause-answered
returns-in-Ok-clause-answered g c = IfErr-weaker c.serve-served.result _ _
    (λ fault said. elim said [ inl nothing ↦ (λ none. absurd (cc (none, nothing.memory))) | inr stops ↦ always_answered Replies fault _ _ stops.input stops.output _ stops.ends ])
    c.serve-served.ensures.fault
