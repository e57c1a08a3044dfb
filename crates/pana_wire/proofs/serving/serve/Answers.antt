-- What was served in groups was served call by call, where to settle does nothing.
use Rattle.std.proofs.lemmas.Result.{IfOk-weaker, IfErr-weaker}
use Rattle.pana_wire.proofs.Plain.{serves_plain, stops_or_never, timely_plain}
use Rattle.pana_wire.proofs.serving.serve.Goals as goal

pub returns-clause-ok : goal.returns-clause-ok
returns-clause-ok g c =
    IfOk-weaker c.serve_groups.result _ _
    (λ served p. serves_plain g.S.Session.step g.S.Session.keeps_together g.S.Session.fails g.S.Session.settles g.S.Session.breaks_off g.S.Session.moment c.requires.settled g.W.Write.contents c.args.writer.now c.serve_groups.new.writer
    g.R.Read.remaining c.args.reader.now c.serve_groups.new.reader c.args.session.now c.serve_groups.new.session served p)
    c.serve_groups.ensures.ok

pub returns-clause-fault : goal.returns-clause-fault
returns-clause-fault g c =
    IfErr-weaker c.serve_groups.result _ _
    (λ fault p. stops_or_never g.S.Session.step g.S.Session.keeps_together g.S.Session.fails g.S.Session.settles g.S.Session.breaks_off g.S.Session.moment c.requires.settled g.W.Write.contents c.args.writer.now c.serve_groups.new.writer
    g.R.Read.remaining c.args.reads c.args.reader.now c.serve_groups.new.reader c.args.session.now c.serve_groups.new.session fault p)
    c.serve_groups.ensures.fault

pub returns-clause-timely : goal.returns-clause-timely
returns-clause-timely g c =
    timely_plain g.S.Session.step g.S.Session.keeps_together g.S.Session.fails g.S.Session.settles g.S.Session.breaks_off g.S.Session.moment c.requires.settled g.W.Write.contents c.args.writer.now c.serve_groups.new.writer
    g.R.Read.remaining c.args.reads c.args.reader.now c.serve_groups.new.reader c.args.session.now c.serve_groups.new.session c.serve_groups.result c.serve_groups.ensures.ok c.serve_groups.ensures.fault
