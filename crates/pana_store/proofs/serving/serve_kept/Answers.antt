use Rattle.std.proofs.Common.{◌++◌, ⊎_elim}
use Rattle.pana_wire.specs.declared.serving.ServeFault.TheVariants.{NoAnswer}
use Rattle.pana_store.proofs.Acknowledged.{wrote_of, keeps_first, acknowledges, failed}
use Rattle.pana_store.proofs.Runs.{at_err}
use Rattle.pana_store.proofs.serving.serve_kept.Goals as goal

pub returns-clause-keeps_first : goal.returns-clause-keeps_first
returns-clause-keeps_first g c known works =
    let wrote = wrote_of g.D.Device.is_known g.D.Device.seen g.D.Device.may_leave g.D.Device.is_usable g.D.Device.moment g.D.Device.left_since g.D.Device.has_failed g.R.Read.remaining g.W.Write.contents c.args.reads
    c.args.reader.now c.serve_groups.new.reader c.args.writer.now c.serve_groups.new.writer c.args.session.now c.serve_groups.new.session c.serve_groups.result c.serve_groups.ensures.ok c.serve_groups.ensures.fault in
    keeps_first g.D.Device.is_known g.D.Device.seen g.D.Device.may_leave g.D.Device.is_usable g.D.Device.moment g.D.Device.left_since g.D.Device.has_failed known g.met.D.Device.only_now
    g.W.Write.contents c.args.writer.now c.serve_groups.new.writer c.args.session.now c.serve_groups.new.session c.is_open.ensures.waits.0 works (c.is_open.ensures.kept known) c.is_open.ensures.waits.1 wrote

pub returns-clause-no_answer : goal.returns-clause-no_answer
returns-clause-no_answer g c is known works =
    ⊎_elim (λ never. absurd (let memory = never.memory in cc))
    (λ k. failed g.D.Device.is_known g.D.Device.seen g.D.Device.may_leave g.D.Device.is_usable g.D.Device.moment g.D.Device.left_since g.D.Device.has_failed known g.met.D.Device.only_now
    c.args.session.now c.serve_groups.new.session _ k.notes works (c.is_open.ensures.kept known) k.ends)
    (at_err c.serve_groups.result NoAnswer _ is c.serve_groups.ensures.fault)

pub returns-clause-noted : goal.returns-clause-noted
returns-clause-noted g c =
    let wrote = wrote_of g.D.Device.is_known g.D.Device.seen g.D.Device.may_leave g.D.Device.is_usable g.D.Device.moment g.D.Device.left_since g.D.Device.has_failed g.R.Read.remaining g.W.Write.contents c.args.reads
    c.args.reader.now c.serve_groups.new.reader c.args.writer.now c.serve_groups.new.writer c.args.session.now c.serve_groups.new.session c.serve_groups.result c.serve_groups.ensures.ok c.serve_groups.ensures.fault in
    (wrote.whole ++ wrote.part, wrote.notes)

pub returns-clause-acknowledges : goal.returns-clause-acknowledges
returns-clause-acknowledges g c known works =
    let wrote = wrote_of g.D.Device.is_known g.D.Device.seen g.D.Device.may_leave g.D.Device.is_usable g.D.Device.moment g.D.Device.left_since g.D.Device.has_failed g.R.Read.remaining g.W.Write.contents c.args.reads
    c.args.reader.now c.serve_groups.new.reader c.args.writer.now c.serve_groups.new.writer c.args.session.now c.serve_groups.new.session c.serve_groups.result c.serve_groups.ensures.ok c.serve_groups.ensures.fault in
    acknowledges g.D.Device.is_known g.D.Device.seen g.D.Device.may_leave g.D.Device.is_usable g.D.Device.moment g.D.Device.left_since g.D.Device.has_failed known g.met.D.Device.only_now
    g.W.Write.contents c.args.writer.now c.serve_groups.new.writer c.args.session.now c.serve_groups.new.session works (c.is_open.ensures.kept known) wrote
