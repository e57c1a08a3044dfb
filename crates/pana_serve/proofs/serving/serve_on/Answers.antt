use Rattle.std.proofs.Common.{ap, ◌∙◌}
use denote.Exit.{no}
use denote.Param.Send.{arg_send, param_send}
use Rattle.pana_hall.proofs.Sending.{hall_send}
use Rattle.pana_daemon.specs.Desk.{RequestSteps}
use Rattle.pana_roots.specs.Root.{folders_of, texts}
use Rattle.pana_serve.proofs.Commanded.{hall_comes, store_comes}
use Rattle.pana_serve.proofs.Named.{named_so}
use Rattle.pana_serve.proofs.serving.serve_on.Goals as goal

pub serve-requires-send-S : goal.serve-requires-send-S
serve-requires-send-S g c κs within = param_send 0 _ (arg_send _ no _ hall_send)

pub returns-in_default-journal : goal.returns-in_default-journal
returns-in_default-journal g c =
    let named = ap (folders_of c.args.disks.now) c.as_slice-roots.ensures.value ∙ named_so c.args.disks.now c.in-Ok.roots.items (texts c.args.wishes.roots.now) c.in-Ok.ensures.devices c.in-Ok.ensures.folders in
    hall_comes (RequestSteps g.Y.Store.Session.step g.Y.Store.Session.fails g.Y.Store.Session.settles g.Y.Store.Session.breaks_off) g.Y.Store.Session.keeps_together g.Y.System.binds g.Y.System.opens _ _ _ _ _ c.args.wishes c.args.system.now c.bind.new.self c.in-Ok.ensures.ok c.in-Ok-bind.ensures _ named c.outcome_of.result c.in_default-journal.is c.in-Ok-new.hall c.in-Ok-new.ensures c.serve.result c.serve.ensures
    c.outcome_of.ensures.ok c.outcome_of.ensures.err

pub returns-in-Ok-open : goal.returns-in-Ok-open
returns-in-Ok-open g c =
    let named = ap (folders_of c.args.disks.now) c.as_slice-roots.ensures.value ∙ named_so c.args.disks.now c.in-Ok.roots.items (texts c.args.wishes.roots.now) c.in-Ok.ensures.devices c.in-Ok.ensures.folders in
    store_comes (RequestSteps g.Y.Store.Session.step g.Y.Store.Session.fails g.Y.Store.Session.settles g.Y.Store.Session.breaks_off) g.Y.Store.Session.keeps_together g.Y.System.binds g.Y.System.opens _ _ _ _ _ c.args.wishes c.args.system.now c.bind.new.self c.in-Ok.ensures.ok c.in-Ok-bind.ensures _ named c.outcome_of-in-Ok-open.result c.in-Some.name c.in-Some.is c.in-Ok-open.store c.open.new.self c.in-Ok-open.ensures
    c.serve-in-Ok-open.result c.serve-in-Ok-open.ensures c.outcome_of-in-Ok-open.ensures.ok c.outcome_of-in-Ok-open.ensures.err
