use Rattle.std.proofs.Common.{List, slice_index_or, subst}
use mir.Syntax.{named}
use denote.Exit.{no}
use denote.Param.{param}
use denote.Param.Send.{arg_send, arg_sync, param_send, param_sync}
use Rattle.pana_daemon.specs.Desk.{RequestSteps}
use Rattle.pana_daemon.specs.declared.post.Caller.{Caller}
use Rattle.pana_daemon.proofs.Posts.{Has, all_done}
use Rattle.pana_daemon.proofs.Sending.{caller_send}
use Rattle.pana_daemon.proofs.attending.run_all.Goals as goal

pub for_each_mut-requires-send-T : goal.for_each_mut-requires-send-T
for_each_mut-requires-send-T g c κs within =
    param_send 1 _ (arg_send _ no _ (caller_send (param 0 g.row.S) g.S.Session c.type_bounds.send-S (record { mir = named 6; lft = _ }) (record { mir = named 7; lft = _ }) (param 1 g.row.T) (param 2 g.row.G) (param 3 g.row.D) (param 4 g.row.F) c.type_bounds.sync-T c.type_bounds.sync-G c.type_bounds.send-D c.type_bounds.send-F))

pub for_each_mut-requires-clause-accepts : goal.for_each_mut-requires-clause-accepts
for_each_mut-requires-clause-accepts g c κs within = λ i p inside is. (
  param_send 0 _ (arg_send _ no _ c.type_bounds.send-S),
  param_send 3 _ (arg_send _ no _ c.type_bounds.send-D),
  param_send 4 _ (arg_send _ no _ c.type_bounds.send-F),
  param_send 5 _ (arg_send _ no _ c.type_bounds.send-D-Reader),
  param_send 6 _ (arg_send _ no _ c.type_bounds.send-D-Writer),
  param_sync 1 _ (arg_sync _ no _ c.type_bounds.sync-T),
  param_sync 2 _ (arg_sync _ no _ c.type_bounds.sync-G),
)

pub returns : goal.returns
returns g c =
    let left : List (Caller g.row.S.Denot g.row.T.Denot g.row.G.Denot g.row.D.Denot g.row.F.Denot) = c.for_each_mut.new.s in
    all_done (RequestSteps g.S.Session.step g.S.Session.fails g.S.Session.settles g.S.Session.breaks_off) g.S.Session.keeps_together g.D.Door.gives g.D.Reader.Read.remaining g.D.Writer.Write.contents g.F.Folder.does c.args.callers.now left c.for_each_mut.auto.s
    (λ i d within.
    let changed = (c.for_each_mut.ensures i d within).1 in
    subst (λ (s : Caller g.row.S.Denot g.row.T.Denot g.row.G.Denot g.row.D.Denot g.row.F.Denot). Has (RequestSteps g.S.Session.step g.S.Session.fails g.S.Session.settles g.S.Session.breaks_off) g.S.Session.keeps_together g.D.Door.gives g.D.Reader.Read.remaining g.D.Writer.Write.contents g.F.Folder.does s (slice_index_or left i d)) changed.argument_is
    (subst (λ (s : Caller g.row.S.Denot g.row.T.Denot g.row.G.Denot g.row.D.Denot g.row.F.Denot). Has (RequestSteps g.S.Session.step g.S.Session.fails g.S.Session.settles g.S.Session.breaks_off) g.S.Session.keeps_together g.D.Door.gives g.D.Reader.Read.remaining g.D.Writer.Write.contents g.F.Folder.does changed.argument.now s) changed.left changed.call))
