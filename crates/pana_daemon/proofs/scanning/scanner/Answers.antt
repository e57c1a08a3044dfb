use Rattle.std.proofs.Common.{None, Option, Some, refl, subst}
use Rattle.pana_track.specs.declared.folder_end.FolderEnd.{FolderEnd}
use Rattle.pana_daemon.specs.Desk.{RequestSteps}
use Rattle.pana_daemon.specs.Scan.{KeepsLook}
use Rattle.pana_daemon.specs.Session.{BreaksOff, GetNone, MakesCall, MayRecover, Settles}
use Rattle.pana_daemon.proofs.Scanned.{no_more, none_left, one_cut, one_kept}
use Rattle.pana_daemon.proofs.scanning.scanner.Goals as goal

pub loop-preserved-in-Ok-Some : goal.loop-preserved-in-Ok-Some
loop-preserved-in-Ok-Some g c =
    let steps = RequestSteps g.S.Session.step g.S.Session.fails g.S.Session.settles g.S.Session.breaks_off in (
      tt,
      one_kept g.F.Folder.does (MakesCall steps g.S.Session.keeps_together) g.S.Session.keeps_together (GetNone steps g.S.Session.keeps_together) (Settles steps) (BreaksOff steps) MayRecover c.args.device.now c.args.folder.now c.args.session.now c.loop.folder c.next-in-loop.new.self c.loop.session c.loop.baseline c.in-Some-next.look c.loop.invariant.1
          c.in-Some-next.ensures (Some c.in-Ok-Some.end) c.note_end.new.self c.keep.new.session c.keep.new.baseline c.note_end.ensures
          (subst (λ (e : Option FolderEnd). KeepsLook (MakesCall steps g.S.Session.keeps_together) c.args.device.now g.S.Session.keeps_together (Settles steps) c.in-Some-next.look e c.loop.session c.keep.new.session c.loop.baseline c.keep.new.baseline) c.in-Ok-Some.field-0-is c.in-Ok-Some.ensures.ok),
    )

pub loop-preserved-in-Ok-None : goal.loop-preserved-in-Ok-None
loop-preserved-in-Ok-None g c =
    let steps = RequestSteps g.S.Session.step g.S.Session.fails g.S.Session.settles g.S.Session.breaks_off in (
      tt,
      one_kept g.F.Folder.does (MakesCall steps g.S.Session.keeps_together) g.S.Session.keeps_together (GetNone steps g.S.Session.keeps_together) (Settles steps) (BreaksOff steps) MayRecover c.args.device.now c.args.folder.now c.args.session.now c.loop.folder c.next-in-loop.new.self c.loop.session c.loop.baseline c.in-Some-next.look c.loop.invariant.1
          c.in-Some-next.ensures None c.next-in-loop.new.self c.keep.new.session c.keep.new.baseline refl
          (subst (λ (e : Option FolderEnd). KeepsLook (MakesCall steps g.S.Session.keeps_together) c.args.device.now g.S.Session.keeps_together (Settles steps) c.in-Some-next.look e c.loop.session c.keep.new.session c.loop.baseline c.keep.new.baseline) c.in-Ok-None.field-0-is c.in-Ok-None.ensures.ok),
    )

pub loop-preserved : goal.loop-preserved
loop-preserved g c =
    let steps = RequestSteps g.S.Session.step g.S.Session.fails g.S.Session.settles g.S.Session.breaks_off in (
      tt,
      one_cut g.F.Folder.does (MakesCall steps g.S.Session.keeps_together) g.S.Session.keeps_together (GetNone steps g.S.Session.keeps_together) (Settles steps) (BreaksOff steps) MayRecover c.args.device.now c.args.folder.now c.args.session.now c.loop.folder c.next-in-loop.new.self c.loop.session c.loop.baseline c.in-Some-next.look c.loop.invariant.1
          c.in-Some-next.ensures c.keep.new.session c.keep.new.baseline c.in-Err.ensures.fails (c.may_recover.ensures c.if-not-may_recover.false),
    )

pub returns-then-not-may_recover : goal.returns-then-not-may_recover
returns-then-not-may_recover g c =
    let steps = RequestSteps g.S.Session.step g.S.Session.fails g.S.Session.settles g.S.Session.breaks_off in
    none_left g.F.Folder.does (MakesCall steps g.S.Session.keeps_together) g.S.Session.keeps_together (GetNone steps g.S.Session.keeps_together) (Settles steps) (BreaksOff steps) MayRecover c.args.device.now c.args.folder.now c.args.session.now c.loop.folder c.next-in-loop.new.self c.loop.session c.loop.baseline c.in-Some-next.look c.loop.invariant.1
    c.in-Some-next.ensures c.keep.new.session c.keep.new.baseline c.in-Err.ensures.fails

pub returns-in_default : goal.returns-in_default
returns-in_default g c =
    let steps = RequestSteps g.S.Session.step g.S.Session.fails g.S.Session.settles g.S.Session.breaks_off in
    no_more g.F.Folder.does (MakesCall steps g.S.Session.keeps_together) g.S.Session.keeps_together (GetNone steps g.S.Session.keeps_together) (Settles steps) (BreaksOff steps) MayRecover c.args.device.now c.args.folder.now c.args.session.now c.loop.folder c.next-in-loop.new.self c.loop.session c.loop.baseline c.loop.invariant.1 c.in_default.ensures
