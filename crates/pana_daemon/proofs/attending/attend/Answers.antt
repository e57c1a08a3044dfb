use Rattle.std.proofs.Common.{◌≡◌, ◌≤◌, ℕ, List, length, map, vec_capacity, arith, subst, sym, ap, ◌∙◌}
use Rattle.std.proofs.lemmas.List.{length-map}
use Rattle.std.specs.List.{list_any}
use Rattle.pana_turn.specs.Passes.{new_passes}
use Rattle.pana_daemon.specs.Desk.{RequestSteps}
use Rattle.pana_daemon.specs.Session.{at_rest, lacks_answer}
use Rattle.pana_daemon.specs.declared.post.Caller.{Caller}
use Rattle.pana_daemon.proofs.Attended.{all_of, ends_so, none_missing, sessions, tasks}
use Rattle.pana_daemon.proofs.Passes.{as_left, new_count, new_open}
use Rattle.pana_daemon.proofs.attending.attend.Goals as goal

pub open_callers-callers-requires-clause-open : goal.open_callers-callers-requires-clause-open
open_callers-callers-requires-clause-open g c = new_open c.in_ok-opened.opened.desk.id _ c.in_ok-opened.opened.passes.items c.in_ok-opened.ensures.desk.2

pub open_callers-callers-requires-clause-enough : goal.open_callers-callers-requires-clause-enough
open_callers-callers-requires-clause-enough g c = omega (arith, new_count c.in_ok-opened.opened.desk.id _ c.in_ok-opened.opened.passes.items c.in_ok-opened.ensures.desk.2, c.len.ensures, c.args.posts.ok.0)

pub open_callers-callers-requires-clause-few : goal.open_callers-callers-requires-clause-few
open_callers-callers-requires-clause-few g c = c.requires.few

pub open_callers-callers-requires-clause-empty : goal.open_callers-callers-requires-clause-empty
open_callers-callers-requires-clause-empty g c = c.in_ok-opened.ensures.callers.0

pub open_callers-callers-requires-clause-room : goal.open_callers-callers-requires-clause-room
open_callers-callers-requires-clause-room g c = omega (arith, c.len.ensures, c.args.posts.ok.0, c.in_ok-opened.ensures.callers.1)

pub take_apart-requires-clause-no_passes : goal.take_apart-requires-clause-no_passes
take_apart-requires-clause-no_passes g c = c.in_ok-opened.ensures.back.0

pub take_apart-requires-clause-no_posts : goal.take_apart-requires-clause-no_posts
take_apart-requires-clause-no_posts g c = c.in_ok-opened.ensures.left.0

pub take_apart-requires-clause-room : goal.take_apart-requires-clause-room
take_apart-requires-clause-room g c =
    let same = as_left c.open_callers-callers.result.len c.run_all.new.callers c.open_callers-callers.result.items (c.run_all.auto.callers ∙ ap length c.as_mut_slice.ensures.value) (sym c.open_callers-callers.result.ok.0) in
    let long : length c.run_all.new.callers ≡ length c.args.posts.items =
    c.run_all.auto.callers ∙ ap length c.as_mut_slice.ensures.value ∙ sym (length-map c.open_callers-callers.result.items (λ (caller : Caller g.row.S.Denot g.row.T.Denot g.row.G.Denot g.row.D.Denot g.row.F.Denot). caller.post)) ∙ ap length c.open_callers-callers.ensures.posts in
    subst (λ (left : List (Caller g.row.S.Denot g.row.T.Denot g.row.G.Denot g.row.D.Denot g.row.F.Denot)). length left ≤ vec_capacity c.in_ok-opened.opened.back) (sym same) (omega (arith, long, c.len.ensures, c.args.posts.ok.0, c.in_ok-opened.ensures.back.1))

pub take_apart-requires-clause-places : goal.take_apart-requires-clause-places
take_apart-requires-clause-places g c =
    let same = as_left c.open_callers-callers.result.len c.run_all.new.callers c.open_callers-callers.result.items (c.run_all.auto.callers ∙ ap length c.as_mut_slice.ensures.value) (sym c.open_callers-callers.result.ok.0) in
    let long : length c.run_all.new.callers ≡ length c.args.posts.items =
    c.run_all.auto.callers ∙ ap length c.as_mut_slice.ensures.value ∙ sym (length-map c.open_callers-callers.result.items (λ (caller : Caller g.row.S.Denot g.row.T.Denot g.row.G.Denot g.row.D.Denot g.row.F.Denot). caller.post)) ∙ ap length c.open_callers-callers.ensures.posts in
    subst (λ (left : List (Caller g.row.S.Denot g.row.T.Denot g.row.G.Denot g.row.D.Denot g.row.F.Denot)). length left ≤ vec_capacity c.in_ok-opened.opened.left) (sym same) (omega (arith, long, c.len.ensures, c.args.posts.ok.0, c.in_ok-opened.ensures.left.1))

pub close-requires : goal.close-requires
close-requires g c =
    let same = as_left c.open_callers-callers.result.len c.run_all.new.callers c.open_callers-callers.result.items (c.run_all.auto.callers ∙ ap length c.as_mut_slice.ensures.value) (sym c.open_callers-callers.result.ok.0) in
    all_of (RequestSteps g.S.Session.step g.S.Session.fails g.S.Session.settles g.S.Session.breaks_off) g.S.Session.keeps_together g.D.Door.gives g.D.Reader.Read.remaining g.D.Writer.Write.contents g.F.Folder.does c.in_ok-opened.opened.desk.id _ c.as_mut_slice.result.now c.run_all.new.callers c.take_apart.new.passes.items
    (ap sessions c.as_mut_slice.ensures.value ∙ c.open_callers-callers.ensures.passes ∙ ap (map at_rest) c.in_ok-opened.ensures.desk.2) c.run_all.ensures (c.take_apart.ensures.passes ∙ ap sessions same)

pub unreachable-requires : goal.unreachable-requires
unreachable-requires g c =
    let same = as_left c.open_callers-callers.result.len c.run_all.new.callers c.open_callers-callers.result.items (c.run_all.auto.callers ∙ ap length c.as_mut_slice.ensures.value) (sym c.open_callers-callers.result.ok.0) in
    none_missing (RequestSteps g.S.Session.step g.S.Session.fails g.S.Session.settles g.S.Session.breaks_off) g.S.Session.keeps_together g.D.Door.gives g.D.Reader.Read.remaining g.D.Writer.Write.contents g.F.Folder.does c.in_ok-opened.opened.desk.id c.in_ok-opened.opened.desk.seats c.as_mut_slice.result.now c.run_all.new.callers c.take_apart.new.passes.items
    (ap sessions c.as_mut_slice.ensures.value ∙ c.open_callers-callers.ensures.passes ∙ ap (map at_rest) (c.in_ok-opened.ensures.desk.2 ∙ ap (λ (k : ℕ). new_passes c.in_ok-opened.opened.desk.id k) (sym c.in_ok-opened.ensures.desk.1))) c.run_all.ensures (c.take_apart.ensures.passes ∙ ap sessions same)
    c.in-Err.ensures.missing

pub returns : goal.returns
returns g c =
    let same = as_left c.open_callers-callers.result.len c.run_all.new.callers c.open_callers-callers.result.items (c.run_all.auto.callers ∙ ap length c.as_mut_slice.ensures.value) (sym c.open_callers-callers.result.ok.0) in
    ends_so (RequestSteps g.S.Session.step g.S.Session.fails g.S.Session.settles g.S.Session.breaks_off) g.S.Session.keeps_together g.D.Door.gives g.D.Reader.Read.remaining g.D.Writer.Write.contents g.F.Folder.does c.in_ok-opened.opened.desk.id c.in_ok-opened.opened.desk.seats c.as_mut_slice.result.now c.run_all.new.callers c.take_apart.new.passes.items
    (ap sessions c.as_mut_slice.ensures.value ∙ c.open_callers-callers.ensures.passes ∙ ap (map at_rest) (c.in_ok-opened.ensures.desk.2 ∙ ap (λ (k : ℕ). new_passes c.in_ok-opened.opened.desk.id k) (sym c.in_ok-opened.ensures.desk.1))) c.run_all.ensures (c.take_apart.ensures.passes ∙ ap sessions same)
    c.args.session c.in-Ok.field-0.machine c.into_session.result c.args.posts.items c.take_apart.new.posts.items c.in-Ok.field-0.calls c.lack_answer-unanswered.result
    (c.in_ok-opened.ensures.desk.0) (ap (λ callers. map (λ caller. caller.post) callers) c.as_mut_slice.ensures.value ∙ c.open_callers-callers.ensures.posts)
    (omega (arith, c.in_ok-opened.ensures.desk.1, c.len.ensures, c.args.posts.ok.0)) c.in-Ok.ensures.closed (cc c.into_session.ensures)
    (c.take_apart.ensures.posts ∙ ap tasks same) (c.lack_answer-unanswered.ensures ∙ ap (λ callers. list_any (λ caller. lacks_answer caller.session.pass) callers) (c.as_slice.ensures.value ∙ same))
