use Rattle.std.proofs.Common.{ℕ, List, refl, sym, subst, ◌∙◌}
use Rattle.pana_shared.specs.declared.record.Record.{Record}
use Rattle.pana_shared.specs.Log.{MayAppend, loose_at, ours}
use Rattle.pana_calls.specs.declared.call.Call.{Call}
use Rattle.pana_calls.specs.declared.reply.Reply.{Reply}
use Rattle.pana_hall.specs.Prepared.{Prepares, entries_of}
use Rattle.pana_hall.specs.Step.{Steps}
use Rattle.pana_shared_store.specs.declared.placing.Placed.TheVariants.{Ours, Others, Full}
use Rattle.pana_shared_store.specs.Store.{recorded}
use Rattle.pana_shared_store.specs.inner.{IsNew, IsUnusedGroup, TriesNone}
use Rattle.pana_shared_store.proofs.Followed.{reads_none}
use Rattle.pana_shared_store.proofs.Made.{as_recorded, as_recorded_none, group_is, placed_as, placed_at, placed_none_at, store_others, store_ours, store_same, store_unknown}
use Rattle.pana_shared_store.proofs.Readied.{is_new, is_unused, may_put}
use Rattle.pana_shared_store.proofs.Shortage.{may_make, prepared_steps, shortage}
use Rattle.pana_shared_store.proofs.making.put.Goals as goal

pub returns-in_default-clause-ok : goal.returns-in_default-clause-ok
returns-in_default-clause-ok g c by call p =
    let short = shortage c.args.prepared.journal by call c.args.prepared p in
    (c.cancel_into.ensures, (short.0, c.cancel_into.ensures ∙ short.1), λ known. reads_none _)

pub place-requires-clause-may : goal.place-requires-clause-may
place-requires-clause-may g c known =
    let is = group_is c.writer-writer.result c.args.turn c.args.prepared c.in-Ok.group.items _ _ c.in-Ok.ensures c.entry.ensures c.second.ensures in
    subst (λ (l : List Record). MayAppend (g.L.SharedLog.seen c.args.log.now) c.args.at l) (sym is)
    (subst (λ (n : ℕ). MayAppend (g.L.SharedLog.seen c.args.log.now) n (recorded c.writer-writer.result c.args.turn (entries_of c.args.prepared))) (sym c.requires.at)
    (may_put c.args.prepared.journal c.args.turn (g.L.SharedLog.seen c.args.log.now) c.writer-writer.result (c.writer-writer.ensures known) _ _ (c.requires.store known)))

pub place-requires-clause-some : goal.place-requires-clause-some
place-requires-clause-some g c known = (c.requires.store known).some

pub place-requires-clause-other : goal.place-requires-clause-other
place-requires-clause-other g c known =
    let is = group_is c.writer-writer.result c.args.turn c.args.prepared c.in-Ok.group.items _ _ c.in-Ok.ensures c.entry.ensures c.second.ensures in
    subst (λ (l : List Record). IsNew l (loose_at c.args.at (g.L.SharedLog.seen c.args.log.now))) (sym is)
    (subst (λ (n : ℕ). IsNew (recorded c.writer-writer.result c.args.turn (entries_of c.args.prepared)) (loose_at n (g.L.SharedLog.seen c.args.log.now))) (sym c.requires.at)
    (is_new c.args.prepared.journal c.args.turn (g.L.SharedLog.seen c.args.log.now) c.writer-writer.result (c.writer-writer.ensures known) _ _ (c.requires.ready known)))

pub place-requires-clause-unused : goal.place-requires-clause-unused
place-requires-clause-unused g c known =
    let is = group_is c.writer-writer.result c.args.turn c.args.prepared c.in-Ok.group.items _ _ c.in-Ok.ensures c.entry.ensures c.second.ensures in
    subst (λ (l : List Record). IsUnusedGroup l (ours (g.L.SharedLog.seen c.args.log.now).writer (g.L.SharedLog.seen c.args.log.now).records)) (sym is)
    (is_unused c.args.prepared.journal c.args.turn (g.L.SharedLog.seen c.args.log.now) c.writer-writer.result (c.writer-writer.ensures known) _ _ (c.requires.ready known))

pub returns-in-Ok-Ours-clause-store : goal.returns-in-Ok-Ours-clause-store
returns-in-Ok-Ours-clause-store g c known =
    let is = group_is c.writer-writer.result c.args.turn c.args.prepared c.in-Ok.group.items _ _ c.in-Ok.ensures c.entry.ensures c.second.ensures in
    let places = placed_at (g.L.SharedLog.seen c.args.log.now) (g.L.SharedLog.seen c.place.new.log) c.args.at _ c.in-Ok.group.items Ours c.requires.at (placed_as (g.L.SharedLog.seen c.args.log.now) (g.L.SharedLog.seen c.place.new.log) c.args.at c.in-Ok.group.items _ Ours c.in-Ok-Ours.field-0-is (c.in-Ok-Ours.ensures.ok known)) in
    store_ours c.args.turn c.writer-writer.result c.args.prepared.journal (g.L.SharedLog.seen c.args.log.now) (g.L.SharedLog.seen c.place.new.log) (c.requires.store known) (c.requires.ready known) c.args.prepared c.in-Ok.group.items is _ c.commit_into.ensures.hall places

pub returns-in-Ok-Ours-clause-ok : goal.returns-in-Ok-Ours-clause-ok
returns-in-Ok-Ours-clause-ok g c by call p =
    let is = group_is c.writer-writer.result c.args.turn c.args.prepared c.in-Ok.group.items _ _ c.in-Ok.ensures c.entry.ensures c.second.ensures in
    let steps = subst (λ (r : Reply). Steps c.args.prepared.journal by call r c.commit_into.new.hall) (sym c.commit_into.ensures.reply) (prepared_steps c.args.prepared.journal by call c.args.prepared _ p c.commit_into.ensures.hall) in (
      entries_of c.args.prepared,
      c.commit_into.ensures.hall,
      steps,
      λ known. as_recorded (g.L.SharedLog.seen c.args.log.now) (g.L.SharedLog.seen c.place.new.log) _ c.args.turn c.writer-writer.result c.in-Ok.group.items (entries_of c.args.prepared) is (c.writer-writer.ensures known)
          (placed_at (g.L.SharedLog.seen c.args.log.now) (g.L.SharedLog.seen c.place.new.log) c.args.at _ c.in-Ok.group.items Ours c.requires.at (placed_as (g.L.SharedLog.seen c.args.log.now) (g.L.SharedLog.seen c.place.new.log) c.args.at c.in-Ok.group.items _ Ours c.in-Ok-Ours.field-0-is (c.in-Ok-Ours.ensures.ok known))),
    )

pub returns-in-Ok-Others-clause-store : goal.returns-in-Ok-Others-clause-store
returns-in-Ok-Others-clause-store g c known =
    let is = group_is c.writer-writer.result c.args.turn c.args.prepared c.in-Ok.group.items _ _ c.in-Ok.ensures c.entry.ensures c.second.ensures in
    let places = placed_at (g.L.SharedLog.seen c.args.log.now) (g.L.SharedLog.seen c.place.new.log) c.args.at _ c.in-Ok.group.items (Others c.in-Ok-Others.page) c.requires.at (placed_as (g.L.SharedLog.seen c.args.log.now) (g.L.SharedLog.seen c.place.new.log) c.args.at c.in-Ok.group.items _ (Others c.in-Ok-Others.page) c.in-Ok-Others.field-0-is (c.in-Ok-Others.ensures.ok known)) in
    store_others c.args.turn c.writer-writer.result c.args.prepared.journal (g.L.SharedLog.seen c.args.log.now) (g.L.SharedLog.seen c.place.new.log) (c.requires.store known) (c.requires.ready known) c.args.prepared c.in-Ok.group.items is c.in-Ok-Others.page _ c.cancel_into-in-Ok-Others.ensures places

pub returns-in-Ok-Others-clause-ok : goal.returns-in-Ok-Others-clause-ok
returns-in-Ok-Others-clause-ok g c by call p = (
  c.in-Ok.group.items,
  c.cancel_into-in-Ok-Others.ensures,
  λ known. placed_at (g.L.SharedLog.seen c.args.log.now) (g.L.SharedLog.seen c.place.new.log) c.args.at _ c.in-Ok.group.items (Others c.in-Ok-Others.page) c.requires.at (placed_as (g.L.SharedLog.seen c.args.log.now) (g.L.SharedLog.seen c.place.new.log) c.args.at c.in-Ok.group.items _ (Others c.in-Ok-Others.page) c.in-Ok-Others.field-0-is (c.in-Ok-Others.ensures.ok known)),
)

pub returns-in-Ok-Full-clause-store : goal.returns-in-Ok-Full-clause-store
returns-in-Ok-Full-clause-store g c known =
    store_same c.args.turn c.args.prepared.journal _ (g.L.SharedLog.seen c.args.log.now) (g.L.SharedLog.seen c.place.new.log) (c.requires.store known) (placed_as (g.L.SharedLog.seen c.args.log.now) (g.L.SharedLog.seen c.place.new.log) c.args.at c.in-Ok.group.items _ Full c.in-Ok-Full.field-0-is (c.in-Ok-Full.ensures.ok known)) c.cancel_into-in-Ok-Full.ensures

pub returns-in-Ok-Full-clause-ok : goal.returns-in-Ok-Full-clause-ok
returns-in-Ok-Full-clause-ok g c by call p = (
  c.cancel_into-in-Ok-Full.ensures,
  (p.free, may_make c.args.prepared.journal by call c.args.prepared p, c.cancel_into-in-Ok-Full.ensures),
  λ known. placed_as (g.L.SharedLog.seen c.args.log.now) (g.L.SharedLog.seen c.place.new.log) c.args.at c.in-Ok.group.items _ Full c.in-Ok-Full.field-0-is (c.in-Ok-Full.ensures.ok known),
)

pub returns-in-Err-clause-store : goal.returns-in-Err-clause-store
returns-in-Err-clause-store g c known =
    let is = group_is c.writer-writer.result c.args.turn c.args.prepared c.in-Ok.group.items _ _ c.in-Ok.ensures c.entry.ensures c.second.ensures in
    store_unknown c.args.turn c.writer-writer.result c.args.prepared.journal (g.L.SharedLog.seen c.args.log.now) (g.L.SharedLog.seen c.place.new.log) (c.requires.store known) (c.requires.ready known) c.args.prepared c.in-Ok.group.items is _ c.cancel_into-in-Err.ensures (placed_none_at (g.L.SharedLog.seen c.args.log.now) (g.L.SharedLog.seen c.place.new.log) c.args.at _ c.in-Ok.group.items c.requires.at (c.in-Err.ensures.err known))

pub returns-in-Err-clause-err : goal.returns-in-Err-clause-err
returns-in-Err-clause-err g c =
    let is = group_is c.writer-writer.result c.args.turn c.args.prepared c.in-Ok.group.items _ _ c.in-Ok.ensures c.entry.ensures c.second.ensures in
    let fact : (by : List ℕ) (call : Call) → Prepares c.args.prepared.journal by call c.args.prepared → TriesNone g.L.SharedLog.is_known c.args.turn c.args.prepared.journal (g.L.SharedLog.seen c.args.log.now) by call c.cancel_into-in-Err.new.hall (g.L.SharedLog.seen c.place.new.log) = λ by call p. record {
      same = c.cancel_into-in-Err.ensures;
      reply = c.args.prepared.reply;
      asked = entries_of c.args.prepared;
      steps = prepared_steps c.args.prepared.journal by call c.args.prepared _ p refl;
      places = λ known. as_recorded_none (g.L.SharedLog.seen c.args.log.now) (g.L.SharedLog.seen c.place.new.log) _ c.args.turn c.writer-writer.result c.in-Ok.group.items (entries_of c.args.prepared) is (c.writer-writer.ensures known) (placed_none_at (g.L.SharedLog.seen c.args.log.now) (g.L.SharedLog.seen c.place.new.log) c.args.at _ c.in-Ok.group.items c.requires.at (c.in-Err.ensures.err known));
    } in
    fact
