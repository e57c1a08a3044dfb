use Rattle.std.proofs.Common.{subst, sym}
use Rattle.pana_store.specs.Store.{StoreView, KeepsFirst}
use Rattle.pana_laws.specs.KeptRun.{KeepsDone}
use Rattle.pana_laws.proofs.KeptRun.{keeps_all, keeps_done}
use Rattle.pana_laws.proofs.laws.daemon_keeps_what_is_done.Goals as goal

pub returns : goal.returns
returns g c known begun left posts posts_left requests unanswered works kept whole e =
    let history = e.closed.history in
    let all = keeps_all g.V.Device.is_known g.V.Device.seen g.V.Device.may_leave g.V.Device.is_usable g.V.Device.moment g.V.Device.left_since g.V.Device.has_failed known g.met.V.Device.only_now begun history works kept whole e.closed.run in
    let done = keeps_done g.V.Device.is_known g.V.Device.seen g.V.Device.may_leave g.V.Device.is_usable g.V.Device.moment g.V.Device.left_since g.V.Device.has_failed known g.met.V.Device.only_now begun history works kept e.closed.run in
    record {
      history = history;
      run = e.closed.run;
      leaves = e.closed.left;
      counted = e.closed.counted;
      all = subst (λ (s : StoreView g.row.V.Denot). KeepsFirst g.V.Device.moment g.V.Device.left_since begun s) (sym e.closed.left) all;
      done = subst (λ (s : StoreView g.row.V.Denot). KeepsDone g.V.Device.moment g.V.Device.left_since history s) (sym e.closed.left) done;
    }
