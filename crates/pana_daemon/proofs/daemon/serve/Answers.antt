use Rattle.std.proofs.Common.{Result, Ok, Err, IfOk}
use Rattle.pana_daemon.proofs.daemon.serve.Goals as goal

-- what follows of each end
if_ok_then : {T E : Type 0} → (r : Result T E) (P Q : T → Type 0) → ((x : T) → P x → Q x) → IfOk r P → IfOk r Q
if_ok_then (Ok x) P Q f is = f x is
if_ok_then (Err e) P Q f is = tt

pub returns : goal.returns
returns g c = if_ok_then c.serve_posts.result _ _ (λ ended ends. ends c.args.listener.wanted c.in_ok-signals.ensures.most) c.serve_posts.ensures
