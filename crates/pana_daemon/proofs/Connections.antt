-- What a worker leaves of its pass.
use Rattle.std.proofs.Common.{ℕ, Bool, List, [], ◌∷◌, ◌++◌, Option, Some, refl, subst}
use Rattle.pana_daemon.specs.declared.connection.Connection.{Connection}
use Rattle.pana_daemon.specs.declared.request.Request.{Request}
use Rattle.pana_daemon.specs.declared.request.Response.{Response}
use Rattle.pana_daemon.specs.Session.{GrowsTo, SessionView}
use Rattle.pana_daemon.specs.Connection.{ServesConnection, ServesAll, Works}
use Rattle.pana_daemon.proofs.Sessions.{then_grows, same_grows}

module _ {S D R W : Type 0} (steps : S → Request → Response → S → Type 0) (together : Bool) (gives : D → Option (Connection R W) → D → Type 0) (remaining : R → Option (List ℕ)) (contents : W → Option (List ℕ)) where
  -- one connection more
  pub serves_push : (door_old door_mid door_new : D) (connections : List (Connection R W)) (connection : Connection R W) (old mid new : SessionView S)
      → ServesAll steps together gives remaining contents door_old connections door_mid old mid → gives door_mid (Some connection) door_new → ServesConnection steps together remaining contents connection mid new
      → ServesAll steps together gives remaining contents door_old (connections ++ connection ∷ []) door_new old new
  serves_push door_old door_mid door_new [] connection old mid new so gave served =
      (door_new, new, subst (λ (d : D). gives d (Some connection) door_new) so.0 gave, subst (λ (p : SessionView S). ServesConnection steps together remaining contents connection p new) so.1 served, (refl, refl))
  serves_push door_old door_mid door_new (first ∷ connections) connection old mid new (door, pass, gave_first, served_first, so) gave served =
      (door, pass, gave_first, served_first, serves_push door door_mid door_new connections connection pass mid new so gave served)

  serves_grow : (door_old door_new : D) (connections : List (Connection R W)) (old new : SessionView S) → ServesAll steps together gives remaining contents door_old connections door_new old new → GrowsTo old.pass new.pass
  serves_grow door_old door_new [] old new so = same_grows old new so.1
  serves_grow door_old door_new (connection ∷ connections) old new (door, mid, gave, served, so) = then_grows old mid new served.served.pass (serves_grow door door_new connections mid new so)

  -- a worker leaves the same pass, which has seen what it had seen
  pub works_grow : (door_old door_new : D) (old new : SessionView S) → Works steps together gives remaining contents door_old door_new old new → GrowsTo old.pass new.pass
  works_grow door_old door_new old new w = serves_grow door_old w.door w.connections old new w.serves
