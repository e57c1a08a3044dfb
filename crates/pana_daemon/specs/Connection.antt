-- Connections that a pass served, one after another.
use Rattle.std.specs.Prelude.{◌≡◌, ℕ, List, [], ◌∷◌, Option, Some, None, Result, Bool}
use Rattle.pana_wire.specs.Tap.{inside, IsUnused}
use Rattle.pana_wire.specs.declared.serving.Served.{Served}
use Rattle.pana_wire.specs.declared.serving.ServeFault.{ServeFault}
use Rattle.pana_wire.specs.declared.tap.Tap.{Tap}
use Rattle.pana_daemon.specs.Objects.{left_of}
use Rattle.pana_daemon.specs.Served.{IsServed}
use Rattle.pana_daemon.specs.Session.{SessionView}
use Rattle.pana_daemon.specs.declared.connection.Connection.{Connection}
use Rattle.pana_daemon.specs.declared.objects.ObjectReader.{ObjectReader}
use Rattle.pana_daemon.specs.declared.objects.Opening.TheVariants.{Blank}
use Rattle.pana_daemon.specs.declared.request.Request.{Request}
use Rattle.pana_daemon.specs.declared.request.Response.{Response}

-- the bytes that a reader has left for a session: those of a stream whose first byte that isn't a blank is `{`
abbrev pub given_by : {R : Type 0} → (R → Option (List ℕ)) → ObjectReader R → Option (List ℕ)
given_by remaining reader = left_of reader.opening (remaining reader.inner)

module _ {S R W : Type 0} (steps : S → Request → Response → S → Type 0) (together : Bool) (remaining : R → Option (List ℕ)) (contents : W → Option (List ℕ)) where
  -- the connection was served by the pass, as one session: its lines are read where the connection's come from, and the
  -- answers are written where the connection's go
  pub record ServesConnection (connection : Connection R W) (old new : SessionView S) : Type 0 where
    pub reader_old : Tap (ObjectReader R)
    pub reader_new : Tap (ObjectReader R)
    pub writer_old : Tap W
    pub writer_new : Tap W
    pub result : Result Served ServeFault
    pub reads : inside reader_old ≡ record { inner = connection.reader; opening = Blank }
    pub writes : inside writer_old ≡ connection.writer
    pub unread : IsUnused reader_old
    pub unwritten : IsUnused writer_old
    pub served : IsServed steps together (given_by remaining) contents reader_old reader_new writer_old writer_new old new result

module _ {S D R W : Type 0} (steps : S → Request → Response → S → Type 0) (together : Bool) (gives : D → Option (Connection R W) → D → Type 0) (remaining : R → Option (List ℕ)) (contents : W → Option (List ℕ)) where
  -- the door gives these connections, one after another, and each is served by the pass before the next one is taken
  abbrev pub ServesAll : D → List (Connection R W) → D → SessionView S → SessionView S → Type 0
  ServesAll door_old [] door_new old new = (door_new ≡ door_old) × (new ≡ old)
  ServesAll door_old (connection ∷ connections) door_new old new = (door : D) × (mid : SessionView S)
      × gives door_old (Some connection) door × ServesConnection steps together remaining contents connection old mid × ServesAll door connections door_new mid new

  -- a worker's work: it serves the connections that the door gives, until that gives no more
  pub record Works (door_old door_new : D) (old new : SessionView S) : Type 0 where
    pub connections : List (Connection R W)
    pub door : D
    pub serves : ServesAll door_old connections door old new
    pub ends : gives door None door_new
