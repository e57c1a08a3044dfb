-- Sessions that were served by one at a desk: what was written for what was read, and when.
use Rattle.std.specs.Prelude.{◌^◌, ◌⊎◌, ℕ, List, Option, Result, Ok, Err, Bool}
use Rattle.pana_wire.specs.Groups.{ServesGroups, StopsGroups}
use Rattle.pana_wire.specs.Session.{NeverBegins}
use Rattle.pana_wire.specs.declared.serving.Served.{Served}
use Rattle.pana_wire.specs.declared.serving.ServeFault.{ServeFault}
use Rattle.pana_wire.specs.declared.tap.Tap.{Tap}
use Rattle.pana_daemon.specs.Session.{BreaksOff, GetNone, GrowsTo, MakesCall, SessionView, Settles, requests_seen}
use Rattle.pana_daemon.specs.declared.request.Request.{Request}
use Rattle.pana_daemon.specs.declared.request.Response.{Response}

module _ {S R W : Type 0} (steps : S → Request → Response → S → Type 0) (together : Bool) (remaining : R → Option (List ℕ)) (contents : W → Option (List ℕ)) where
  -- The session's text was served by the pass, whole or up to a fault: each call in it is one that the pass made, by a request of its
  -- own or in a list. The lines that came together are answered together: no byte of an answer was written before the pass had seen
  -- that its call was finished and that the session which all share had settled behind it. At most one further call was made whose
  -- answer isn't written, or, where that session keeps calls together, those of a list.
  abbrev pub EndsWith : Tap R → Tap R → Tap W → Tap W → SessionView S → SessionView S → Result Served ServeFault → Type 0
  EndsWith reader_old reader_new writer_old writer_new old new (Ok served) =
      ServesGroups remaining contents (MakesCall steps together) (Settles steps) requests_seen reader_old reader_new writer_old writer_new old new served
  EndsWith reader_old reader_new writer_old writer_new old new (Err fault) = NeverBegins reader_old reader_new writer_old writer_new old new fault
      ⊎ StopsGroups remaining contents (MakesCall steps together) together (GetNone steps together) (Settles steps) (BreaksOff steps) requests_seen (2 ^ 40) reader_old reader_new writer_old writer_new old new fault

  -- a session was served by the pass, and ended so
  pub record IsServed (reader_old reader_new : Tap R) (writer_old writer_new : Tap W) (old new : SessionView S) (result : Result Served ServeFault) : Type 0 where
    pub pass : GrowsTo old.pass new.pass
    pub text : EndsWith reader_old reader_new writer_old writer_new old new result
