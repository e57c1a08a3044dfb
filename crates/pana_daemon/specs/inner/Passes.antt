-- Passes before and after their callers have done their work.
use Rattle.std.specs.Prelude.{◌≡◌, false, List, [], ◌∷◌}
use Rattle.pana_turn.specs.Passes.{DeskId}
use Rattle.pana_daemon.specs.Desk.{PassView}
use Rattle.pana_daemon.specs.Session.{GrowsTo, lacks_answer}

module _ {S : Type 0} where
  -- the passes are of the desk
  abbrev pub AreOf : DeskId S → List (PassView S) → Type 0
  AreOf desk [] = Unit {0}
  AreOf desk (pass ∷ passes) = (pass.desk ≡ desk) × AreOf desk passes

  -- the passes are of the desk, and each call of theirs was answered
  abbrev pub AreOpen : DeskId S → List (PassView S) → Type 0
  AreOpen desk [] = Unit {0}
  AreOpen desk (pass ∷ passes) = (pass.desk ≡ desk) × (lacks_answer pass ≡ false) × AreOpen desk passes

  -- the same passes, in order, each of which has seen what it had seen, and maybe more
  abbrev pub HaveGrown : List (PassView S) → List (PassView S) → Type 0
  HaveGrown [] [] = Unit {0}
  HaveGrown [] (new ∷ news) = ⊥
  HaveGrown (old ∷ olds) [] = ⊥
  HaveGrown (old ∷ olds) (new ∷ news) = GrowsTo old new × HaveGrown olds news
