-- Callers that have done their work, each by itself.
use Rattle.std.proofs.Common.{◌≡◌, ◌<◌, ℕ, suc, arith, Bool, length, slice_index_or, List, [], ◌∷◌, Option, map}
use Rattle.pana_daemon.specs.Folder.{Deed}
use Rattle.pana_daemon.specs.declared.connection.Connection.{Connection}
use Rattle.pana_daemon.specs.declared.post.Caller.{Caller}
use Rattle.pana_daemon.specs.declared.post.Post.{Post}
use Rattle.pana_daemon.specs.declared.post.Post.TheVariants.{Door, Folder}
use Rattle.pana_daemon.specs.declared.request.Request.{Request}
use Rattle.pana_daemon.specs.declared.request.Response.{Response}
use Rattle.pana_daemon.specs.inner.Passes.{HaveGrown}
use Rattle.pana_daemon.specs.Session.{GrowsTo, SessionView}
use Rattle.pana_daemon.specs.Post.{HasDone, HaveDone, passes_of, posted}
use Rattle.pana_daemon.proofs.Connections.{works_grow}
use Rattle.pana_daemon.proofs.Passes.{scanning_grows}

module _ {S D R W F : Type 0} (steps : S → Request → Response → S → Type 0) (together : Bool)
    (gives : D → Option (Connection R W) → D → Type 0) (remaining : R → Option (List ℕ)) (contents : W → Option (List ℕ)) (does : F → Deed → F → Type 0) where
  -- the caller has done its work
  abbrev pub Has : {T G : Type 0} → Caller S T G D F → Caller S T G D F → Type 0
  Has old new = HasDone steps together gives remaining contents does old.post new.post old.session new.session

  -- callers that have done theirs one by one have done it
  pub all_done : {T G : Type 0} → (olds news : List (Caller S T G D F)) → length news ≡ length olds
      → ((i : ℕ) (d : Caller S T G D F) → i < length olds → Has (slice_index_or olds i d) (slice_index_or news i d))
      → HaveDone steps together gives remaining contents does (map posted olds) (map posted news)
  all_done [] [] long each = tt
  all_done [] (new ∷ news) long each = absurd (omega (arith, long))
  all_done (old ∷ olds) [] long each = absurd (omega (arith, long))
  all_done (old ∷ olds) (new ∷ news) long each =
      (each 0 old (omega arith), all_done olds news (omega (arith, long)) (λ i d within. each (suc i) d (omega (arith, within))))

  -- a caller leaves the same pass, which has seen what it had seen
  done_grows : (post_old post_new : Post D F) (old new : SessionView S) → HasDone steps together gives remaining contents does post_old post_new old new → GrowsTo old.pass new.pass
  done_grows (Door door_old) (Door door_new) old new done = works_grow steps together gives remaining contents door_old door_new old new done
  done_grows (Folder device_old folder_old) (Folder device_new folder_new) old new done = scanning_grows steps together does device_old.now folder_old folder_new old new done.1
  done_grows (Door door) (Folder device folder) old new done = absurd done
  done_grows (Folder device folder) (Door door) old new done = absurd done

  pub done_grow : (olds news : List (Post D F × SessionView S)) → HaveDone steps together gives remaining contents does olds news → HaveGrown (passes_of olds) (passes_of news)
  done_grow [] [] done = tt
  done_grow [] (new ∷ news) done = absurd done
  done_grow (old ∷ olds) [] done = absurd done
  done_grow (old ∷ olds) (new ∷ news) done = (done_grows old.0 new.0 old.1 new.1 done.0, done_grow olds news done.1)
