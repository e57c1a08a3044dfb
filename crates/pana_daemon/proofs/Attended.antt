-- What is left of a desk whose callers have done their work.
use Rattle.std.proofs.Common.{◌≡◌, ℕ, All, Bool, ◌||◌, List, [], ◌∷◌, length, Option, map, refl, sym, ap, subst, ◌∙◌}
use Rattle.std.specs.List.{list_any}
use Rattle.pana_turn.specs.Closing.{Closes, LacksOne}
use Rattle.pana_turn.specs.Passes.{DeskId, new_passes}
use Rattle.pana_daemon.specs.Folder.{Deed}
use Rattle.pana_daemon.specs.declared.connection.Connection.{Connection}
use Rattle.pana_daemon.specs.declared.post.Caller.{Caller}
use Rattle.pana_daemon.specs.declared.post.Post.{Post}
use Rattle.pana_daemon.specs.Desk.{PassView}
use Rattle.pana_daemon.specs.declared.request.Request.{Request}
use Rattle.pana_daemon.specs.declared.request.Response.{Response}
use Rattle.pana_daemon.specs.inner.Passes.{HaveGrown}
use Rattle.pana_daemon.specs.Post.{AreAtRest, HaveDone, passes_of, posted, posts_of}
use Rattle.pana_daemon.specs.Serve.{Ends}
use Rattle.pana_daemon.specs.Session.{SessionView, at_rest, lacks_answer}
use Rattle.pana_daemon.proofs.Passes.{each_of, grown_all, grown_of, new_all, new_of, not_both}
use Rattle.pana_daemon.proofs.Posts.{done_grow}

module _ {S : Type 0} where
  passes_at_rest : (passes : List (PassView S)) → map (λ session. session.pass) (map at_rest passes) ≡ passes
  passes_at_rest [] = refl
  passes_at_rest (pass ∷ passes) = ap (λ (ps : List (PassView S)). pass ∷ ps) (passes_at_rest passes)

module _ {S T G D F : Type 0} where
  -- the callers' sessions, and what they are to do
  abbrev pub sessions : List (Caller S T G D F) → List (SessionView S)
  sessions callers = map (λ caller. caller.session) callers

  abbrev pub tasks : List (Caller S T G D F) → List (Post D F)
  tasks callers = map (λ caller. caller.post) callers

  sessions_posted : (callers : List (Caller S T G D F)) → map (λ caller. caller.1) (map posted callers) ≡ sessions callers
  sessions_posted [] = refl
  sessions_posted (caller ∷ callers) = ap (λ (ss : List (SessionView S)). caller.session ∷ ss) (sessions_posted callers)

  passes_posted : (callers : List (Caller S T G D F)) → passes_of (map posted callers) ≡ map (λ session. session.pass) (sessions callers)
  passes_posted [] = refl
  passes_posted (caller ∷ callers) = ap (λ (ps : List (PassView S)). caller.session.pass ∷ ps) (passes_posted callers)

  -- callers whose sessions are at rest, with these passes
  their_passes : (callers : List (Caller S T G D F)) (passes : List (PassView S)) → sessions callers ≡ map at_rest passes → passes_of (map posted callers) ≡ passes
  their_passes callers passes are = passes_posted callers ∙ ap (λ (ss : List (SessionView S)). map (λ session. session.pass) ss) are ∙ passes_at_rest passes

  they_rest : (callers : List (Caller S T G D F)) (passes : List (PassView S)) → sessions callers ≡ map at_rest passes → AreAtRest (map posted callers)
  they_rest callers passes are = sessions_posted callers ∙ are ∙ ap (λ (ps : List (PassView S)). map at_rest ps) (sym (their_passes callers passes are))

  posts_posted : (callers : List (Caller S T G D F)) → posts_of (map posted callers) ≡ tasks callers
  posts_posted [] = refl
  posts_posted (caller ∷ callers) = ap (λ (ps : List (Post D F)). caller.post ∷ ps) (posts_posted callers)

  lack_posted : (callers : List (Caller S T G D F)) → list_any lacks_answer (passes_of (map posted callers)) ≡ list_any (λ caller. lacks_answer caller.session.pass) callers
  lack_posted [] = refl
  lack_posted (caller ∷ callers) = ap (λ (b : Bool). lacks_answer caller.session.pass || b) (lack_posted callers)

module _ {S T G D R W F : Type 0} (steps : S → Request → Response → S → Type 0) (together : Bool)
    (gives : D → Option (Connection R W) → D → Type 0) (remaining : R → Option (List ℕ)) (contents : W → Option (List ℕ)) (does : F → Deed → F → Type 0)
    (desk : DeskId S) (seats : ℕ) (olds news : List (Caller S T G D F)) (back : List (PassView S))
    (fresh : sessions olds ≡ map at_rest (new_passes desk seats)) (done : HaveDone steps together gives remaining contents does (map posted olds) (map posted news)) (is_back : map at_rest back ≡ sessions news) where
  grown : HaveGrown (new_passes desk seats) back
  grown =
      let whole : HaveGrown (passes_of (map posted olds)) (passes_of (map posted news)) = done_grow steps together gives remaining contents does (map posted olds) (map posted news) done in
      subst (λ (ps : List (PassView S)). HaveGrown ps back) (their_passes olds (new_passes desk seats) fresh)
      (subst (λ (ps : List (PassView S)). HaveGrown (passes_of (map posted olds)) ps) (their_passes news back (sym is_back)) whole)

  -- the passes that they leave are the desk's
  pub all_of : All (λ pass. pass.desk ≡ desk) back
  all_of = each_of desk back (grown_of desk (new_passes desk seats) back grown (new_of desk seats (new_passes desk seats) refl))

  -- and none is missing
  pub none_missing : LacksOne seats back → ⊥
  none_missing lacks = not_both seats back (grown_all seats (new_passes desk seats) back grown (new_all desk seats (new_passes desk seats) refl)) lacks

  pub ends_so : (begun machine left : S) (posts posts_left : List (Post D F)) (requests : ℕ) (unanswered : Bool) → desk.begun ≡ begun → tasks olds ≡ posts → seats ≡ length posts
      → Closes steps seats desk.begun back machine requests → left ≡ machine → posts_left ≡ tasks news → unanswered ≡ list_any (λ caller. lacks_answer caller.session.pass) news
      → Ends steps together gives remaining contents does begun posts left posts_left requests unanswered
  ends_so begun machine left posts posts_left requests unanswered opened are count closed is_left are_left lack =
      let one = subst (λ (ps : List (PassView S)). Closes steps seats desk.begun ps machine requests) (sym (their_passes news back (sym is_back))) closed in
      let two = subst (λ (b : S). Closes steps seats b (passes_of (map posted news)) machine requests) opened one in
      let three = subst (λ (k : ℕ). Closes steps k begun (passes_of (map posted news)) machine requests) count two in
      record {
        desk = desk;
        opened = opened;
        olds = map posted olds;
        news = map posted news;
        posts_are = posts_posted olds ∙ are;
        posts_left_are = posts_posted news ∙ sym are_left;
        rest_first = they_rest olds (new_passes desk seats) fresh;
        rest_last = they_rest news back (sym is_back);
        are_new = their_passes olds (new_passes desk seats) fresh ∙ ap (λ (k : ℕ). new_passes desk k) count;
        done = done;
        closed = subst (λ (l : S). Closes steps (length posts) begun (passes_of (map posted news)) l requests) (sym is_left) three;
        lack = lack_posted news ∙ sym lack;
      }
