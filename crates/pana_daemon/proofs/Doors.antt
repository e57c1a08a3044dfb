-- Doors that have ended, and what they have drawn together.
use Rattle.std.proofs.Common.{◌≡◌, ◌<◌, ◌≤◌, ◌+◌, inl, inr, ◌||◌, ℕ, zero, suc, Bool, true, false, List, [], ◌∷◌, length, replicate, sum_by, Option, arith, refl, sym, ap, subst, ◌∙◌}
use Rattle.std.proofs.lemmas.List.Sums.{sum_by-cons}
use Rattle.pana_tickets.specs.declared.hand.Hand.{Hand}
use Rattle.pana_tickets.specs.Hands.{TicketsView, joined}
use Rattle.pana_daemon.specs.Folder.{Deed}
use Rattle.pana_daemon.specs.declared.connection.Connection.{Connection}
use Rattle.pana_daemon.specs.declared.post.Post.{Post}
use Rattle.pana_daemon.specs.declared.post.Post.TheVariants.{Door, Folder}
use Rattle.pana_daemon.specs.Connection.{ServesAll, Works}
use Rattle.pana_daemon.specs.Session.{SessionView}
use Rattle.pana_daemon.specs.declared.request.Request.{Request}
use Rattle.pana_daemon.specs.declared.request.Response.{Response}
use Rattle.pana_daemon.specs.Door.{DoorView, GivesDrawn, HasDrawn, HasEnded, is_one_closed, new_door}
use Rattle.pana_daemon.specs.Post.{HaveDone, doors_in, posts_of}
use Rattle.pana_daemon.specs.Serve.{Ends}
use Rattle.pana_daemon.specs.inner.Doors.{AreEnded, AreLeft, AreOf, hands_of, joined_all}

abbrev pub Draws : DoorView → DoorView → Type 0
Draws old new = (more : ℕ) × HasDrawn old more new

pub draws_none : (door : DoorView) → HasDrawn door 0 door
draws_none door = record { tickets = refl; most = refl; parts = refl; drawn = omega arith }

pub draws_on : (old mid new : DoorView) (first more : ℕ) → HasDrawn old first mid → HasDrawn mid more new → HasDrawn old (first + more) new
draws_on old mid new first more p q = record { tickets = q.tickets ∙ p.tickets; most = q.most ∙ p.most; parts = q.parts ∙ p.parts; drawn = omega (arith, p.drawn, q.drawn) }

module _ {S R W : Type 0} (steps : S → Request → Response → S → Type 0) (together : Bool) (remaining : R → Option (List ℕ)) (contents : W → Option (List ℕ)) where
  serving_draws : (door_old : DoorView) (connections : List (Connection R W)) (door_new : DoorView) (old new : SessionView S) → ServesAll steps together GivesDrawn remaining contents door_old connections door_new old new → Draws door_old door_new
  serving_draws door_old [] door_new old new so = (0, subst (HasDrawn door_old 0) (sym so.0) (draws_none door_old))
  serving_draws door_old (connection ∷ connections) door_new old new (door, mid, gave, served, others) =
      let more = serving_draws door connections door_new mid new others in
      ((gave.0 + 1) + more.0, draws_on door_old door door_new (gave.0 + 1) more.0 gave.1 more.1)

  -- a worker leaves a door that has ended
  work_ends : (door_old door_new : DoorView) (old new : SessionView S) → Works steps together GivesDrawn remaining contents door_old door_new old new → Draws door_old door_new × HasEnded door_new
  work_ends door_old door_new old new w =
      let first = serving_draws door_old w.connections w.door old new w.serves in
      let last = w.ends.0 in
      ((first.0 + last.0, draws_on door_old w.door door_new first.0 last.0 first.1 last.1), w.ends.1)

  module _ {F : Type 0} (does : F → Deed → F → Type 0) where
    done_ends : (olds news : List (Post DoorView F × SessionView S)) → HaveDone steps together GivesDrawn remaining contents does olds news → AreEnded (doors_in (posts_of olds)) (doors_in (posts_of news))
    done_ends [] [] done = tt
    done_ends [] (new ∷ news) done = absurd done
    done_ends (old ∷ olds) [] done = absurd done
    done_ends ((Door door_old, old) ∷ olds) ((Door door_new, new) ∷ news) done = let ended = work_ends door_old door_new old new done.0 in (ended.0, ended.1, done_ends olds news done.1)
    done_ends ((Folder device_old folder_old, old) ∷ olds) ((Folder device_new folder_new, new) ∷ news) done = done_ends olds news done.1
    done_ends ((Door door, old) ∷ olds) ((Folder device folder, new) ∷ news) done = absurd done.0
    done_ends ((Folder device folder, old) ∷ olds) ((Door door, new) ∷ news) done = absurd done.0

    -- so do all
    pub all_end : (begun : S) (posts : List (Post DoorView F)) (left : S) (posts_left : List (Post DoorView F)) (requests : ℕ) (unanswered : Bool)
        → Ends steps together GivesDrawn remaining contents does begun posts left posts_left requests unanswered → AreEnded (doors_in posts) (doors_in posts_left)
    all_end begun posts left posts_left requests unanswered e =
        subst (λ (ps : List (Post DoorView F)). AreEnded (doors_in posts) (doors_in ps)) e.posts_left_are
        (subst (λ (ps : List (Post DoorView F)). AreEnded (doors_in ps) (doors_in (posts_of e.news))) e.posts_are (done_ends e.olds e.news e.done))

-- new doors that have ended are left with their parts
pub all_left : (tickets : TicketsView) (n : ℕ) (doors : List DoorView) → AreEnded (replicate n (new_door tickets)) doors → AreLeft tickets doors × (length doors ≡ n)
all_left tickets zero [] ended = (tt, refl)
all_left tickets zero (door ∷ doors) ended = absurd ended
all_left tickets (suc n) [] ended = absurd ended
all_left tickets (suc n) (door ∷ doors) (drawn, one, others) =
    let rest = all_left tickets n doors others in
    ((record { of = drawn.1.tickets; most = drawn.1.most; part = drawn.1.parts; ended = one }, rest.0), ap suc rest.1)

pub left_are_of : (tickets : TicketsView) (doors : List DoorView) → AreLeft tickets doors → AreOf tickets doors
left_are_of tickets [] left = tt
left_are_of tickets (door ∷ doors) left = (left.0.of, left_are_of tickets doors left.1)

-- the counts of a share together with others
pub joined_parts : (h : Hand) (doors : List DoorView) → (joined_all h (hands_of doors)).parts ≡ h.parts + sum_by (λ door. door.hand.parts) doors
joined_parts h [] = omega arith
joined_parts h (door ∷ doors) = let rest = joined_parts (joined h door.hand) doors in omega (arith, rest, sum_by-cons (λ (d : DoorView). d.hand.parts) door doors)

pub joined_drawn : (h : Hand) (doors : List DoorView) → (joined_all h (hands_of doors)).drawn ≡ h.drawn + sum_by (λ door. door.hand.drawn) doors
joined_drawn h [] = omega arith
joined_drawn h (door ∷ doors) = let rest = joined_drawn (joined h door.hand) doors in omega (arith, rest, sum_by-cons (λ (d : DoorView). d.hand.drawn) door doors)

pub joined_missed : (h : Hand) (doors : List DoorView) → (joined_all h (hands_of doors)).missed ≡ h.missed + sum_by (λ door. door.hand.missed) doors
joined_missed h [] = omega arith
joined_missed h (door ∷ doors) = let rest = joined_missed (joined h door.hand) doors in omega (arith, rest, sum_by-cons (λ (d : DoorView). d.hand.missed) door doors)

pub joined_most : (h : Hand) (hands : List Hand) → (joined_all h hands).most ≡ h.most
joined_most h [] = refl
joined_most h (g ∷ hands) = joined_most (joined h g) hands

pub parts_of_left : (tickets : TicketsView) (doors : List DoorView) → AreLeft tickets doors → sum_by (λ door. door.hand.parts) doors ≡ length doors
parts_of_left tickets [] left = refl
parts_of_left tickets (door ∷ doors) left =
    let rest = parts_of_left tickets doors left.1 in let one = left.0.part in omega (arith, rest, one, sum_by-cons (λ (d : DoorView). d.hand.parts) door doors)

neither : (a b : Bool) → (a || b) ≡ false → (a ≡ false) × (b ≡ false)
neither true b is = absurd (cc)
neither false b is = (refl, is)

has_missed : (door : DoorView) → HasEnded door → door.is_closed ≡ false → 0 < door.hand.missed
has_missed door (inl closed) unclosed = absurd (cc)
has_missed door (inr missed) unclosed = missed

-- where none has ended though a ticket may be left, each has found none left
pub missed_of_left : (tickets : TicketsView) (doors : List DoorView) → AreLeft tickets doors → is_one_closed doors ≡ false → length doors ≤ sum_by (λ door. door.hand.missed) doors
missed_of_left tickets [] left unclosed = omega arith
missed_of_left tickets (door ∷ doors) left unclosed =
    let both = neither door.is_closed (is_one_closed doors) unclosed in
    let rest = missed_of_left tickets doors left.1 both.1 in
    let one = has_missed door left.0.ended both.0 in
    omega (arith, rest, one, sum_by-cons (λ (d : DoorView). d.hand.missed) door doors)
