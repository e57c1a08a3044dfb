-- What the reply to a question says of the copy at a place.
use Rattle.std.proofs.Common.{◌≡◌, ℕ, List, Option, Some, None, Result, Ok, Err, IfOk, IfErr, refl, sym, subst, inl, inr}
use Rattle.pana_copies.specs.declared.place.Place.{Place}
use Rattle.pana_journal.specs.declared.entry.Entry.{Entry}
use Rattle.pana_calls.specs.declared.call.Call.TheVariants as calls
use Rattle.pana_calls.specs.declared.call.Query.TheVariants as queries
use Rattle.pana_calls.specs.declared.cause.Cause.{Cause}
use Rattle.pana_calls.specs.declared.reply.Reply.{Reply}
use Rattle.pana_calls.specs.declared.reply.Reply.TheVariants as replies
use Rattle.pana_calls.specs.declared.standing.CopyStanding.{CopyStanding}
use Rattle.pana_hall.specs.Living.{living}
use Rattle.pana_hall.specs.Permit.{Permits, PermitsBy, journal_after}
use Rattle.pana_hall.specs.Refusal.{refusal}
use Rattle.pana_hall.specs.Status.{standing_at}
use Rattle.pana_history.specs.Why.{IsDamage}
use Rattle.pana_history.specs.declared.why.Unexplained.{Unexplained}
use Rattle.pana_history.specs.declared.why.Unexplained.TheVariants.{OutOfMemory}

-- what follows for each result that is no error
pub if_ok : {T E : Type 0} (P Q : T → Type 0) → ((x : T) → P x → Q x) → (r : Result T E) → IfOk r P → IfOk r Q
if_ok P Q follows (Ok x) p = follows x p
if_ok P Q follows (Err e) p = tt

-- a question leaves the journal
pub asked : (journal : List Entry) (by : List ℕ) (place : Place) (reply : Reply) → journal_after journal by (calls.Query (queries.At place)) reply ≡ journal
unfolding journal_after
asked journal by place (replies.Done entry) = refl
asked journal by place (replies.Did kind entry) = refl
asked journal by place (replies.Known copy) = refl
asked journal by place (replies.Families rows) = refl
asked journal by place (replies.Board board) = refl
asked journal by place (replies.Stamps stamps) = refl
asked journal by place (replies.Pair rel) = refl
asked journal by place (replies.Holdings holdings) = refl
asked journal by place (replies.At standing) = refl
asked journal by place (replies.Status rows) = refl
asked journal by place (replies.Journal entries) = refl
asked journal by place (replies.Counts counts) = refl
asked journal by place (replies.Refused cause) = refl

at_by : (cause : Option Cause) (journal : List Entry) (place : Place) (standing : Option CopyStanding)
    → PermitsBy cause journal (calls.Query (queries.At place)) (replies.At standing) → standing ≡ standing_at (living journal) place
at_by (Some cause) journal place standing permits = absurd (cc)
at_by None journal place standing (inl same) = cc
at_by None journal place standing (inr (cause, shortage, odd)) = absurd (cc)

pub at_asked : (journal : List Entry) (by : List ℕ) (place : Place) (standing : Option CopyStanding)
    → Permits journal by (calls.Query (queries.At place)) (replies.At standing) → standing ≡ standing_at (living journal) place
unfolding Permits
at_asked journal by place standing permits = at_by (refusal journal by (calls.Query (queries.At place))) journal place standing permits

-- and what follows from two facts of it
pub if_ok_both : {T E : Type 0} (P Q R : T → Type 0) → ((x : T) → P x → Q x → R x) → (r : Result T E) → IfOk r P → IfOk r Q → IfOk r R
if_ok_both P Q R follows (Ok x) p q = follows x p q
if_ok_both P Q R follows (Err e) p q = tt

-- where memory runs out, nothing is said of the journal
pub no_damage : {T : Type 0} (journal : List Entry) (r : Result T Unexplained) (fault : Unexplained) → r ≡ Err fault → fault ≡ OutOfMemory → IfErr r (IsDamage journal)
no_damage {T} journal r fault is out =
    subst (λ (r : Result T Unexplained). IfErr r (IsDamage journal)) (sym is) (subst (λ (e : Unexplained). IsDamage journal e) (sym out) tt)
