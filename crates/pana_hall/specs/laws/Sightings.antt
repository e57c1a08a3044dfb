-- What a sighting changes among the living copies, and what is known after it.
use Rattle.std.specs.Prelude.{◌≡◌, ◌≢◌, ◌≤◌, ℕ, Bool, true, false, ◌||◌, ◌==◌, List, Some}
use Rattle.pana_copies.specs.declared.place.Place.{Place}
use Rattle.pana_journal.specs.declared.entry.Entry.{Entry}
use Rattle.pana_journal.specs.declared.report.Report.TheVariants.{Merge, Reconcile}
use Rattle.pana_family.specs.Table.{In}
use Rattle.pana_calls.specs.declared.call.Call.TheVariants as calls
use Rattle.pana_calls.specs.declared.call.Sighting.{Sighting}
use Rattle.pana_hall.specs.declared.decision.Decision.{Decision}
use Rattle.pana_hall.specs.declared.decision.Decision.TheVariants.{Known, One, Both}
use Rattle.pana_calls.specs.declared.reply.Reply.{Reply}
use Rattle.pana_hall.specs.Living.{Copy, changes, copy_in, living, number_of, sum_of}
use Rattle.pana_hall.specs.Permit.{journal_after}
use Rattle.pana_hall.specs.laws.Advice.{KnowsAllOf}

-- the copies that live after a device's sighting and the reply to it
abbrev pub living_after : List Entry → List ℕ → Sighting → Reply → List Copy
living_after journal by sighting reply = living (journal_after journal by (calls.Sighting sighting) reply)

-- whether a report of the decision changes or removes the copy with this number
abbrev pub is_changed : Decision → ℕ → Bool
is_changed (Known copy) number = false
is_changed (One report) number = changes report number
is_changed (Both report second) number = changes report number || changes second number

-- whether it may change how the copy relates to others: of two that are reconciled only the first, as the second knew all already
abbrev pub relates_anew : Decision → ℕ → Bool
relates_anew (One (Reconcile copy newer sum)) number = number == copy
relates_anew decision number = is_changed decision number

-- whether it merges two copies, or is of two reports
abbrev pub is_for_two : Decision → Bool
is_for_two (One (Merge a b sum)) = true
is_for_two (Both report second) = true
is_for_two decision = false

-- the copy is at the place and holds the sum, and knows all that any copy of its family knows that holds the same
pub record IsKnown (copies : List Copy) (place : Place) (sum : List ℕ) (number : ℕ) : Type 0 where
  pub copy : Copy
  pub lives : copy_in copies number ≡ Some copy
  pub there : copy.place ≡ place
  pub holds : sum_of copy ≡ Some sum
  pub knows : (other : Copy) → In other copies → other.family ≡ copy.family → sum_of other ≡ Some sum → KnowsAllOf copy other

-- the heir is another copy of the copy's family: the lowest-numbered of those that know all that it knows, if any does
pub record IsHeir (copies : List Copy) (number heir : ℕ) : Type 0 where
  pub copy : Copy
  pub other : Copy
  pub lives : copy_in copies number ≡ Some copy
  pub heir_lives : copy_in copies heir ≡ Some other
  pub apart : heir ≢ number
  pub family : other.family ≡ copy.family
  pub knows : (third : Copy) → In third copies → third.family ≡ copy.family → number_of third ≢ number → KnowsAllOf third copy
      → KnowsAllOf other copy × (heir ≤ number_of third)
