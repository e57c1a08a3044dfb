-- The calls by which a device reports what was noticed.
use Rattle.std.specs.Prelude.{◌≡◌, ◌≢◌, ◌⊎◌, ℕ, zero, suc, ◌-◌, nat_lt, Bool, true, false, ◌&&◌, if◌then◌else◌, List, [], ◌∷◌, ◌++◌, length, map, take, drop, Option, Some, None}
use Rattle.std.specs.List.{list_any}
use Rattle.pana_calls.specs.declared.reply.Reply.TheVariants.{Did}
use Rattle.pana_calls.specs.declared.answer.Answer.{Answer}
use Rattle.pana_calls.specs.declared.answer.Answer.TheVariants.{Given}
use Rattle.pana_calls.specs.declared.answer.Answer.TheVariants as answers
use Rattle.pana_calls.specs.declared.message.Message.{Message}
use Rattle.pana_scan.specs.declared.notices.Notice.{Notice}
use Rattle.pana_scan.specs.declared.notices.Notice.TheVariants.{Found}
use Rattle.pana_scan.specs.Notice.{call_of}
use Rattle.pana_track.specs.declared.fault.TrackFault.{TrackFault}
use Rattle.pana_track.specs.declared.fault.TrackFault.TheVariants.{NotKept, OutOfMemory}
use Rattle.pana_track.specs.Calls.{Asked, asked}

-- whether something was done of a file that was found
abbrev pub has_moved : Notice → Answer → Bool
has_moved (Found path sum) (Given (Did kind entry)) = true
has_moved notice answer = false

-- ---- one notice after another

-- whether the call is made once more, where so many more of it may be: something was done, so something may be left to be done
abbrev pub is_again : ℕ → Notice → Answer → Bool
is_again more notice answer = has_moved notice answer && nat_lt 0 more

-- what is left to report after this answer, the first of these notices being the one that was reported
abbrev pub left_after : ℕ → Notice → List Notice → Answer → List Notice
left_after more notice notices answer = if is_again more notice answer then notice ∷ notices else notices

-- how many more calls than one there may be then of the first that is left; of a new one 999
abbrev pub more_after : ℕ → Notice → Answer → ℕ
more_after more notice answer = if is_again more notice answer then more - 1 else 999

-- The calls by which a device reports what was noticed, in order: of a rename or a missing file one, and of a file that was
-- found one after another until nothing is done of it, a thousand at most; of the first so many more than one. They stop where
-- a report isn't kept, or where memory runs out before a call.
abbrev pub Reports : ℕ → List ℕ → List Notice → List Asked → Option TrackFault → Type 0
Reports more device [] [] stop = stop ≡ None
Reports more device [] (made ∷ others) stop = ⊥
Reports more device (notice ∷ notices) [] stop = stop ≡ Some OutOfMemory
Reports more device (notice ∷ notices) (made ∷ others) stop =
    (made.by ≡ device) × (made.call ≡ call_of device notice)
    × (((made.answer ≡ answers.NotKept) × (others ≡ []) × (stop ≡ Some NotKept))
    ⊎ ((made.answer ≢ answers.NotKept) × Reports (more_after more notice made.answer) device (left_after more notice notices made.answer) others stop))

-- ---- by rounds

-- one call about each notice, in order
abbrev pub messages_of : List ℕ → List Notice → List Message
messages_of device notices = map (λ notice. record { by = device; call = call_of device notice }) notices

-- the notices of which something was done, by the answers to these calls
abbrev pub moved : List Notice → List Answer → List Notice
moved notices [] = []
moved [] (answer ∷ answers) = []
moved (notice ∷ notices) (answer ∷ answers) = if has_moved notice answer then notice ∷ moved notices answers else moved notices answers

-- whether a report isn't kept
abbrev pub is_unkept : Answer → Bool
is_unkept (Given reply) = false
is_unkept answers.NotKept = true

-- why no further list of calls is made in a round: nothing is left to be called about, or memory ran out
abbrev pub stop_before : List Notice → Option TrackFault
stop_before [] = None
stop_before (notice ∷ notices) = Some OutOfMemory

-- A round: one call about each notice, in order, in lists of a hundred, the last of which may be shorter; of each list these are
-- the answers. Those of which something was done are left for the next round. It stops behind a list in which a report isn't
-- kept, or where memory runs out before a list.
abbrev pub IsRound : List ℕ → List Notice → List (List Answer) → List Asked → List Notice → Option TrackFault → Type 0
IsRound device notices [] made left stop = (made ≡ []) × (left ≡ []) × (stop ≡ stop_before notices)
IsRound device notices (answers ∷ lists) made left stop =
    (others : List Asked) × (more : List Notice) × (length answers ≡ length (take 100 notices))
    × (made ≡ asked (messages_of device (take 100 notices)) answers ++ others) × (left ≡ moved (take 100 notices) answers ++ more)
    × (((list_any is_unkept answers ≡ true) × (others ≡ []) × (more ≡ []) × (stop ≡ Some NotKept))
    ⊎ ((list_any is_unkept answers ≡ false) × IsRound device (drop 100 notices) lists others more stop))

-- The calls by which a device reports what was noticed, by rounds, of which there may be so many: the first about all notices,
-- and each further one about those that are left. There is none behind a round that stops.
abbrev pub ReportsRounds : ℕ → List ℕ → List Notice → List Asked → Option TrackFault → Type 0
ReportsRounds rounds device [] made stop = (made ≡ []) × (stop ≡ None)
ReportsRounds zero device (notice ∷ notices) made stop = (made ≡ []) × (stop ≡ None)
ReportsRounds (suc rounds) device (notice ∷ notices) made stop =
    (lists : List (List Answer)) × (first : List Asked) × (others : List Asked) × (left : List Notice) × (made ≡ first ++ others)
    × (((fault : TrackFault) × IsRound device (notice ∷ notices) lists first left (Some fault) × (others ≡ []) × (stop ≡ Some fault))
    ⊎ (IsRound device (notice ∷ notices) lists first left None × ReportsRounds rounds device left others stop))

-- ---- either

-- one notice after another; or, where the session may keep together what several calls make, by a thousand rounds at most
abbrev pub ReportsBy : Bool → List ℕ → List Notice → List Asked → Option TrackFault → Type 0
ReportsBy false device notices made stop = Reports 999 device notices made stop
ReportsBy true device notices made stop = Reports 999 device notices made stop ⊎ ReportsRounds 1000 device notices made stop
