-- Passes of one desk, and scanners of roots.
use Rattle.std.specs.List.{range_with_len}
use Rattle.std.proofs.Common.{◌≡◌, ◌==◌, ◌<◌, ◌||◌, ◌⊎◌, inl, inr, ℕ, zero, suc, ◌+◌, Bool, true, false, All, List, [], ◌∷◌, ◌++◌, map, length, take, drop, get_or, arith, refl, sym, subst, ap, ◌∙◌, append_assoc}
use Rattle.std.proofs.lemmas.List.{map-append}
use Rattle.std.proofs.lemmas.List.FromFn.{length-map-range_with_len}
use Rattle.std.proofs.Math.Seq.{take-append_seam}
use Rattle.std.proofs.lemmas.Grind.{take_at_read}
use Rattle.std.proofs.lemmas.Bool.Decides.{nat_tests}
use Rattle.pana_turn.specs.Closing.{HasAll, LacksOne, has_pass}
use Rattle.pana_turn.specs.Passes.{DeskId, new_pass, new_passes}
use Rattle.pana_scan.specs.declared.baseline.BaselineRow.{BaselineRow}
use Rattle.pana_track.specs.Calls.{Asked, Makes}
use Rattle.pana_daemon.specs.Folder.{Deed, Taken}
use Rattle.pana_daemon.specs.declared.folder.Look.{Look}
use Rattle.pana_daemon.specs.Desk.{PassView}
use Rattle.pana_daemon.specs.declared.request.Request.{Request}
use Rattle.pana_daemon.specs.declared.request.Response.{Response}
use Rattle.pana_daemon.specs.inner.Passes.{AreOf, AreOpen, HaveGrown}
use Rattle.pana_daemon.specs.Scan.{BreaksLook, Scans, StopsLook, TakesLook, TakesLooks}
use Rattle.pana_daemon.specs.Session.{BreaksOff, GetNone, GrowsTo, MakesCall, MayRecover, SessionView, Settles}
use Rattle.pana_daemon.proofs.Sessions.{all_grow, then_grows, same_grows, call_grows, none_grows, settled_grows, broken_grows}

-- new passes with these numbers
abbrev numbered : {S : Type 0} → DeskId S → List ℕ → List (PassView S)
numbered desk numbers = map (new_pass desk) numbers

of_numbers : {S : Type 0} → (desk : DeskId S) (numbers : List ℕ) → AreOf desk (numbered desk numbers)
of_numbers desk [] = tt
of_numbers desk (number ∷ numbers) = (refl, of_numbers desk numbers)

open_numbers : {S : Type 0} → (desk : DeskId S) (numbers : List ℕ) → AreOpen desk (numbered desk numbers)
open_numbers desk [] = tt
open_numbers desk (number ∷ numbers) = (refl, refl, open_numbers desk numbers)

-- the passes of a new desk are of it
pub new_of : {S : Type 0} → (desk : DeskId S) (seats : ℕ) (passes : List (PassView S)) → passes ≡ new_passes desk seats → AreOf desk passes
new_of desk seats passes is = subst (AreOf desk) (sym is) (of_numbers desk (range_with_len 0 seats))

-- and no call of theirs lacks its answer
pub new_open : {S : Type 0} → (desk : DeskId S) (seats : ℕ) (passes : List (PassView S)) → passes ≡ new_passes desk seats → AreOpen desk passes
new_open desk seats passes is = subst (AreOpen desk) (sym is) (open_numbers desk (range_with_len 0 seats))

pub new_count : {S : Type 0} → (desk : DeskId S) (seats : ℕ) (passes : List (PassView S)) → passes ≡ new_passes desk seats → length passes ≡ seats
new_count desk seats passes is = ap length is ∙ length-map-range_with_len (new_pass desk) 0 seats

or_left : (a b : Bool) → a ≡ true → (a || b) ≡ true
or_left a b is = rw is refl

or_right : (a b : Bool) → b ≡ true → (a || b) ≡ true
or_right true b is = refl
or_right false b is = is

same_number : (n : ℕ) → (n == n) ≡ true
same_number n = grind (arith, nat_tests)

-- passes numbered from a number on have each of these numbers
numbered_have : {S : Type 0} → (desk : DeskId S) (first count k : ℕ) → k < count → has_pass (numbered desk (range_with_len first count)) (first + k) ≡ true
numbered_have desk first zero k within = absurd (omega (arith, within))
numbered_have desk first (suc count) zero within =
    let same : first + 0 ≡ first = omega arith in
    or_left (first == first + 0) _ (ap (λ n. first == n) same ∙ same_number first)
numbered_have desk first (suc count) (suc k) within =
    let same : first + suc k ≡ (first + 1) + k = omega arith in
    or_right (first == first + suc k) _ (ap (λ n. has_pass (numbered desk (range_with_len (first + 1) count)) n) same ∙ numbered_have desk (first + 1) count k (omega (arith, within)))

-- a new desk has all its passes
pub new_all : {S : Type 0} → (desk : DeskId S) (seats : ℕ) (passes : List (PassView S)) → passes ≡ new_passes desk seats → HasAll seats passes
new_all desk seats passes is = subst (HasAll seats) (sym is) (λ number within.
    let same : 0 + number ≡ number = omega arith in subst (λ n. has_pass (numbered desk (range_with_len 0 seats)) n ≡ true) same (numbered_have desk 0 seats number within))

-- passes that have grown are of the same desk, and have the same numbers
pub grown_of : {S : Type 0} → (desk : DeskId S) (olds news : List (PassView S)) → HaveGrown olds news → AreOf desk olds → AreOf desk news
grown_of desk [] [] grown of = tt
grown_of desk [] (new ∷ news) grown of = absurd grown
grown_of desk (old ∷ olds) [] grown of = absurd grown
grown_of desk (old ∷ olds) (new ∷ news) grown of = (grown.0.same.0 ∙ of.0, grown_of desk olds news grown.1 of.1)

grown_has : {S : Type 0} → (number : ℕ) (olds news : List (PassView S)) → HaveGrown olds news → has_pass news number ≡ has_pass olds number
grown_has number [] [] grown = refl
grown_has number [] (new ∷ news) grown = absurd grown
grown_has number (old ∷ olds) [] grown = absurd grown
grown_has number (old ∷ olds) (new ∷ news) grown =
    ap (λ n. (n == number) || has_pass news number) grown.0.same.1 ∙ ap (λ b. (old.number == number) || b) (grown_has number olds news grown.1)

pub grown_all : {S : Type 0} → (seats : ℕ) (olds news : List (PassView S)) → HaveGrown olds news → HasAll seats olds → HasAll seats news
grown_all seats olds news grown all number within = grown_has number olds news grown ∙ all number within

pub each_of : {S : Type 0} → (desk : DeskId S) (passes : List (PassView S)) → AreOf desk passes → All (λ pass. pass.desk ≡ desk) passes
each_of desk [] of k d within = absurd (omega (arith, within))
each_of desk (pass ∷ passes) of zero d within = of.0
each_of desk (pass ∷ passes) of (suc k) d within = each_of desk passes of.1 k d (omega (arith, within))

from_either : {A B C : Type 0} → A ⊎ B → (A → C) → (B → C) → C
from_either (inl a) f g = f a
from_either (inr b) f g = g b

module _ {S : Type 0} (steps : S → Request → Response → S → Type 0) (together : Bool) where
  made_grow : (old new : SessionView S) (made : List Asked) → Makes (MakesCall steps together) old made new → GrowsTo old.pass new.pass
  made_grow old new [] so = same_grows old new so
  made_grow old new (one ∷ more) (mid, first, others) = then_grows old mid new (call_grows steps together old mid one.by one.call one.answer first) (made_grow mid new more others)

  stops_grow : (flag : Bool) (device : List ℕ) (look : Look) (old new : SessionView S) (marks_old marks_new : List BaselineRow) → StopsLook (MakesCall steps together) device flag (GetNone steps together) look old new marks_old marks_new → GrowsTo old.pass new.pass
  stops_grow false device look old new marks_old marks_new stops = then_grows old stops.mid new (made_grow old stops.mid stops.made stops.calls) (none_grows steps together stops.mid new device stops.call stops.ends)
  stops_grow true device look old new marks_old marks_new stops = then_grows old stops.mid new (made_grow old stops.mid stops.made stops.calls) (all_grow steps together stops.mid new stops.messages stops.ends)

  breaks_grow : (device : List ℕ) (look : Look) (old new : SessionView S) (marks_old marks_new : List BaselineRow) → BreaksLook (MakesCall steps together) device together (GetNone steps together) (BreaksOff steps) look old new marks_old marks_new → GrowsTo old.pass new.pass
  breaks_grow device look old new marks_old marks_new (inl stops) = stops_grow together device look old new marks_old marks_new stops
  breaks_grow device look old new marks_old marks_new (inr (made, end, looks, broken)) = then_grows old made new (made_grow old made looks.made looks.calls) (broken_grows steps made new broken)

  look_grows : (device : List ℕ) (taken : Taken) (old new : SessionView S) (marks_old marks_new : List BaselineRow)
      → TakesLook (MakesCall steps together) device together (GetNone steps together) (Settles steps) (BreaksOff steps) MayRecover taken old new marks_old marks_new → GrowsTo old.pass new.pass
  look_grows device taken old new marks_old marks_new (inl kept) = then_grows old kept.mid new (made_grow old kept.mid kept.looks.made kept.looks.calls) (settled_grows steps kept.mid new kept.settled)
  look_grows device taken old new marks_old marks_new (inr (unsaid, breaks, may)) = breaks_grow device taken.look old new marks_old marks_new breaks

  looks_grow : (device : List ℕ) (given : List Taken) (old new : SessionView S) (marks_old marks_new : List BaselineRow)
      → TakesLooks (MakesCall steps together) device together (GetNone steps together) (Settles steps) (BreaksOff steps) MayRecover given old new marks_old marks_new → GrowsTo old.pass new.pass
  looks_grow device [] old new marks_old marks_new so = same_grows old new so.0
  looks_grow device (taken ∷ given) old new marks_old marks_new (mid, marks, took, more) =
      then_grows old mid new (look_grows device taken old mid marks_old marks took) (looks_grow device given mid new marks marks_new more)

  pub scanning_grows : {F : Type 0} (does : F → Deed → F → Type 0) (device : List ℕ) (folder_old folder_new : F) (old new : SessionView S)
      → Scans does (MakesCall steps together) together (GetNone steps together) (Settles steps) (BreaksOff steps) MayRecover device folder_old folder_new old new → GrowsTo old.pass new.pass
  scanning_grows does device folder_old folder_new old new s =
      then_grows old s.mid new (looks_grow device s.given old s.mid [] s.baseline s.takes)
      (from_either s.ends (λ e. same_grows s.mid new e.1) (λ e. breaks_grow device e.0 s.mid new s.baseline e.1 e.3))

-- a vector whose first `n` places are written again has what was written, where it had so many items
pub as_left : {X : Type 0} (n : ℕ) (new old : List X) → length new ≡ length old → length old ≡ n → take n (new ++ drop (length new) old) ≡ new
as_left n new old long is = ap (λ m. take m (new ++ drop (length new) old)) (sym is ∙ sym long) ∙ take-append_seam new (drop (length new) old)

abbrev holds : Bool → Type 0
holds true = Unit {0}
holds false = ⊥

-- no pass is missing where all are there
pub not_both : {S : Type 0} → (seats : ℕ) (passes : List (PassView S)) → HasAll seats passes → LacksOne seats passes → ⊥
not_both seats passes all (number, within, lacks) = subst holds (sym (all number within) ∙ lacks) tt

-- what scanners have of the roots so far, they have with one more
pub one_more : {S R X : Type 0} (of_s : S → X) (of_r : R → X) (scanners new : List S) (roots : List R) (i : ℕ) (root : R) (scanner : S) → i < length roots
    → map of_s scanners ≡ map of_r (take i roots) → new ≡ scanners ++ scanner ∷ [] → of_s scanner ≡ of_r root → root ≡ get_or roots i root
    → map of_s new ≡ map of_r (take (i + 1) roots)
one_more of_s of_r scanners new roots i root scanner within so pushed same here =
    ap (λ xs. map of_s xs) pushed ∙ map-append of_s scanners (scanner ∷ []) ∙ ap (λ xs. xs ++ of_s scanner ∷ []) so ∙ ap (λ x. map of_r (take i roots) ++ x ∷ []) (same ∙ ap of_r here)
    ∙ sym (map-append of_r (take i roots) (get_or roots i root ∷ [])) ∙ ap (λ xs. map of_r xs) (sym ((take_at_read roots i root within).1))

-- what comes of the items so far and of those to come stays as one of these goes over
pub moved : {S X : Type 0} (of_s : S → X) (scanners new : List S) (rest after all : List X) (pass : X) (scanner : S)
    → map of_s scanners ++ rest ≡ all → rest ≡ pass ∷ after → new ≡ scanners ++ scanner ∷ [] → of_s scanner ≡ pass → map of_s new ++ after ≡ all
moved of_s scanners new rest after all pass scanner so next pushed same =
    ap (λ xs. map of_s xs ++ after) pushed ∙ ap (λ xs. xs ++ after) (map-append of_s scanners (scanner ∷ [])) ∙ append_assoc (map of_s scanners) (of_s scanner ∷ []) after
    ∙ ap (λ x. map of_s scanners ++ x ∷ after) same ∙ ap (λ xs. map of_s scanners ++ xs) (sym next) ∙ so
