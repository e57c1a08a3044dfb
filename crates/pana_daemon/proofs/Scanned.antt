-- Looks of a scanner, one after another.
use Rattle.std.proofs.Common.{inl, inr, ℕ, Bool, List, [], ◌∷◌, ◌++◌, Option, None, Some, refl, subst}
use Rattle.pana_calls.specs.declared.call.Call.{Call}
use Rattle.pana_calls.specs.declared.answer.Answer.{Answer}
use Rattle.pana_calls.specs.declared.message.Message.{Message}
use Rattle.pana_scan.specs.declared.baseline.BaselineRow.{BaselineRow}
use Rattle.pana_track.specs.declared.folder_end.FolderEnd.{FolderEnd}
use Rattle.pana_daemon.specs.Folder.{Deed, Gives, LearnsEnd, Taken, gives_look, gives_none}
use Rattle.pana_daemon.specs.declared.folder.Look.{Look}
use Rattle.pana_daemon.specs.Scan.{BreaksLook, KeepsLook, Scans, TakesLook, TakesLooks}

gives_push : {F : Type 0} → (does : F → Deed → F → Type 0) (old mid given new : F) (looks : List Taken) (next : Taken)
    → Gives does old looks mid → does mid (gives_look next.look) given → LearnsEnd does given next.end new → Gives does old (looks ++ next ∷ []) new
gives_push does old mid given new [] next is one learnt = (given, new, subst (λ f. does f (gives_look next.look) given) is one, learnt, refl)
gives_push does old mid given new (taken ∷ looks) next (f, g, first, knows, is) one learnt = (f, g, first, knows, gives_push does g mid given new looks next is one learnt)

module _ {F S : Type 0} (does : F → Deed → F → Type 0) (step : S → List ℕ → Call → Answer → S → Type 0) (together : Bool) (fails : S → List Message → S → Type 0) (settles breaks_off : S → S → Type 0) (may_recover : S → Type 0) (device : List ℕ) where
  abbrev Takes : Taken → S → S → List BaselineRow → List BaselineRow → Type 0
  Takes = TakesLook step device together fails settles breaks_off may_recover

  looks_push : (given : List Taken) (next : Taken) (old mid new : S) (marks_old marks_mid marks_new : List BaselineRow)
      → TakesLooks step device together fails settles breaks_off may_recover given old mid marks_old marks_mid → Takes next mid new marks_mid marks_new
      → TakesLooks step device together fails settles breaks_off may_recover (given ++ next ∷ []) old new marks_old marks_new
  looks_push [] next old mid new marks_old marks_mid marks_new so one = (
    new,
    marks_new,
    subst (λ (m : List BaselineRow). Takes next old new m marks_new) so.1 (subst (λ (s : S). Takes next s new marks_mid marks_new) so.0 one),
    (refl, refl),
  )
  looks_push (look ∷ given) next old mid new marks_old marks_mid marks_new (kept, marks, took, more) one =
      (kept, marks, took, looks_push given next kept mid new marks marks_mid marks_new more one)

  -- the looks so far
  pub record LookedSoFar (folder_old folder_new : F) (old new : S) (marks : List BaselineRow) : Type 0 where
    pub given : List Taken
    pub folder : Gives does folder_old given folder_new
    pub takes : TakesLooks step device together fails settles breaks_off may_recover given old new [] marks

  -- the folder gives no more
  pub no_more : (folder_old : F) (old : S) (folder_mid folder_new : F) (new : S) (marks : List BaselineRow) → LookedSoFar folder_old folder_mid old new marks → does folder_mid gives_none folder_new
      → Scans does step together fails settles breaks_off may_recover device folder_old folder_new old new
  no_more folder_old old folder_mid folder_new new marks far gave = record {
    given = far.given;
    baseline = marks;
    folder_mid = folder_mid;
    mid = new;
    folder = far.folder;
    takes = far.takes;
    ends = inl (gave, refl);
  }

  module _ (folder_old : F) (old : S) (folder_mid folder_given : F) (mid : S) (marks : List BaselineRow) (next : Look) (far : LookedSoFar folder_old folder_mid old mid marks) (gave : does folder_mid (gives_look next) folder_given) where
    -- one look more
    one_look : (end : Option FolderEnd) (folder_new : F) (new : S) (marks_new : List BaselineRow) → LearnsEnd does folder_given end folder_new → Takes (record { look = next; end = end }) mid new marks marks_new
        → LookedSoFar folder_old folder_new old new marks_new
    one_look end folder_new new marks_new learnt took = record {
      given = far.given ++ record { look = next; end = end } ∷ [];
      folder = gives_push does folder_old folder_mid folder_given folder_new far.given (record { look = next; end = end }) far.folder gave learnt;
      takes = looks_push far.given (record { look = next; end = end }) old mid new [] marks marks_new far.takes took;
    }

    -- which was kept
    pub one_kept : (end : Option FolderEnd) (folder_new : F) (new : S) (marks_new : List BaselineRow) → LearnsEnd does folder_given end folder_new → KeepsLook step device together settles next end mid new marks marks_new
        → LookedSoFar folder_old folder_new old new marks_new
    one_kept end folder_new new marks_new learnt look = one_look end folder_new new marks_new learnt (inl look)

    -- which was cut short
    pub one_cut : (new : S) (marks_new : List BaselineRow) → BreaksLook step device together fails breaks_off next mid new marks marks_new → may_recover new → LookedSoFar folder_old folder_given old new marks_new
    one_cut new marks_new breaks may = one_look None folder_given new marks_new refl (inr (refl, breaks, may))

    -- it is cut short, and the last one
    pub none_left : (new : S) (marks_new : List BaselineRow) → BreaksLook step device together fails breaks_off next mid new marks marks_new → Scans does step together fails settles breaks_off may_recover device folder_old folder_given old new
    none_left new marks_new breaks = record {
      given = far.given;
      baseline = marks;
      folder_mid = folder_mid;
      mid = mid;
      folder = far.folder;
      takes = far.takes;
      ends = inr (next, marks_new, gave, breaks);
    }
