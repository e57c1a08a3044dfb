-- A group that is put, and what stands in the log then.
use Rattle.std.proofs.Common.{◌≡◌, ◌≢◌, ◌⊎◌, ℕ, ◌+◌, List, [], ◌∷◌, ◌++◌, length, Option, inl, inr, sym, ap, subst, ◌∙◌, append-nil}
use Rattle.std.specs.Option.{option_to_list}
use Rattle.std.specs.Global.{Vec}
use Rattle.pana_journal.specs.declared.entry.Entry.{Entry}
use Rattle.pana_hall.specs.Prepared.{PreparedView, entries_of}
use Rattle.pana_shared.specs.declared.record.Record.{Record}
use Rattle.pana_shared.specs.Log.{Grows, IsAt, LogView, Reads}
use Rattle.pana_shared_store.specs.declared.placing.Placed.{Placed}
use Rattle.pana_shared_store.specs.declared.placing.Placed.TheVariants.{Ours, Others}
use Rattle.pana_shared_store.specs.Store.{AreFirst, entries_in, recorded}
use Rattle.pana_shared_store.specs.inner.{AreBefore, IsReady, IsStore, Places, PlacesNone}
use Rattle.pana_shared_store.proofs.Followed.{page_first, still_first}
use Rattle.pana_shared_store.proofs.Readied.{recorded_before, recorded_entries, store_asked, store_looked}

-- the group is the entries that are prepared
pub group_is : (writer turn : ℕ) (prepared : PreparedView) (group : List Record) (e : Entry) (second : Option Entry) → group ≡ recorded writer turn (e ∷ option_to_list second) → e ≡ prepared.entry → second ≡ prepared.second → group ≡ recorded writer turn (entries_of prepared)
group_is writer turn prepared group e second is one two =
    is ∙ ap (λ (x : Entry). recorded writer turn (x ∷ option_to_list second)) one ∙ ap (λ (o : Option Entry). recorded writer turn (prepared.entry ∷ option_to_list o)) two

module _ (turn writer : ℕ) (old : List Entry) (before after : LogView) (store : IsStore old turn before) (ready : IsReady turn old before) (prepared : PreparedView) (group : List Record) (is : group ≡ recorded writer turn (entries_of prepared)) where
  some : group ≢ []
  some none = let c : recorded writer turn (entries_of prepared) ≡ [] = sym is ∙ none in cc

  of_turn : AreBefore (turn + 1) group
  of_turn = subst (λ (l : List Record). AreBefore (turn + 1) l) (sym is) (recorded_before writer turn (entries_of prepared))

  entries_are : entries_in group ≡ entries_of prepared
  entries_are = ap entries_in is ∙ recorded_entries writer turn (entries_of prepared)

  -- it stands there
  pub store_ours : (new : List Entry) → new ≡ old ++ entries_of prepared → Places before (length old) group Ours after → IsStore new turn after
  store_ours new made (loosens, grows, there, behind, within) =
      store_asked turn old before after store ready group some of_turn loosens group new grows of_turn (entries_of prepared, made)
      (subst (λ (l : List Entry). AreFirst l after.records) (sym made) (page_first old (entries_of prepared) [] group after.records (still_first old before group after.records store.first grows) there (entries_are ∙ sym (append-nil (entries_of prepared)))))

  -- others stand there
  pub store_others : (page : Vec Record) (new : List Entry) → new ≡ old → Places before (length old) group (Others page) after → IsStore new turn after
  store_others page new same (loosens, grows, some_there, there) =
      store_asked turn old before after store ready group some of_turn loosens [] new grows tt ([], same ∙ sym (append-nil old)) (subst (λ (l : List Entry). AreFirst l after.records) (sym same) (still_first old before [] after.records store.first grows))

  -- nothing is known of it
  pub store_unknown : (new : List Entry) → new ≡ old → PlacesNone before (length old) group after → IsStore new turn after
  store_unknown new same (loosens, grows) = by_growth grows where
    by_growth : Grows before [] after.records ⊎ (Grows before group after.records × IsAt (length old) group after.records) → IsStore new turn after
    by_growth (inl none) = store_asked turn old before after store ready group some of_turn loosens [] new none tt ([], same ∙ sym (append-nil old)) (subst (λ (l : List Entry). AreFirst l after.records) (sym same) (still_first old before [] after.records store.first none))
    by_growth (inr (all, there)) = store_asked turn old before after store ready group some of_turn loosens group new all of_turn ([], same ∙ sym (append-nil old)) (subst (λ (l : List Entry). AreFirst l after.records) (sym same) (still_first old before group after.records store.first all))

-- the place is behind the entries
pub placed_at : (before after : LogView) (at n : ℕ) (group : List Record) (p : Placed) → at ≡ n → Places before at group p after → Places before n group p after
placed_at before after at n group p is places = subst (λ (m : ℕ). Places before m group p after) is places

pub placed_none_at : (before after : LogView) (at n : ℕ) (group : List Record) → at ≡ n → PlacesNone before at group after → PlacesNone before n group after
placed_none_at before after at n group is places = subst (λ (m : ℕ). PlacesNone before m group after) is places

-- what it has come to
pub placed_as : (before after : LogView) (at : ℕ) (group : List Record) (p q : Placed) → p ≡ q → Places before at group p after → Places before at group q after
placed_as before after at group p q is places = subst (λ (x : Placed). Places before at group x after) is places

-- as the records of the writer that the log has
pub as_recorded : (before after : LogView) (n turn writer : ℕ) (group : List Record) (made : List Entry) → group ≡ recorded writer turn made → writer ≡ before.writer → Places before n group Ours after → Places before n (recorded before.writer turn made) Ours after
as_recorded before after n turn writer group made is own places = subst (λ (l : List Record). Places before n l Ours after) (is ∙ ap (λ (w : ℕ). recorded w turn made) own) places

pub as_recorded_none : (before after : LogView) (n turn writer : ℕ) (group : List Record) (made : List Entry) → group ≡ recorded writer turn made → writer ≡ before.writer → PlacesNone before n group after → PlacesNone before n (recorded before.writer turn made) after
as_recorded_none before after n turn writer group made is own places = subst (λ (l : List Record). PlacesNone before n l after) (is ∙ ap (λ (w : ℕ). recorded w turn made) own) places

-- nothing was put
pub store_same : (turn : ℕ) (old new : List Entry) (before after : LogView) → IsStore old turn before → Reads before after → new ≡ old → IsStore new turn after
store_same turn old new before after store reads same =
    store_looked turn old new before after store reads ([], same ∙ sym (append-nil old)) (subst (λ (l : List Entry). AreFirst l after.records) (sym same) (still_first old before [] after.records store.first reads.grows))
