-- A log that is filled, part by part.
use Rattle.std.proofs.Common.{◌≡◌, ◌≢◌, ◌⊎◌, ◌<◌, ℕ, ◌+◌, List, [], ◌∷◌, ◌++◌, length, inl, inr, refl, sym, ap, subst, ◌∙◌, append-nil, append_assoc}
use native.Mathlib.Omega.{arith}
use Rattle.pana_journal.specs.declared.entry.Entry.{Entry}
use Rattle.pana_shared.specs.declared.record.Record.{Record}
use Rattle.std.specs.Global.{Vec}
use Rattle.pana_shared.specs.Log.{Grows, IsAt, IsOneOf, Lands, LogView, MayAppend, Reads, loose_at, ours}
use Rattle.pana_shared.proofs.Grown.{ours_both}
use Rattle.pana_shared_store.specs.declared.placing.Placed.TheVariants.{Ours, Others}
use Rattle.pana_shared_store.specs.declared.fill_fault.FillFault.TheVariants.{NotNext}
use Rattle.pana_shared_store.specs.Fill.{Fills, FillsNot, FillsPart}
use Rattle.pana_shared_store.specs.Store.{IsFresh, entries_in, recorded}
use Rattle.pana_shared_store.specs.inner.{AreBefore, HasFilled, IsNew, IsUnusedGroup, Places, PlacesNone}
use Rattle.pana_shared_store.proofs.Followed.{entries_both, page_first, still_first}
use Rattle.pana_shared_store.proofs.Tried.{at_some}
use Rattle.pana_shared_store.proofs.Readied.{is_new, is_unused, may_put, recorded_before, recorded_entries, store_asked, store_later, store_opened}

module _ (start : LogView) (done : List Entry) (before : ℕ) (old : LogView) (filled : HasFilled start done before old) where
  -- nothing comes of what was asked for before
  lands_none : (landed records : List Record) → Lands old landed records → landed ≡ []
  lands_none landed records (inl is) = is
  lands_none landed records (inr (one, alive, there)) = absurd (by_idle filled.idle) where
    by_idle : (old.at < length old.records) ⊎ (old.loose ≡ []) → ⊥
    by_idle (inl early) = omega (arith, early, alive)
    by_idle (inr none) = subst (λ (l : List (List Record)). IsOneOf landed l) none one

  -- what the writer has put then
  own_then : (made : List Record) (new : LogView) → Grows old made new.records → new.writer ≡ old.writer → entries_in (ours new.writer new.records) ≡ done ++ entries_in made
  own_then made new grows same =
      ap (λ (w : ℕ). entries_in (ours w new.records)) same ∙ ap (λ (l : List Record). entries_in (ours old.writer l)) grows.longer ∙ ap entries_in (ours_both old.writer old.records grows.more)
      ∙ entries_both (ours old.writer old.records) (ours old.writer grows.more) ∙ ap (λ (l : List Entry). l ++ entries_in (ours old.writer grows.more)) filled.fills.own
      ∙ ap (λ (l : List Record). done ++ entries_in l) (grows.own ∙ ap (λ (l : List Record). l ++ made) (lands_none grows.landed new.records grows.lands))

  -- nothing more is put
  fills_none : (new : LogView) → Grows old [] new.records → new.writer ≡ old.writer → Fills start done new
  fills_none new grows same = record {
    writer = same ∙ filled.fills.writer;
    first = still_first done old [] new.records filled.fills.first grows;
    own = own_then [] new grows same ∙ append-nil done;
  }

  module _ (writer : ℕ) (part : List Entry) (some : part ≢ []) (group : List Record) (is : group ≡ recorded writer (before + 1) part) where
    entries_are : entries_in group ≡ part
    entries_are = ap entries_in is ∙ recorded_entries writer (before + 1) part

    -- the part is put behind
    fills_more : (new : LogView) → Grows old group new.records → IsAt (length done) group new.records → new.writer ≡ old.writer → Fills start (done ++ part) new
    fills_more new grows there same = record {
      writer = same ∙ filled.fills.writer;
      first = page_first done part [] group new.records (still_first done old group new.records filled.fills.first grows) there (entries_are ∙ sym (append-nil part));
      own = own_then group new grows same ∙ ap (λ (l : List Entry). done ++ l) entries_are;
    }

    pub filled_more : (new : LogView) → Places old (length done) group Ours new → HasFilled start (done ++ part) (before + 1) new
    filled_more new (loosens, grows, there, behind, within) = record {
      fills = fills_more new grows there loosens.writer;
      store = store_asked (before + 1) done old new (store_later before done old filled.store) filled.store.ready group has_some of_turn loosens group (done ++ part) grows of_turn (part, refl) (fills_more new grows there loosens.writer).first;
      idle = inl (let place = loosens.place in omega (arith, place, within));
    } where
      of_turn : AreBefore (before + 1 + 1) group
      of_turn = subst (λ (l : List Record). AreBefore (before + 1 + 1) l) (sym is) (recorded_before writer (before + 1) part)

      has_some : group ≢ []
      has_some none = some (sym entries_are ∙ ap entries_in none)

    -- or it isn't
    pub not_next : (page : Vec Record) (left : List Entry) (new : LogView) (number : ℕ) → number ≡ length done + 1 → Places old (length done) group (Others page) new → FillsNot (NotNext number) start (done ++ (part ++ left)) new
    not_next page left new number is_next (loosens, grows, some_there, there) =
        let within = at_some (length done) page.items new.records some_there there in
        (done, record { fills = fills_none new grows loosens.writer; left = part ++ left; split = refl }, is_next, omega (arith, is_next, within))

    pub unread : (left : List Entry) (new : LogView) → PlacesNone old (length done) group new → (done_then : List Entry) × FillsPart start done_then (done ++ (part ++ left)) new
    unread left new (loosens, inl grows) = (done, record { fills = fills_none new grows loosens.writer; left = part ++ left; split = refl })
    unread left new (loosens, inr (grows, there)) = (done ++ part, record { fills = fills_more new grows there loosens.writer; left = left; split = sym (append_assoc done part left) })

  -- nothing was asked for
  pub only_read : (rest : List Entry) (new : LogView) → Reads old new → (done_then : List Entry) × FillsPart start done_then (done ++ rest) new
  only_read rest new reads = (done, record { fills = fills_none new reads.grows (ap (λ (v : LogView). v.writer) reads.same); left = rest; split = refl })

-- what has an element has a first one
some_of : (part : List Entry) → 0 < length part → (e : Entry) × (es : List Entry) × (part ≡ e ∷ es)
some_of [] some = absurd (omega (arith, some))
some_of (e ∷ es) some = (e, es, refl)

-- the same by the place and the turn
module _ (start : LogView) (done : List Entry) (before : ℕ) (old : LogView) (filled : HasFilled start done before old) (at turn writer : ℕ) (even : length done ≡ at) (next : before + 1 ≡ turn)
    (part : List Entry) (some : 0 < length part) (group : List Record) (is : group ≡ recorded writer turn part) where
  group_is : group ≡ recorded writer (before + 1) part
  group_is = is ∙ ap (λ (t : ℕ). recorded writer t part) (sym next)

  has_some : part ≢ []
  has_some none = let l = ap length none in omega (arith, l, some)

  module _ (own : writer ≡ old.writer) where
    first : (e : Entry) × (es : List Entry) × (part ≡ e ∷ es)
    first = some_of part some

    whole : recorded writer (before + 1) (first.0 ∷ first.1) ≡ group
    whole = ap (recorded writer (before + 1)) (sym first.2) ∙ sym group_is

    pub may_fill : MayAppend old at group
    may_fill = subst (λ (n : ℕ). MayAppend old n group) even (subst (λ (l : List Record). MayAppend old (length done) l) whole (may_put done (before + 1) old writer own first.0 first.1 (store_later before done old filled.store)))

    pub new_fill : IsNew group (loose_at at old)
    new_fill = subst (λ (n : ℕ). IsNew group (loose_at n old)) even (subst (λ (l : List Record). IsNew l (loose_at (length done) old)) whole (is_new done (before + 1) old writer own first.0 first.1 filled.store.ready))

    pub unused_fill : IsUnusedGroup group (ours old.writer old.records)
    unused_fill = subst (λ (l : List Record). IsUnusedGroup l (ours old.writer old.records)) whole (is_unused done (before + 1) old writer own first.0 first.1 filled.store.ready)

  pub put_there : (new : LogView) → Places old at group Ours new → HasFilled start (done ++ part) turn new
  put_there new places = subst (λ (t : ℕ). HasFilled start (done ++ part) t new) next (filled_more start done before old filled writer part has_some group group_is new (subst (λ (n : ℕ). Places old n group Ours new) (sym even) places))

  pub others_there : (page : Vec Record) (left : List Entry) (new : LogView) (number : ℕ) → number ≡ at + 1 → Places old at group (Others page) new → FillsNot (NotNext number) start (done ++ (part ++ left)) new
  others_there page left new number is_next places =
      not_next start done before old filled writer part has_some group group_is page left new number (is_next ∙ ap (λ (n : ℕ). n + 1) (sym even)) (subst (λ (n : ℕ). Places old n group (Others page) new) (sym even) places)

  pub unread_there : (left : List Entry) (new : LogView) → PlacesNone old at group new → (taken : List Entry) × FillsPart start taken (done ++ (part ++ left)) new
  unread_there left new places = unread start done before old filled writer part has_some group group_is left new (subst (λ (n : ℕ). PlacesNone old n group new) (sym even) places)

-- the log had no record when it was looked at, so nothing is put yet
pub filled_none : (start new : LogView) → IsFresh start → Reads start new → HasFilled start [] 0 new
filled_none start new fresh reads = record {
  fills = record { writer = same; first = (entries_in new.records, refl); own = ap (λ (w : ℕ). entries_in (ours w new.records)) same ∙ ap entries_in mine };
  store = store_opened [] start new fresh.asked fresh.at fresh.put reads (entries_in new.records, refl);
  idle = inr (ap (λ (v : LogView). v.loose) reads.same ∙ fresh.asked);
} where
  same : new.writer ≡ start.writer
  same = ap (λ (v : LogView). v.writer) reads.same

  landed_none : (landed : List Record) → Lands start landed new.records → landed ≡ []
  landed_none landed (inl is) = is
  landed_none landed (inr (one, alive, there)) = absurd (subst (λ (l : List (List Record)). IsOneOf landed l) fresh.asked one)

  mine : ours start.writer new.records ≡ []
  mine = let grows = reads.grows in ap (ours start.writer) grows.longer ∙ ours_both start.writer start.records grows.more ∙ ap (λ (l : List Record). l ++ ours start.writer grows.more) fresh.put ∙ grows.own ∙ append-nil grows.landed ∙ landed_none grows.landed grows.lands
