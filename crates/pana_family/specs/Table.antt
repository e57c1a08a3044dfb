-- The table of sets of one family, by rising number. A row is a living copy, with the updates that it knows and the entry
-- that touched it last; or it is a parcel, the set of a copy that is gone, kept under the number of the entry that removed
-- the copy, and held by a living one.
use Rattle.std.specs.Prelude.{◌≡◌, ℕ, ◌<◌, Bool, ◌==◌, not, ◌&&◌, ◌||◌, ◌⊎◌, List, [], ◌∷◌, ◌++◌, map, filter, count_by, IsTrue, Option, Some, None, if◌then◌else◌}
use Rattle.std.specs.List.{list_any}
use Rattle.pana_family.specs.Updates.{has, is_within, union, IsSubset}
use Rattle.pana_family.specs.Holders.{leave, is_copy, is_held, passed}

-- a member of a list
abbrev pub In : {A : Type 0} → A → List A → Type 0
In x [] = ⊥
In x (y ∷ ys) = (x ≡ y) ⊎ In x ys

-- what is known of a copy, which has no holder, or of a parcel
pub record Known : Type 0 where
  pub copy : ℕ
  pub holder : Option ℕ
  pub set : List ℕ
  pub touch : ℕ

-- a copy
abbrev pub known : ℕ → List ℕ → ℕ → Known
known copy set touch = record { copy = copy; holder = None; set = set; touch = touch }

-- parcel n, which the holder holds
abbrev pub parcel : ℕ → ℕ → List ℕ → Known
parcel n holder set = record { copy = n; holder = Some holder; set = set; touch = n }

-- whether a copy has this number
abbrev pub is_in : List Known → ℕ → Bool
is_in table copy = list_any (λ t. t.copy == copy && is_copy t.holder) table

-- the set of the copy with this number, and none where there is no such copy
abbrev pub set_in : List Known → ℕ → List ℕ
set_in [] copy = []
set_in (t ∷ table) copy = if t.copy == copy then t.set else set_in table copy

-- the touch of the copy with this number
abbrev pub touch_in : List Known → ℕ → ℕ
touch_in [] copy = 0
touch_in (t ∷ table) copy = if t.copy == copy then t.touch else touch_in table copy

-- the table, with the copy of this number changed by f
abbrev pub change : ℕ → (Known → Known) → List Known → List Known
change copy f table = map (λ t. if t.copy == copy then f t else t) table

-- the table but for the copy of this number
abbrev pub without : ℕ → List Known → List Known
without copy table = filter (λ t. not (t.copy == copy)) table

-- the copy once entry n gave it this set
abbrev pub knowing : List ℕ → ℕ → Known → Known
knowing set n t = record { copy = t.copy; holder = t.holder; set = set; touch = n }

-- Register n: its copy knows no update
abbrev pub registered : ℕ → List Known
registered n = known n [] n ∷ []

-- Duplicate n: a new copy knows what its source does
abbrev pub duplicated : ℕ → ℕ → List Known → List Known
duplicated n copy table = table ++ known n (set_in table copy) n ∷ []

-- Edit n: the copy knows the update too
abbrev pub edited : ℕ → ℕ → List Known → List Known
edited n copy table = change copy (λ t. knowing (n ∷ t.set) n t) table

-- Relocate n: the copy is touched
abbrev pub touched : ℕ → ℕ → List Known → List Known
touched n copy table = change copy (λ t. knowing t.set n t) table

-- two copies know this set
abbrev pub united : ℕ → ℕ → ℕ → List ℕ → List Known → List Known
united n a b both table = change b (knowing both n) (change a (knowing both n) table)

-- whether a parcel ends once its holder knows this set: where its own is within it
abbrev pub ends : ℕ → List ℕ → Known → Bool
ends copy set t = is_held copy t.holder && is_within t.set set

-- a copy is settled: of the parcels that it holds those end whose sets it knows
abbrev pub settled : ℕ → List Known → List Known
settled copy table = leave (ends copy (set_in table copy)) table

-- Reconcile n: both copies know what either did, and are settled
abbrev pub reconciled : ℕ → ℕ → ℕ → List Known → List Known
reconciled n a b table = settled b (settled a (united n a b (union (set_in table a) (set_in table b)) table))

-- Merge n: both copies know what either did and the update, and are settled
abbrev pub merged : ℕ → ℕ → ℕ → List Known → List Known
merged n a b table = settled b (settled a (united n a b (union (n ∷ set_in table a) (set_in table b)) table))

-- Remove without heir: the copy is gone, and the parcels that it held
abbrev pub lost : ℕ → List Known → List Known
lost copy table = leave (λ t. t.copy == copy || is_held copy t.holder) table

-- the copy becomes parcel n, which the heir holds
abbrev pub wrapped : ℕ → ℕ → ℕ → List Known → List Known
wrapped n copy heir table = without copy table ++ parcel n heir (set_in table copy) ∷ []

-- the heir holds what the copy held
abbrev pub passed_on : ℕ → ℕ → List Known → List Known
passed_on copy heir table = map (λ t. record { copy = t.copy; holder = passed copy heir t.holder; set = t.set; touch = t.touch }) table

-- Remove n with an heir: the heir holds the copy as parcel n and what the copy held, and is settled
abbrev pub bequeathed : ℕ → ℕ → ℕ → List Known → List Known
bequeathed n copy heir table = settled heir (passed_on copy heir (wrapped n copy heir table))

-- Remove n, with an heir or without
abbrev pub removed : ℕ → ℕ → Option ℕ → List Known → List Known
removed n copy None table = lost copy table
removed n copy (Some heir) table = bequeathed n copy heir table

-- no row knows an update that is n or greater
abbrev pub AreBelow : ℕ → List Known → Type 0
AreBelow n table = (t : Known) (u : ℕ) → In t table → IsTrue (has t.set u) → u < n

-- the entry is greater than each number and touch of the table
abbrev pub IsAbove : ℕ → List Known → Type 0
IsAbove n table = (t : Known) → In t table → (t.copy < n) × (t.touch < n)

-- the copies, without the parcels
abbrev pub copies_of : List Known → List Known
copies_of table = filter (λ t. is_copy t.holder) table

-- how many parcels the copy holds
abbrev pub held_by : ℕ → List Known → ℕ
held_by copy table = count_by (λ t. is_held copy t.holder) table

-- a living copy is the holder, and doesn't know all of the set
pub record IsHeldBy (table : List Known) (holder : ℕ) (set : List ℕ) : Type 0 where
  pub by : Known
  pub living : In by table
  pub named : by.copy ≡ holder
  pub free : by.holder ≡ None
  pub lacks : ¬ IsSubset set by.set

-- each parcel is held by a living copy that doesn't know all of its set
abbrev pub AreHeld : List Known → Type 0
AreHeld table = (t : Known) (h : ℕ) → In t table → t.holder ≡ Some h → IsHeldBy table h t.set
