-- Words that only inner functions and proofs need: nobody has to believe them.
use Rattle.std.specs.Prelude.{◌≡◌, ◌<◌, ◌≤◌, ◌+◌, ◌-◌, ◌^◌, ℕ, Bool, IsTrue, List, ◌++◌, length, take, drop, Option, Some, None}
use Rattle.pana_journal.specs.declared.entry.Entry.{Entry}
use Rattle.pana_log.specs.declared.log.Log.{Log}
use Rattle.pana_log.specs.Device.{LeavesOnly}
use Rattle.pana_log.specs.Lines.{recovered, text_of}
use Rattle.pana_log.specs.Log.{IsSettled}
use Rattle.pana_seal.specs.declared.sealer.Sealer.{Sealer}
use Rattle.pana_seal.specs.Seal.{Covers}
use Rattle.pana_wire.specs.inner.LongLine.{IsOpenLine}
use Rattle.pana_store.specs.declared.pending.Pending.{Pending}
use Rattle.pana_log.specs.declared.log_state.LogState.TheVariants.{Open}
use Rattle.pana_store.specs.Entries.{LoadsTo, LoadsEither}
use Rattle.pana_store.specs.Store.{IsKept, StoreView}
use Rattle.pana_calls.specs.declared.cause.Cause.TheVariants.{OutOfMemory}
use Rattle.pana_calls.specs.declared.reply.Reply.TheVariants.{Refused}
use Rattle.pana_calls.specs.declared.answer.Answer.{Answer}
use Rattle.pana_calls.specs.declared.answer.Answer.TheVariants.{Given, NotKept}
use Rattle.pana_store.specs.declared.open_fault.OpenFault.{OpenFault}
use Rattle.pana_store.specs.declared.open_fault.OpenFault.TheVariants as opens
use Rattle.pana_seal.specs.declared.seal_fault.SealFault.{SealFault}
use Rattle.pana_seal.specs.declared.seal_fault.SealFault.TheVariants as seals
use Rattle.pana_log.specs.declared.device_fault.DeviceFault.{DeviceFault}
use Rattle.pana_log.specs.declared.device_fault.DeviceFault.TheVariants as devices

-- a fault of seals as one of opening
abbrev pub open_fault_of : SealFault → OpenFault
open_fault_of (seals.Damaged number) = opens.Damaged number
open_fault_of seals.OutOfMemory = opens.OutOfMemory

-- the answer to a call whose line the device doesn't take
abbrev pub answer_to : DeviceFault → Answer
answer_to devices.OutOfMemory = Given (Refused OutOfMemory)
answer_to _ = NotKept

-- the sealer has taken up what this one has, which there may be
abbrev pub SealsLike : Sealer → Option Sealer → Type 0
SealsLike sealer None = Unit {0}
SealsLike sealer (Some seal) = (before : List ℕ) → Covers sealer before → Covers seal before

-- which there is
abbrev pub IsSealer : Sealer → Option Sealer → Type 0
IsSealer sealer None = ⊥
IsSealer sealer (Some seal) = (before : List ℕ) → Covers sealer before → Covers seal before

-- these entries wait, behind what the sealer has taken up
pub record IsWaiting (sealer : Sealer) (waiting : List Entry) (pending : Pending) : Type 0 where
  pub line : IsOpenLine waiting pending.line
  pub counted : pending.count ≡ length waiting
  pub like : SealsLike sealer pending.seal
  pub sealed : 0 < length waiting → IsSealer sealer pending.seal
  pub room : length pending.line + 79 ≤ 1048577

-- where entries wait, the bytes behind the closed gate are as many as their line has so far, and the lines aren't too long for more
abbrev pub HasRoomFor : {D : Type 0} → (D → List ℕ) → Pending → Log D → Type 0
HasRoomFor seen pending log = 0 < pending.count → (log.end + length pending.line ≤ length (seen log.device)) × (log.end ≤ 2 ^ 60)

-- the entries that wait are kept by one line more
abbrev pub CommitsLine : {D : Type 0} → Bool → (D → List ℕ) → (D → List ℕ → Type 0) → (D → Bool) → (D → ℕ) → (D → ℕ → List ℕ → Type 0) → Log D → Log D → Sealer → Sealer → Pending → Type 0
CommitsLine is_known seen may_leave is_usable moment left_since old new sealer sealer_new pending = IsTrue is_known → (kept : List Entry) → (waiting : List Entry) → IsWaiting sealer waiting pending → (0 < length waiting)
    → LoadsTo kept (seen old.device) → Covers sealer (text_of (recovered (seen old.device)))
    → IsSettled seen may_leave is_usable new × LoadsTo (kept ++ waiting) (seen new.device) × Covers sealer_new (text_of (recovered (seen new.device)))
    × LeavesOnly moment left_since old.device new.device (LoadsEither kept (kept ++ waiting))

-- they may be kept or not
abbrev pub LosesLine : {D : Type 0} → Bool → (D → List ℕ) → (D → ℕ) → (D → ℕ → List ℕ → Type 0) → Log D → Log D → Sealer → Pending → Type 0
LosesLine is_known seen moment left_since old new sealer pending = IsTrue is_known → (kept : List Entry) → (waiting : List Entry) → IsWaiting sealer waiting pending → (0 < length waiting)
    → LoadsTo kept (seen old.device) → Covers sealer (text_of (recovered (seen old.device))) → LeavesOnly moment left_since old.device new.device (LoadsEither kept (kept ++ waiting))

-- the entries of a hall that aren't kept yet, and those before them
abbrev pub waiting_of : List Entry → Pending → List Entry
waiting_of entries pending = drop (length entries - pending.count) entries

abbrev pub kept_of : List Entry → Pending → List Entry
kept_of entries pending = take (length entries - pending.count) entries

-- what contracts see of a store
abbrev pub store_of : {D : Type 0} → List Entry → Log D → Sealer → Pending → StoreView D
store_of entries log sealer pending = record { entries = entries; kept = kept_of entries pending; log = log; sealer = sealer }

-- the parts of a store: no more wait than there are; the file has the others; and while the log is open, those that wait stand in
-- the line, and there is room for it
pub record IsStore {D : Type 0} (is_known : Bool) (seen : D → List ℕ) (may_leave : D → List ℕ → Type 0) (is_usable : D → Bool) (entries : List Entry) (log : Log D) (sealer : Sealer) (pending : Pending) : Type 0 where
  pub within : pending.count ≤ length entries
  pub few : pending.count ≤ 1000
  pub file : IsTrue is_known → IsKept seen may_leave is_usable (record { entries = kept_of entries pending; log = log; sealer = sealer })
  pub waits : log.state ≡ Open → IsWaiting sealer (waiting_of entries pending) pending
  pub behind : IsTrue is_known → log.state ≡ Open → HasRoomFor seen pending log
