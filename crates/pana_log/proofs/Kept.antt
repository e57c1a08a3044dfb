-- Runs of calls that keep the lines of a file.
use Rattle.std.proofs.Common.{◌≡◌, ℕ, ◌≤◌, Bool, IsTrue, List, length, sym, subst}
use Rattle.pana_log.specs.declared.log.Log.{Log}
use Rattle.pana_log.specs.Device.{Torn, Follows, Elapses, LeavesOnly}
use Rattle.pana_log.specs.Lines.{recovered, text_of, closed, Begins}
use Rattle.pana_log.specs.Log.{IsSettled}
use Rattle.pana_log.proofs.Moments.{started, goes_on}
use Rattle.pana_log.proofs.Prefixes.{begins_torn}
use Rattle.pana_log.proofs.Recovered.{are_recovered}
use Rattle.pana_log.proofs.Settled.{recovered_same, settled_at}

-- since old, a crash has left the lines of this file, and now it begins with them and a closed gate
pub record Keeps {D : Type 0} (seen : D → List ℕ) (may_leave : D → List ℕ → Type 0) (is_usable : D → Bool) (moment : D → ℕ) (left_since : D → ℕ → List ℕ → Type 0) (file : List ℕ) (old new : D) : Type 0 where
  pub now : Begins (closed (recovered file)) (seen new)
  pub durable : (c : List ℕ) → may_leave new c → Begins (closed (recovered file)) c
  pub usable : IsTrue (is_usable new)
  pub so_far : LeavesOnly moment left_since old new (λ c. recovered c ≡ recovered file)

pub keeps_start : {D : Type 0} (seen : D → List ℕ) (may_leave : D → List ℕ → Type 0) (is_usable : D → Bool) (moment : D → ℕ) (left_since : D → ℕ → List ℕ → Type 0) (log : Log D) → IsSettled seen may_leave is_usable log
    → ((c : List ℕ) → left_since log.device (moment log.device) c → may_leave log.device c) → Keeps seen may_leave is_usable moment left_since (seen log.device) log.device log.device
keeps_start seen may_leave is_usable moment left_since log s only_now = record {
  now = s.file;
  durable = s.durable;
  usable = s.usable;
  so_far = started moment left_since log.device (λ c. recovered c ≡ recovered (seen log.device)) (λ c left. recovered_same (seen log.device) c (s.durable c (only_now c left)));
}

-- a write behind the gate
pub keeps_torn : {D : Type 0} {seen : D → List ℕ} {may_leave : D → List ℕ → Type 0} {is_usable : D → Bool} {moment : D → ℕ} {left_since : D → ℕ → List ℕ → Type 0} {file : List ℕ} {old mid : D}
    → Keeps seen may_leave is_usable moment left_since file old mid → (new : D) (at n : ℕ) → length (closed (recovered file)) ≤ at → Torn at n (seen mid) (seen new) → Follows (Torn at n) (may_leave mid) (may_leave new)
    → is_usable new ≡ is_usable mid → Elapses (moment mid) (moment new) (left_since mid) (left_since new) (may_leave new) → Keeps seen may_leave is_usable moment left_since file old new
keeps_torn {seen = seen} {may_leave = may_leave} {moment = moment} {left_since = left_since} {file = file} {old = old} {mid = mid} k new at n far torn follows usable time =
    let durable : (c : List ℕ) → may_leave new c → Begins (closed (recovered file)) c = λ c left. let from = follows c left in begins_torn (closed (recovered file)) from.0 c at n far (k.durable from.0 from.1) from.2 in
    record {
      now = begins_torn (closed (recovered file)) (seen mid) (seen new) at n far k.now torn;
      durable = durable;
      usable = subst IsTrue (sym usable) k.usable;
      so_far = goes_on moment left_since old mid new (λ c. recovered c ≡ recovered file) (may_leave new) k.so_far time (λ c left. recovered_same file c (durable c left));
    }

-- a call that adds no outcome
pub keeps_on : {D : Type 0} {seen : D → List ℕ} {may_leave : D → List ℕ → Type 0} {is_usable : D → Bool} {moment : D → ℕ} {left_since : D → ℕ → List ℕ → Type 0} {file : List ℕ} {old mid : D}
    → Keeps seen may_leave is_usable moment left_since file old mid → (new : D) → ((c : List ℕ) → may_leave new c → may_leave mid c)
    → Elapses (moment mid) (moment new) (left_since mid) (left_since new) (may_leave new) → LeavesOnly moment left_since old new (λ c. recovered c ≡ recovered file)
keeps_on {may_leave = may_leave} {moment = moment} {left_since = left_since} {file = file} {old = old} {mid = mid} k new fewer time =
    goes_on moment left_since old mid new (λ c. recovered c ≡ recovered file) (may_leave new) k.so_far time (λ c left. recovered_same file c (k.durable c (fewer c left)))

pub keeps_same : {D : Type 0} {seen : D → List ℕ} {may_leave : D → List ℕ → Type 0} {is_usable : D → Bool} {moment : D → ℕ} {left_since : D → ℕ → List ℕ → Type 0} {file : List ℕ} {old new : D}
    → Keeps seen may_leave is_usable moment left_since file old new → recovered (seen new) ≡ recovered file
keeps_same {seen = seen} {file = file} {new = new} k = recovered_same file (seen new) k.now

pub keeps_settled : {D : Type 0} {seen : D → List ℕ} {may_leave : D → List ℕ → Type 0} {is_usable : D → Bool} {moment : D → ℕ} {left_since : D → ℕ → List ℕ → Type 0} {file : List ℕ} {old : D}
    → (log : Log D) → Keeps seen may_leave is_usable moment left_since file old log.device → log.end ≡ length (text_of (recovered file)) → IsSettled seen may_leave is_usable log
keeps_settled {seen = seen} {may_leave = may_leave} {is_usable = is_usable} {file = file} log k is_end =
    settled_at seen may_leave is_usable (recovered file) log (are_recovered file) is_end k.now k.durable k.usable
