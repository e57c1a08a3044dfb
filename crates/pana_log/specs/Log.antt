-- The states of a log between two calls.
use Rattle.std.specs.Prelude.{◌≡◌, ℕ, Bool, IsTrue, List, length}
use Rattle.pana_log.specs.declared.log.Log.{Log}
use Rattle.pana_log.specs.Device.{Only}
use Rattle.pana_log.specs.Lines.{recovered, text_of, closed, staged, Begins}

-- What is read is what a crash leaves, as after a restart.
pub record IsDurable {D : Type 0} (seen : D → List ℕ) (may_leave : D → List ℕ → Type 0) (is_usable : D → Bool) (device : D) : Type 0 where
  pub only : Only (seen device) (may_leave device)
  pub usable : IsTrue (is_usable device)

-- The file begins with its lines and a closed gate, and so does each that a crash may leave. Behind the gate may be
-- anything.
pub record IsSettled {D : Type 0} (seen : D → List ℕ) (may_leave : D → List ℕ → Type 0) (is_usable : D → Bool) (log : Log D) : Type 0 where
  pub is_end : log.end ≡ length (text_of (recovered (seen log.device)))
  pub file : Begins (closed (recovered (seen log.device))) (seen log.device)
  pub durable : (c : List ℕ) → may_leave log.device c → Begins (closed (recovered (seen log.device))) c
  pub usable : IsTrue (is_usable log.device)

-- Behind the closed gate stands the text but for its first byte. A crash may lose it.
pub record IsWritten {D : Type 0} (seen : D → List ℕ) (may_leave : D → List ℕ → Type 0) (is_usable : D → Bool) (text : List ℕ) (log : Log D) : Type 0 where
  pub is_end : log.end ≡ length (text_of (recovered (seen log.device)))
  pub file : Begins (staged (recovered (seen log.device)) text) (seen log.device)
  pub durable : (c : List ℕ) → may_leave log.device c → Begins (closed (recovered (seen log.device))) c
  pub usable : IsTrue (is_usable log.device)

-- Behind the closed gate stands the text but for its first byte, and no crash loses it.
pub record IsStaged {D : Type 0} (seen : D → List ℕ) (may_leave : D → List ℕ → Type 0) (is_usable : D → Bool) (text : List ℕ) (log : Log D) : Type 0 where
  pub is_end : log.end ≡ length (text_of (recovered (seen log.device)))
  pub file : Begins (staged (recovered (seen log.device)) text) (seen log.device)
  pub durable : (c : List ℕ) → may_leave log.device c → Begins (staged (recovered (seen log.device)) text) c
  pub usable : IsTrue (is_usable log.device)
