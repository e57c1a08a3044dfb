-- Entries that wait to be kept.
use Rattle.std.proofs.Common.{◌≡◌, ℕ, ◌+◌, ◌-◌, ◌<◌, ◌≤◌, ◌==◌, Bool, List, [], ◌∷◌, ◌++◌, length, take, drop, Option, Some, None, sym, ap, subst, ◌∙◌, length-append, take-append-drop, length-drop, arith}
use Rattle.std.proofs.lemmas.Bool.{ne_eqb}
use Rattle.std.proofs.lemmas.List.{take_all, drop_all, take-append-le, drop-append-le}
use Rattle.std.specs.Option.{option_to_list}
use Rattle.pana_journal.specs.declared.entry.Entry.{Entry}
use Rattle.pana_log.specs.declared.log.Log.{Log}
use Rattle.pana_log.specs.Device.{LeavesOnly}
use Rattle.pana_log.specs.Lines.{recovered, text_of, IsBeforeOrAfter}
use Rattle.pana_log.specs.Log.{IsSettled}
use Rattle.pana_log.proofs.Settled.{text_of-append}
use Rattle.pana_seal.specs.declared.sealer.Sealer.{Sealer}
use Rattle.pana_seal.specs.Seal.{Covers}
use Rattle.pana_wire.specs.inner.LongLine.{is_none, IsOpenLine}
use Rattle.pana_store.specs.Entries.{LoadsTo, LoadsEither, IsLineOf, IsSealedBehind}
use Rattle.pana_store.specs.inner.{SealsLike, IsSealer, IsWaiting, kept_of, waiting_of}
use Rattle.pana_store.specs.declared.pending.Pending.{Pending}
use Rattle.pana_store.proofs.Said.{loads_more, either_more}

-- ---- the line

pub some_bytes : (entries : List Entry) (line : List ℕ) → IsOpenLine entries line → 0 < length line
some_bytes entries line is = omega (arith, ap length is.text)

pub room_for_none : (line : List ℕ) → IsOpenLine [] line → length line + 79 ≤ 1048577
room_for_none line is = omega (arith, ap length is.text)

-- an entry is the first of a line where none waits
pub first_of : (entries : List Entry) (count : ℕ) → count ≡ length entries → (count == 0) ≡ is_none entries
first_of [] count is = ap (λ (n : ℕ). n == 0) is
first_of (e ∷ es) count is = ne_eqb count 0 (λ none. absurd (omega (arith, is, none)))

-- ---- the sealer

like_of : (sealer : Sealer) (seal : Option Sealer) → IsSealer sealer seal → SealsLike sealer seal
like_of sealer None is = tt
like_of sealer (Some seal) is = is

-- more entries wait behind them
pub more_wait : (sealer : Sealer) (waiting more : List Entry) (old new : Pending) → IsWaiting sealer waiting old → (SealsLike sealer old.seal → IsSealer sealer new.seal) → IsOpenLine (waiting ++ more) new.line → new.count ≡ old.count + length more → length new.line + 80 ≤ 1048577
    → IsWaiting sealer (waiting ++ more) new
more_wait sealer waiting more old new w seal line count room =
    let is : IsSealer sealer new.seal = seal w.like in
    record {
      line = line;
      counted = omega (arith, count, w.counted, length-append waiting more);
      like = like_of sealer new.seal is;
      sealed = λ some. is;
      room = omega (arith, room);
    }

pub at_most_one : (second : Option Entry) → length (option_to_list second) ≤ 1
at_most_one None = omega arith
at_most_one (Some entry) = omega arith

-- ---- the entries

pub length_waiting : (entries : List Entry) (p : Pending) → p.count ≤ length entries → length (waiting_of entries p) ≡ p.count
length_waiting entries p within = omega (arith, within, length-drop (length entries - p.count) entries)

pub all_entries : (entries : List Entry) (p : Pending) → kept_of entries p ++ waiting_of entries p ≡ entries
all_entries entries p = take-append-drop (length entries - p.count) entries

pub kept_all : (entries : List Entry) (p : Pending) → p.count ≡ 0 → kept_of entries p ≡ entries
kept_all entries p none = take_all (length entries - p.count) entries (omega (arith, none))

pub none_waits : (entries : List Entry) (p : Pending) → p.count ≡ 0 → waiting_of entries p ≡ []
none_waits entries p none = drop_all (length entries - p.count) entries (omega (arith, none))

pub kept_same : (entries : List Entry) (p q : Pending) → q.count ≡ p.count → kept_of entries q ≡ kept_of entries p
kept_same entries p q same = ap (λ (n : ℕ). take (length entries - n) entries) same

pub waiting_same : (entries : List Entry) (p q : Pending) → q.count ≡ p.count → waiting_of entries q ≡ waiting_of entries p
waiting_same entries p q same = ap (λ (n : ℕ). drop (length entries - n) entries) same

-- how many are kept, of more
at_more : (entries more : List Entry) (p q : Pending) → p.count ≤ length entries → q.count ≡ p.count + length more → length (entries ++ more) - q.count ≡ length entries - p.count
at_more entries more p q within count = omega (arith, within, count, length-append entries more)

pub kept_more : (entries more : List Entry) (p q : Pending) → p.count ≤ length entries → q.count ≡ p.count + length more → kept_of (entries ++ more) q ≡ kept_of entries p
kept_more entries more p q within count =
    ap (λ (n : ℕ). take n (entries ++ more)) (at_more entries more p q within count) ∙ take-append-le (length entries - p.count) entries more (omega arith)

pub waiting_more : (entries more : List Entry) (p q : Pending) → p.count ≤ length entries → q.count ≡ p.count + length more → waiting_of (entries ++ more) q ≡ waiting_of entries p ++ more
waiting_more entries more p q within count =
    ap (λ (n : ℕ). drop n (entries ++ more)) (at_more entries more p q within count) ∙ drop-append-le (length entries - p.count) entries more (omega arith)

-- ---- the file

module _ {D : Type 0} (seen : D → List ℕ) (may_leave : D → List ℕ → Type 0) (is_usable : D → Bool) (moment : D → ℕ) (left_since : D → ℕ → List ℕ → Type 0) where
  -- the line of the entries that wait is committed
  pub line_kept : (kept waiting : List Entry) (a b : Log D) (sealer_new : Sealer) (line : List ℕ) → LoadsTo kept (seen a.device) → IsLineOf waiting line → IsSealedBehind (text_of (recovered (seen a.device))) line
      → IsSettled seen may_leave is_usable b → recovered (seen b.device) ≡ recovered (seen a.device) ++ recovered line → Covers sealer_new (text_of (recovered (seen a.device)) ++ line)
      → LeavesOnly moment left_since a.device b.device (IsBeforeOrAfter (recovered (seen a.device)) (recovered line))
      → IsSettled seen may_leave is_usable b × LoadsTo (kept ++ waiting) (seen b.device) × Covers sealer_new (text_of (recovered (seen b.device))) × LeavesOnly moment left_since a.device b.device (LoadsEither kept (kept ++ waiting))
  line_kept kept waiting a b sealer_new line loads is sealed settled added grew run = (
    settled,
    loads_more kept waiting (seen a.device) line (seen b.device) loads is sealed added,
    subst (Covers sealer_new) (sym (ap text_of added ∙ text_of-append (recovered (seen a.device)) (recovered line) ∙ ap (λ (t : List ℕ). text_of (recovered (seen a.device)) ++ t) is.whole.same)) grew,
    either_more moment left_since a.device b.device (seen a.device) line kept waiting loads is sealed run,
  )
