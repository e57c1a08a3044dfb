-- What lines say, and prefixes of it.
use Rattle.std.proofs.Common.{◌≡◌, inl, inr, ⊎_elim, ℕ, ◌≤◌, Bool, List, [], ◌∷◌, ◌++◌, length, take, refl, sym, ◌∙◌, ap, subst, arith, append_assoc, append-nil, length-append}
use Rattle.std.proofs.lemmas.List.{take_at, take-append-le}
use Rattle.pana_journal.specs.declared.entry.Entry.{Entry}
use Rattle.pana_log.specs.declared.log.Log.{Log}
use Rattle.pana_log.specs.Device.{LeavesOnly}
use Rattle.pana_log.specs.Lines.{recovered, text_of, IsBeforeOrAfter}
use Rattle.pana_log.specs.Log.{IsSettled}
use Rattle.pana_log.proofs.Moments.{started}
use Rattle.pana_log.proofs.Settled.{recovered_same}
use Rattle.pana_wire.specs.DumpLines.{Say}
use Rattle.pana_seal.specs.Seal.{IsIntact}
use Rattle.pana_seal.proofs.Intact.{intact_more}
use Rattle.pana_store.specs.Entries.{LoadsTo, LoadsFirst, LoadsEither, IsLineOf, IsSealedBehind}

pub say_append : (ls ms : List (List ℕ)) (es fs : List Entry) → Say ls es → Say ms fs → Say (ls ++ ms) (es ++ fs)
say_append [] ms es fs none says = subst (λ (xs : List Entry). Say ms (xs ++ fs)) (sym none) says
say_append (l ∷ ls) ms es fs (first, rest, line, others, whole) says =
    (first, rest ++ fs, line, say_append ls ms rest fs others says, ap (λ (xs : List Entry). xs ++ fs) whole ∙ append_assoc first rest fs)

pub loads_same : (es : List Entry) (file other : List ℕ) → recovered other ≡ recovered file → LoadsTo es file → LoadsTo es other
loads_same es file other same loads = (subst (λ (ls : List (List ℕ)). Say ls es) (sym same) loads.0, subst IsIntact (sym same) loads.1)

-- one line more
pub loads_more : (es more : List Entry) (old text file : List ℕ) → LoadsTo es old → IsLineOf more text → IsSealedBehind (text_of (recovered old)) text → recovered file ≡ recovered old ++ recovered text → LoadsTo (es ++ more) file
loads_more es more old text file loads line sealed after =
    let says : Say (recovered text) more = subst (λ (ls : List (List ℕ)). Say ls more) (sym line.one) (more, [], line.says, refl, sym (append-nil more)) in (
      subst (λ (ls : List (List ℕ)). Say ls (es ++ more)) (sym after) (say_append (recovered old) (recovered text) es more loads.0 says),
      subst IsIntact (sym (after ∙ ap (λ (ls : List (List ℕ)). recovered old ++ ls) sealed.1)) (intact_more (recovered old) sealed.0 loads.1 (λ due. sealed.2)),
    )

-- a file that loads to a prefix of the entries
pub loads_prefix : (least : ℕ) (kept rest es : List Entry) (file : List ℕ) → es ≡ kept ++ rest → least ≤ length kept → LoadsTo kept file → LoadsFirst least es file
loads_prefix least kept rest es file is within loads = (
  length kept,
  within,
  omega (arith, ap length is, length-append kept rest),
  subst (λ (xs : List Entry). LoadsTo xs file) (sym (ap (take (length kept)) is ∙ take_at kept rest (length kept) refl)) loads,
)

-- one line more may be there or not
loads_either : (es more : List Entry) (old text file : List ℕ) → LoadsTo es old → IsLineOf more text → IsSealedBehind (text_of (recovered old)) text → IsBeforeOrAfter (recovered old) (recovered text) file → LoadsEither es (es ++ more) file
loads_either es more old text file loads line sealed (inl before) = inl (loads_same es old file before loads)
loads_either es more old text file loads line sealed (inr after) = inr (loads_more es more old text file loads line sealed after)

pub loads_grown : (least : ℕ) (es more : List Entry) (file : List ℕ) → LoadsFirst least es file → LoadsFirst least (es ++ more) file
loads_grown least es more file loads =
    (loads.0, loads.1, omega (arith, loads.2, length-append es more), subst (λ (xs : List Entry). LoadsTo xs file) (sym (take-append-le loads.0 es more loads.2)) loads.3)

module _ {D : Type 0} (moment : D → ℕ) (left_since : D → ℕ → List ℕ → Type 0) where
  -- over a call that leaves the device alone
  pub either_start : (seen : D → List ℕ) (may_leave : D → List ℕ → Type 0) (is_usable : D → Bool) (log : Log D) (es : List Entry) → IsSettled seen may_leave is_usable log → LoadsTo es (seen log.device)
      → ((c : List ℕ) → left_since log.device (moment log.device) c → may_leave log.device c) → LeavesOnly moment left_since log.device log.device (LoadsEither es es)
  either_start seen may_leave is_usable log es settled loads only_now =
      started moment left_since log.device (LoadsEither es es)
      (λ f left. inl (loads_same es (seen log.device) f (recovered_same (seen log.device) f (settled.durable f (only_now f left))) loads))

  weaker : (a b : D) (P Q : List ℕ → Type 0) → ((f : List ℕ) → P f → Q f) → LeavesOnly moment left_since a b P → LeavesOnly moment left_since a b Q
  weaker a b P Q from run = record {
    later = run.later;
    each = λ f left. from f (run.each f left);
    before = λ t f le left. ⊎_elim (λ was. inl was) (λ p. inr (from f p)) (run.before t f le left);
  }

  -- a line that is only staged
  pub either_same : (a b : D) (seen_a : List ℕ) (es : List Entry) → LoadsTo es seen_a → LeavesOnly moment left_since a b (λ f. recovered f ≡ recovered seen_a) → LeavesOnly moment left_since a b (LoadsEither es es)
  either_same a b seen_a es loads run = weaker a b (λ f. recovered f ≡ recovered seen_a) (LoadsEither es es) (λ f same. inl (loads_same es seen_a f same loads)) run

  -- a line that is committed, or not
  pub either_more : (a b : D) (seen_a line : List ℕ) (es more : List Entry) → LoadsTo es seen_a → IsLineOf more line → IsSealedBehind (text_of (recovered seen_a)) line → LeavesOnly moment left_since a b (IsBeforeOrAfter (recovered seen_a) (recovered line))
      → LeavesOnly moment left_since a b (LoadsEither es (es ++ more))
  either_more a b seen_a line es more loads is sealed run = weaker a b (IsBeforeOrAfter (recovered seen_a) (recovered line)) (LoadsEither es (es ++ more)) (λ f p. loads_either es more seen_a line f loads is sealed p) run
