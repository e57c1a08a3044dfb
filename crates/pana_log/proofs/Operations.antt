-- One more operation of a device in memory.
use Rattle.std.proofs.Common.{◌≡◌, inl, inr, ⊎_elim, ℕ, ◌+◌, ◌≤◌, List, [], ◌∷◌, ◌++◌, length, take, drop, Vec, refl, sym, ◌∙◌, ap, subst, arith, append_assoc, length-append, length-take, length-drop}
use Rattle.std.proofs.lemmas.List.{take_at, take_all, drop_at, take-append-le}
use Rattle.std.proofs.lemmas.Bool.{cases_lt}
use Rattle.std.specs.declared.alloc.Global.{Global}
use Rattle.pana_log.specs.declared.operation.Operation.{Operation}
use Rattle.pana_log.specs.declared.operation.Operation.TheVariants.{Write, Cut, Sync}
use Rattle.pana_log.specs.Device.{Holds, Torn, IsCut, Follows, Only, Elapses}
use Rattle.pana_log.specs.Operations.{file_after, LeftAfter, file_of, Left, MayLeave, LeftSince}

pub file_of-push : (file : List ℕ) (operations : List Operation) (operation : Operation) → file_of file (operations ++ operation ∷ []) ≡ file_after operation (file_of file operations)
file_of-push file [] operation = refl
file_of-push file (x ∷ operations) operation = file_of-push (file_after x file) operations operation

left-push : (file : List ℕ) (left : List ℕ → Type 0) (operations : List Operation) (operation : Operation) (c : List ℕ) → Left file left (operations ++ operation ∷ []) c → LeftAfter operation (file_of file operations) (Left file left operations) c
left-push file left [] operation c l = l
left-push file left (x ∷ operations) operation c l = left-push (file_after x file) (LeftAfter x file left) operations operation c l

done : (operation : Operation) (file : List ℕ) (left : List ℕ → Type 0) → LeftAfter operation file left (file_after operation file)
done (Write at bytes) file left = inl refl
done (Cut len) file left = inl refl
done Sync file left = refl

-- what is read is one of the outcomes
possible : (file : List ℕ) (left : List ℕ → Type 0) (operations : List Operation) → left file → Left file left operations (file_of file operations)
possible file left [] here = here
possible file left (operation ∷ operations) here = possible (file_after operation file) (LeftAfter operation file left) operations (done operation file left)

pub torn_written : (at : ℕ) (bytes old new : List ℕ) → at ≤ length old → Holds old at bytes new → Torn at (length bytes) old new
torn_written at bytes old new within holds =
    let head : length (take at old) ≡ at = omega (arith, length-take at old, within) in
    let long : length new ≡ at + length bytes + length (drop (at + length bytes) old) = omega (arith, ap length holds, length-append (take at old ++ bytes) (drop (at + length bytes) old), length-append (take at old) bytes, head) in
    record {
      before = ap (λ (l : List ℕ). take at l) (holds ∙ append_assoc (take at old) bytes (drop (at + length bytes) old)) ∙ take_at (take at old) (bytes ++ drop (at + length bytes) old) at head;
      after = ap (λ (l : List ℕ). drop (at + length bytes) l) holds ∙ drop_at (take at old ++ bytes) (drop (at + length bytes) old) (at + length bytes) (omega (arith, head, length-append (take at old) bytes));
      no_shorter = omega (arith, long, length-drop (at + length bytes) old);
      no_longer = omega (arith, long, length-drop (at + length bytes) old);
    }

cut_whole : (n : ℕ) (old : List ℕ) → n ≤ length old → IsCut n old (take n old)
cut_whole n old within =
    let long : length (take n old) ≡ n = omega (arith, length-take n old, within) in
    record { no_shorter = omega (arith, long, within); prefix = ap (λ (k : ℕ). take k old) long }

pub cut_same : (n : ℕ) (file : List ℕ) → IsCut n file file
cut_same n file = record { no_shorter = omega arith; prefix = take_all (length file) file (omega arith) }

module _ (first : List ℕ) (operations : List Operation) where
  abbrev now : List ℕ
  now = file_of first operations

  pub write_follows : (at : ℕ) (bytes : Vec ℕ Global) → at ≤ length now → Follows (Torn at (length bytes.items)) (MayLeave first operations) (MayLeave first (operations ++ Write at bytes ∷ []))
  write_follows at bytes within c left =
      ⊎_elim (λ is. (now, possible first (λ d. d ≡ first) operations refl, torn_written at bytes.items now c within is)) (λ from. from) (left-push first (λ d. d ≡ first) operations (Write at bytes) c left)

  pub cut_follows : (n : ℕ) → n ≤ length now → Follows (IsCut n) (MayLeave first operations) (MayLeave first (operations ++ Cut n ∷ []))
  cut_follows n within c left =
      ⊎_elim (λ is. (now, possible first (λ d. d ≡ first) operations refl, subst (IsCut n now) (sym is) (cut_whole n now within))) (λ from. from) (left-push first (λ d. d ≡ first) operations (Cut n) c left)

  pub sync_only : Only now (MayLeave first (operations ++ Sync ∷ []))
  sync_only c left = left-push first (λ d. d ≡ first) operations Sync c left

  pub sync_follows : (c : List ℕ) → MayLeave first (operations ++ Sync ∷ []) c → MayLeave first operations c
  sync_follows c left = subst (MayLeave first operations) (sym (sync_only c left)) (possible first (λ d. d ≡ first) operations refl)

  pub elapses_push : (operation : Operation) → Elapses (length operations) (length (operations ++ operation ∷ [])) (LeftSince first operations) (LeftSince first (operations ++ operation ∷ [])) (MayLeave first (operations ++ operation ∷ []))
  elapses_push operation = record {
    later = omega (arith, length-append operations (operation ∷ []));
    nothing_else = λ t c le left. ⊎_elim (λ past. inr (subst (λ (l : List Operation). MayLeave first l c) (take_all left.0 (operations ++ operation ∷ []) (omega (arith, past, length-append operations (operation ∷ [])))) left.3))
        (λ within. inl (left.0, left.1, within, subst (λ (l : List Operation). MayLeave first l c) (take-append-le left.0 operations (operation ∷ []) within) left.3)) (cases_lt (length operations) left.0);
    keeps = λ t c le left. (left.0, left.1, omega (arith, left.2, length-append operations (operation ∷ [])), subst (λ (l : List Operation). MayLeave first l c) (sym (take-append-le left.0 operations (operation ∷ []) left.2)) left.3);
  }

-- the same where the device has changed as `record` says
module _ (first first' : List ℕ) (operations operations' : List Operation) (same : first' ≡ first) where
  pub moved : (P : List ℕ → List Operation → Type 0) (later : List Operation) → operations' ≡ later → P first later → P first' operations'
  moved P later is p = subst (λ (f : List ℕ). P f operations') (sym same) (subst (λ (l : List Operation). P first l) (sym is) p)
