-- A log between its calls.
use Rattle.std.proofs.Common.{◌≡◌, ℕ, ◌+◌, ◌<◌, Bool, IsTrue, List, [], ◌∷◌, ◌++◌, length, get_or, drop, refl, sym, ◌∙◌, ap, subst, arith, append_assoc, length-append}
use Rattle.std.proofs.lemmas.Bool.Decides.{nat_tests}
use Rattle.pana_log.specs.declared.log.Log.{Log}
use Rattle.pana_log.specs.Device.{Holds, Torn}
use Rattle.pana_log.specs.Lines.{recovered, text_of, closed, staged, AreLines, Begins, IsWhole, IsBeforeOrAfter}
use Rattle.pana_log.specs.Log.{IsSettled, IsStaged, IsWritten}
use Rattle.pana_log.proofs.Prefixes.{begins_split, begins_less, begins_gate, begins_holds, begins_set}
use Rattle.pana_log.proofs.Recovered.{recovered-closed, recovered_gate, are_recovered}

pub length-closed : (ls : List (List ℕ)) → length (closed ls) ≡ length (text_of ls) + 1
length-closed ls = omega (arith, length-append (text_of ls) (0 ∷ []))

pub text_of-append : (ls more : List (List ℕ)) → text_of (ls ++ more) ≡ text_of ls ++ text_of more
text_of-append [] more = refl
text_of-append (l ∷ ls) more = ap (λ (t : List ℕ). l ++ 10 ∷ t) (text_of-append ls more) ∙ sym (append_assoc l (10 ∷ text_of ls) (text_of more))

pub AreLines-append : (ls more : List (List ℕ)) → AreLines ls → AreLines more → AreLines (ls ++ more)
AreLines-append [] more are are_more = are_more
AreLines-append (l ∷ ls) more are are_more = (are.0, are.1, AreLines-append ls more are.2 are_more)

-- a whole text begins with a gate
text_gate : (ls : List (List ℕ)) (text : List ℕ) → AreLines ls → 0 < length text → text_of ls ≡ text → text ≡ 123 ∷ drop 1 text
text_gate [] text are some same = absurd (omega (arith, some, ap length same))
text_gate ([] ∷ ls) text are some same = absurd (cc are.0)
text_gate ((b ∷ l) ∷ ls) text are some same =
    let open_gate : b ≡ 123 = grind (arith, nat_tests, are.0) in
    sym same ∙ ap (λ (x : ℕ). x ∷ (l ++ 10 ∷ text_of ls)) open_gate ∙ ap (λ (t : List ℕ). 123 ∷ drop 1 t) same

pub gate_of : (text : List ℕ) → IsWhole text → text ≡ 123 ∷ drop 1 text
gate_of text whole = text_gate (recovered text) text (are_recovered text) whole.some whole.same

pub length_of : (text : List ℕ) → IsWhole text → length text ≡ length (drop 1 text) + 1
length_of text whole = omega (arith, ap length (gate_of text whole))

-- what is staged is closed
pub begins_closed : (ls : List (List ℕ)) (text c : List ℕ) → Begins (staged ls text) c → Begins (closed ls) c
begins_closed ls text c begins = begins_less (closed ls) (drop 1 text ++ 0 ∷ []) c (subst (λ (f : List ℕ). Begins f c) (sym (append_assoc (text_of ls) (0 ∷ []) (drop 1 text ++ 0 ∷ []))) begins)

pub recovered-staged : (file text c : List ℕ) → Begins (staged (recovered file) text) c → recovered c ≡ recovered file
recovered-staged file text c begins = recovered-closed (recovered file) c (are_recovered file) (begins_closed (recovered file) text c begins)

pub recovered_same : (file c : List ℕ) → Begins (closed (recovered file)) c → recovered c ≡ recovered file
recovered_same file c begins = recovered-closed (recovered file) c (are_recovered file) begins

-- two writes behind the gate
pub begins_written : (ls : List (List ℕ)) (text file one two : List ℕ) (end : ℕ) → IsWhole text → end ≡ length (text_of ls) → Begins (closed ls) file → Holds file (end + 1) (drop 1 text) one → Holds one (end + length text) (0 ∷ []) two → Begins (staged ls text) two
begins_written ls text file one two end whole is_end begins first second =
    let rest = drop 1 text in
    let behind = begins_holds (closed ls) rest file one (end + 1) (omega (arith, is_end, length-closed ls)) begins first in
    let both = begins_holds (closed ls ++ rest) (0 ∷ []) one two (end + length text) (omega (arith, is_end, length_of text whole, length-closed ls, length-append (closed ls) rest)) behind second in
    subst (λ (f : List ℕ). Begins f two) (append_assoc (closed ls) rest (0 ∷ []) ∙ append_assoc (text_of ls) (0 ∷ []) (rest ++ 0 ∷ [])) both

-- and then the gate
pub begins_opened : (ls : List (List ℕ)) (text old new : List ℕ) (end : ℕ) → IsWhole text → end ≡ length (text_of ls) → Begins (staged ls text) old → Holds old end (123 ∷ []) new → Begins (closed (ls ++ recovered text)) new
begins_opened ls text old new end whole is_end begins holds =
    let more = recovered text in
    let rest = drop 1 text in
    let set = begins_set (text_of ls) (rest ++ 0 ∷ []) old new 0 123 end is_end begins holds in
    let gate : text_of more ≡ 123 ∷ rest = whole.same ∙ gate_of text whole in
    let same : text_of ls ++ (123 ∷ (rest ++ 0 ∷ [])) ≡ closed (ls ++ more) = ap (λ (t : List ℕ). text_of ls ++ (t ++ 0 ∷ [])) (sym gate) ∙ sym (append_assoc (text_of ls) (text_of more) (0 ∷ [])) ∙ ap (λ (t : List ℕ). t ++ 0 ∷ []) (sym (text_of-append ls more)) in
    subst (λ (f : List ℕ). Begins f new) same set

-- the gate torn
pub gate_crash : (file text old new : List ℕ) (end : ℕ) → IsWhole text → end ≡ length (text_of (recovered file)) → Begins (staged (recovered file) text) old → Torn end 1 old new → IsBeforeOrAfter (recovered file) (recovered text) new
gate_crash file text old new end whole is begins torn =
    let ls = recovered file in
    let rest = drop 1 text in
    let b = get_or new end 0 in
    let stands = begins_gate (text_of ls) (rest ++ 0 ∷ []) old new 0 end is begins torn in
    let z = drop (length (text_of ls ++ (b ∷ (rest ++ 0 ∷ [])))) new in
    let new_is : new ≡ text_of ls ++ (b ∷ (rest ++ 0 ∷ z)) =
    begins_split _ new stands ∙ append_assoc (text_of ls) (b ∷ (rest ++ 0 ∷ [])) z ∙ ap (λ (l : List ℕ). text_of ls ++ (b ∷ l)) (append_assoc rest (0 ∷ []) z) in
    subst (IsBeforeOrAfter ls (recovered text)) (sym new_is) (recovered_gate ls (recovered text) rest z b (are_recovered file) (are_recovered text) (whole.same ∙ gate_of text whole))

module _ {D : Type 0} (seen : D → List ℕ) (may_leave : D → List ℕ → Type 0) (is_usable : D → Bool) where
  -- settled at these lines
  pub settled_at : (ls : List (List ℕ)) (log : Log D) → AreLines ls → log.end ≡ length (text_of ls) → Begins (closed ls) (seen log.device)
      → ((c : List ℕ) → may_leave log.device c → Begins (closed ls) c) → IsTrue (is_usable log.device) → IsSettled seen may_leave is_usable log
  settled_at ls log are is_end file durable usable =
      let same = recovered-closed ls (seen log.device) are file in
      record {
        is_end = is_end ∙ ap (λ (l : List (List ℕ)). length (text_of l)) (sym same);
        file = subst (λ (l : List (List ℕ)). Begins (closed l) (seen log.device)) (sym same) file;
        durable = λ c left. subst (λ (l : List (List ℕ)). Begins (closed l) c) (sym same) (durable c left);
        usable = usable;
      }

  pub written_at : (file text : List ℕ) (log : Log D) → recovered (seen log.device) ≡ recovered file → log.end ≡ length (text_of (recovered file)) → Begins (staged (recovered file) text) (seen log.device)
      → ((c : List ℕ) → may_leave log.device c → Begins (closed (recovered file)) c) → IsTrue (is_usable log.device) → IsWritten seen may_leave is_usable text log
  written_at file text log same is_end begins durable usable = record {
    is_end = is_end ∙ ap (λ (l : List (List ℕ)). length (text_of l)) (sym same);
    file = subst (λ (l : List (List ℕ)). Begins (staged l text) (seen log.device)) (sym same) begins;
    durable = λ c left. subst (λ (l : List (List ℕ)). Begins (closed l) c) (sym same) (durable c left);
    usable = usable;
  }
