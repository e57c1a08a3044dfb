-- What reading gives is what running over the bytes gives, part by part.
use Rattle.std.proofs.Common.{◌≡◌, ℕ, zero, suc, ◌+◌, ◌-◌, ◌*◌, List, [], ◌∷◌, ◌++◌, Option, Some, None, refl, sym, ap, ◌∙◌, subst, arith, Result, Ok, Err, inl, inr}
use Rattle.std.specs.Prelude.{◌==◌, ⊤}
use Rattle.std.proofs.lemmas.Bool.{eqb-true}
use Rattle.pana_text.specs.declared.fault.TextFault.{TextFault}
use Rattle.pana_text.specs.declared.fault.TextFault.TheVariants.{TooDeep}
use Rattle.pana_text.specs.inner.Reading.{◌>>=◌, wrong, after, digits_from, number_at, after_comma, fork_number_at, fork_closed, leaf_at, OfId, id_or, pair_at, id_at, OfEvent, event_or, fork_at, event_at, at_end}
use Rattle.pana_text.specs.Grammar.{is_digit, room_after}
use Rattle.pana_text.proofs.Depths.{room-kept, room-comma, room-closed}
use Rattle.pana_text.proofs.Folds.{closed, right_half, after_left, fork_right, fork_after_left, after_number, closing, event_part, after_id, id_part}
use Rattle.pana_text.proofs.Numbers.{digits-parts, test_cases}
use Rattle.pana_text.proofs.Machine.{Mark, comma, close, byte_of, Part, stamp, mark, id, event, number, digits, step}

-- what an option holds, or else
abbrev pub given : {A B : Type 0} → Option A → B → (A → B) → B
given None other on = other
given (Some x) other on = on x

-- running over the text, of which so many bytes are the whole, where so many parentheses may open and these parts are to come
abbrev pub run : ℕ → ℕ → List Part → List ℕ → Result ⊤ TextFault
run total left [] [] = Ok tt
run total left [] (b ∷ rest) = wrong total (b ∷ rest)
run total left (p ∷ parts) [] = wrong total []
run total left (p ∷ parts) (b ∷ rest) =
    given (step p b) (wrong total (b ∷ rest)) (λ new. given (room_after left b) (Err TooDeep) (λ room. run total room (new ++ parts) rest))

-- reading on gives the same
then : {A B C : Type 0} (r : Result A TextFault) (f : A → Result B TextFault) (g : B → Result C TextFault) (h : A → Result C TextFault) → ((x : A) → (f x >>= g) ≡ h x) → ((r >>= f) >>= g) ≡ (r >>= h)
then (Ok x) f g h e = e x
then (Err d) f g h e = refl

-- how many parentheses may open after the mark
abbrev room_at : ℕ → Mark → ℕ
room_at n comma = n
room_at n close = suc n

room-mark : (n : ℕ) (m : Mark) → room_after n (byte_of m) ≡ Some (room_at n m)
room-mark n comma = room-comma n
room-mark n close = room-closed n

mark-run : (total n : ℕ) (m : Mark) (parts : List Part) (text : List ℕ) → run total n (mark m ∷ parts) text ≡ (after total (byte_of m) text >>= run total (room_at n m) parts)
mark-run total n m parts [] = refl
mark-run total n m parts (b ∷ rest) =
    elim (test_cases (b == byte_of m)) [
      | inl e ↦
          let room : room_after n b ≡ Some (room_at n m) = ap (room_after n) (eqb-true b (byte_of m) e) ∙ room-mark n m in
          rw (e, room) refl
      | inr e ↦ rw e refl
    ]

-- ---- ids

id_or-run : {A : Type 0} (of : OfId A) (total n : ℕ) (m : Mark) (parts : List Part) (opened : List ℕ → Result (A × List ℕ) TextFault)
    → ((rest : List ℕ) → run total n (id m ∷ parts) (40 ∷ rest) ≡ (opened rest >>= λ x. run total n (mark m ∷ parts) x.1))
    → (text : List ℕ) → run total n (id m ∷ parts) text ≡ (id_or of total opened text >>= λ x. run total n (mark m ∷ parts) x.1)
id_or-run of total n m parts opened h [] = refl
id_or-run of total n m parts opened h (b ∷ rest) =
    elim (test_cases (b == 48)) [
      | inl e ↦ let room = room-kept n b (λ k. absurd (omega (arith, eqb-true b 48 e, k))) (λ k. absurd (omega (arith, eqb-true b 48 e, k))) in rw (e, room) refl
      | inr not_zero ↦ elim (test_cases (b == 49)) [
        | inl e ↦ let room = room-kept n b (λ k. absurd (omega (arith, eqb-true b 49 e, k))) (λ k. absurd (omega (arith, eqb-true b 49 e, k))) in rw (not_zero, e, room) refl
        | inr not_one ↦ elim (test_cases (b == 40)) [
          | inl e ↦ subst (λ (c : ℕ). run total n (id m ∷ parts) (c ∷ rest) ≡ (id_or of total opened (c ∷ rest) >>= λ x. run total n (mark m ∷ parts) x.1)) (sym (eqb-true b 40 e)) (h rest)
          | inr e ↦ rw (not_zero, not_one, e) refl
        ]
      ]
    ]

pair-run : {A : Type 0} (of : OfId A) (total n : ℕ) (m : Mark) (parts : List Part) (half : List ℕ → Result (A × List ℕ) TextFault)
    → ((k : Mark) (more : List Part) (text : List ℕ) → run total n (id k ∷ more) text ≡ (half text >>= λ x. run total n (mark k ∷ more) x.1))
    → (text : List ℕ) → run total n (id comma ∷ id close ∷ mark m ∷ parts) text ≡ (pair_at of total half text >>= λ x. run total (suc n) (mark m ∷ parts) x.1)
pair-run of total n m parts half h text =
    let rest : List Part = mark m ∷ parts in
    let on = λ (x : _ × List ℕ). run total (suc n) rest x.1 in
    h comma (id close ∷ rest) text
    ∙ sym (then (half text) (after_left of total half) on (λ l. run total n (mark comma ∷ id close ∷ rest) l.1)
    (λ l. then (after total 44 l.1) (right_half of total half l.0) on (run total n (id close ∷ rest))
    (λ t. then (half t) (closed of total l.0) on (λ r. run total n (mark close ∷ rest) r.1)
    (λ r. then (after total 41 r.1) (λ u. Ok (of.of_pair l.0 r.0, u)) on (run total (suc n) rest) (λ u. refl) ∙ sym (mark-run total n close rest r.1))
    ∙ sym (h close rest t)) ∙ sym (mark-run total n comma (id close ∷ rest) l.1)))

id-run : {A : Type 0} (of : OfId A) (total n : ℕ) (m : Mark) (parts : List Part) (text : List ℕ) → run total n (id m ∷ parts) text ≡ (id_at of total n text >>= λ x. run total n (mark m ∷ parts) x.1)
id-run of total zero m parts text = id_or-run of total zero m parts (λ _. Err TooDeep) (λ rest. refl) text
id-run of total (suc n) m parts text = id_or-run of total (suc n) m parts (pair_at of total (id_at of total n)) (λ rest. pair-run of total n m parts (id_at of total n) (id-run of total n) rest) text

-- ---- numbers

digits-run : (total n a : ℕ) (m : Mark) (parts : List Part) (text : List ℕ) → run total n (digits m ∷ parts) text ≡ run total n (mark m ∷ parts) (digits_from a text).1
digits-run total n a m parts [] = refl
digits-run total n a m parts (b ∷ rest) =
    elim (test_cases (is_digit b)) [
      | inl e ↦
          let p = digits-parts b [] (rw e refl) in
          let room = room-kept n b (λ k. absurd (omega (arith, p.0, k))) (λ k. absurd (omega (arith, p.0, k))) in
          rw (e, room) (digits-run total n (a * 10 + (b - 48)) m parts rest)
      | inr e ↦ rw e refl
    ]

number-run : {N : Type 0} (num : ℕ → N) (total n : ℕ) (m : Mark) (parts : List Part) (text : List ℕ) → run total n (number m ∷ parts) text ≡ (number_at num total text >>= λ x. run total n (mark m ∷ parts) x.1)
unfolding number_at
number-run num total n m parts [] = refl
number-run num total n m parts (b ∷ rest) =
    elim (test_cases (b == 48)) [
      | inl e ↦ let room = room-kept n b (λ k. absurd (omega (arith, eqb-true b 48 e, k))) (λ k. absurd (omega (arith, eqb-true b 48 e, k))) in rw (e, room) refl
      | inr not_zero ↦ elim (test_cases (is_digit b)) [
        | inl e ↦
            let p = digits-parts b [] (rw e refl) in
            let room = room-kept n b (λ k. absurd (omega (arith, p.0, k))) (λ k. absurd (omega (arith, p.0, k))) in
            rw (not_zero, e, room) (digits-run total n (0 * 10 + (b - 48)) m parts rest)
        | inr e ↦ rw (not_zero, e) refl
      ]
    ]

-- ---- events

leaf-run : {N A : Type 0} (of : OfEvent N A) (total n : ℕ) (m : Mark) (parts : List Part) (text : List ℕ) → run total n (number m ∷ parts) text ≡ (leaf_at of total text >>= λ x. run total n (mark m ∷ parts) x.1)
leaf-run of total n m parts text =
    number-run of.of_number total n m parts text
    ∙ sym (then (number_at of.of_number total text) (λ k. Ok (of.of_leaf k.0, k.1)) (λ x. run total n (mark m ∷ parts) x.1) (λ k. run total n (mark m ∷ parts) k.1) (λ k. refl))

event_or-run : {N A : Type 0} (of : OfEvent N A) (total n : ℕ) (m : Mark) (parts : List Part) (opened : List ℕ → Result (A × List ℕ) TextFault)
    → ((rest : List ℕ) → run total n (event m ∷ parts) (40 ∷ rest) ≡ (opened rest >>= λ x. run total n (mark m ∷ parts) x.1))
    → (text : List ℕ) → run total n (event m ∷ parts) text ≡ (event_or of total opened text >>= λ x. run total n (mark m ∷ parts) x.1)
event_or-run of total n m parts opened h [] = leaf-run of total n m parts []
event_or-run of total n m parts opened h (b ∷ rest) =
    elim (test_cases (b == 40)) [
      | inl e ↦ subst (λ (c : ℕ). run total n (event m ∷ parts) (c ∷ rest) ≡ (event_or of total opened (c ∷ rest) >>= λ x. run total n (mark m ∷ parts) x.1)) (sym (eqb-true b 40 e)) (h rest)
      | inr e ↦ rw e (leaf-run of total n m parts (b ∷ rest))
    ]

fork-run : {N A : Type 0} (of : OfEvent N A) (total n : ℕ) (m : Mark) (parts : List Part) (half : List ℕ → Result (A × List ℕ) TextFault)
    → ((k : Mark) (more : List Part) (text : List ℕ) → run total n (event k ∷ more) text ≡ (half text >>= λ x. run total n (mark k ∷ more) x.1))
    → (text : List ℕ) → run total n (number comma ∷ event comma ∷ event close ∷ mark m ∷ parts) text ≡ (fork_at of total half text >>= λ x. run total (suc n) (mark m ∷ parts) x.1)
unfolding fork_number_at
fork-run of total n m parts half h text =
    let rest : List Part = mark m ∷ parts in
    let on = λ (x : _ × List ℕ). run total (suc n) rest x.1 in
    let halves : List Part = event comma ∷ event close ∷ rest in
    number-run of.of_number total n comma halves text
    ∙ (sym (then (number_at of.of_number total text) (after_comma total) (λ k. run total n halves k.1) (λ k. run total n (mark comma ∷ halves) k.1)
    (λ k. then (after total 44 k.1) (λ u. Ok (k.0, u)) (λ j. run total n halves j.1) (run total n halves) (λ u. refl) ∙ sym (mark-run total n comma halves k.1)))
    ∙ sym (then (fork_number_at of.of_number total text) (after_number of total half) on (λ k. run total n halves k.1)
    (λ k. then (half k.1) (fork_after_left of total half k.0) on (λ l. run total n (mark comma ∷ event close ∷ rest) l.1)
    (λ l. then (after total 44 l.1) (fork_right of total half k.0 l.0) on (run total n (event close ∷ rest))
    (λ t. then (half t) (fork_closed of total k.0 l.0) on (λ r. run total n (mark close ∷ rest) r.1)
    (λ r. then (after total 41 r.1) (λ u. Ok (of.of_fork k.0 l.0 r.0, u)) on (run total (suc n) rest) (λ u. refl) ∙ sym (mark-run total n close rest r.1))
    ∙ sym (h close rest t)) ∙ sym (mark-run total n comma (event close ∷ rest) l.1)) ∙ sym (h comma (event close ∷ rest) k.1))))

event-run : {N A : Type 0} (of : OfEvent N A) (total n : ℕ) (m : Mark) (parts : List Part) (text : List ℕ) → run total n (event m ∷ parts) text ≡ (event_at of total n text >>= λ x. run total n (mark m ∷ parts) x.1)
event-run of total zero m parts text = event_or-run of total zero m parts (λ _. Err TooDeep) (λ rest. refl) text
event-run of total (suc n) m parts text = event_or-run of total (suc n) m parts (fork_at of total (event_at of total n)) (λ rest. fork-run of total n m parts (event_at of total n) (event-run of total n) rest) text

-- ---- stamps

end-run : (total n : ℕ) (text : List ℕ) → run total n [] text ≡ at_end total text
end-run total n [] = refl
end-run total n (b ∷ rest) = refl

opens-run : (total : ℕ) (text : List ℕ) → run total 257 (stamp ∷ []) text ≡ (after total 40 text >>= run total 256 (id comma ∷ event close ∷ []))
opens-run total [] = refl
opens-run total (b ∷ rest) =
    elim (test_cases (b == 40)) [
      | inl e ↦ rw e refl
      | inr e ↦ rw e refl
    ]

ok_only : (r : Result ⊤ TextFault) (f : ⊤ → Result ⊤ TextFault) → ((x : ⊤) → f x ≡ Ok x) → (r >>= f) ≡ r
ok_only (Ok x) f h = h x
ok_only (Err e) f h = refl

-- what running over the whole text gives is what reading the stamp gives
pub stamp-run : {A N B : Type 0} (of_id : OfId A) (of : OfEvent N B) (total : ℕ) (text : List ℕ) → run total 257 (stamp ∷ []) text ≡ ((after total 40 text >>= id_part of_id of total 256) >>= λ s. Ok tt)
stamp-run of_id of total text =
    let on = λ (s : _ × _). Ok tt in
    let last : List Part = event close ∷ [] in
    opens-run total text
    ∙ sym (then (after total 40 text) (id_part of_id of total 256) on (run total 256 (id comma ∷ last))
    (λ a. then (id_at of_id total 256 a) (after_id of total 256) on (λ i. run total 256 (mark comma ∷ last) i.1)
    (λ i. then (after total 44 i.1) (event_part of total 256 i.0) on (run total 256 last)
    (λ c. then (event_at of total 256 c) (closing total i.0) on (λ e. run total 256 (mark close ∷ []) e.1)
    (λ e. then (after total 41 e.1) (λ rest. at_end total rest >>= λ end. Ok (i.0, e.0)) on (run total 257 [])
    (λ rest. then (at_end total rest) (λ end. Ok (i.0, e.0)) on (λ end. Ok tt) (λ end. refl) ∙ (ok_only (at_end total rest) (λ end. Ok tt) (λ x. refl) ∙ sym (end-run total 257 rest)))
    ∙ sym (mark-run total 256 close [] e.1)) ∙ sym (event-run of total 256 close [] c)) ∙ sym (mark-run total 256 comma last i.1)) ∙ sym (id-run of_id total 256 comma last a)))
