-- What running over a text comes to: the whole text is one of the parts, or the run stops at its first wrong byte or too deep.
use Rattle.std.proofs.Common.{◌≡◌, ℕ, zero, suc, ◌-◌, Bool, true, false, cond, List, [], ◌∷◌, ◌++◌, length, take, get_or, Option, Some, None, refl, ap, ◌∙◌, subst, Result, Ok, Err, inl, inr}
use Rattle.std.specs.Prelude.{◌==◌, ⊤}
use Rattle.std.proofs.lemmas.Bool.{eqb-true}
use Rattle.pana_text.specs.declared.fault.TextFault.{TextFault}
use Rattle.pana_text.specs.declared.fault.TextFault.TheVariants.{Syntax, TooDeep, NotNormal, TooLarge, OutOfMemory}
use Rattle.pana_text.specs.inner.Reading.{wrong}
use Rattle.pana_text.specs.Grammar.{room_after, room}
use Rattle.pana_text.proofs.Machine.{Part, Words, step, Sound, sound, Follows, Taken, taken}
use Rattle.pana_text.proofs.Numbers.{test_cases}
use Rattle.pana_text.proofs.Runs.{given, run}

-- the text is one of the parts, within the depth
pub record Whole (parts : List Part) (left : ℕ) (text : List ℕ) : Type 0 where
  pub words : Words parts text
  pub left_over : ℕ
  pub within : room (Some left) text ≡ Some left_over

-- a text of the parts goes on after the prefix with one of the next, and none of these begins as the rest does
pub record Stuck (parts : List Part) (left total place : ℕ) (text : List ℕ) : Type 0 where
  pub prefix : List ℕ
  pub rest : List ℕ
  pub next : List Part
  pub left_over : ℕ
  pub whole : text ≡ prefix ++ rest
  pub at : place ≡ total - length rest
  pub within : room (Some left) prefix ≡ Some left_over
  pub begins : (end : List ℕ) → Words next end → Words parts (prefix ++ end)
  pub goes_on : (end : List ℕ) → Words parts (prefix ++ end) → Words next end
  pub none : (end : List ℕ) → take 1 end ≡ take 1 rest → Words next end → ⊥

-- the prefix goes on with a parenthesis for which there is no room
pub record Deep (parts : List Part) (left : ℕ) (text : List ℕ) : Type 0 where
  pub prefix : List ℕ
  pub rest : List ℕ
  pub next : List Part
  pub whole : text ≡ prefix ++ (40 ∷ rest)
  pub within : room (Some left) prefix ≡ Some 0
  pub begins : (end : List ℕ) → Words next end → Words parts (prefix ++ (40 ∷ end))

abbrev pub Outcome : List Part → ℕ → ℕ → List ℕ → Result ⊤ TextFault → Type 0
Outcome parts left total text (Ok x) = Whole parts left text
Outcome parts left total text (Err (Syntax place)) = Stuck parts left total place text
Outcome parts left total text (Err TooDeep) = Deep parts left text
Outcome parts left total text (Err _) = ⊥

stuck_here : (parts : List Part) (left total : ℕ) (text : List ℕ) → ((end : List ℕ) → take 1 end ≡ take 1 text → Words parts end → ⊥) → Stuck parts left total (total - length text) text
stuck_here parts left total text never = record {
  prefix = [];
  rest = text;
  next = parts;
  left_over = left;
  whole = refl;
  at = refl;
  within = refl;
  begins = λ end h. h;
  goes_on = λ end h. h;
  none = never;
}

-- no text of the part begins with the byte
blocked : (p : Part) (parts : List Part) (b : ℕ) (end : List ℕ) → step p b ≡ None → take 1 end ≡ b ∷ [] → Taken p parts end → ⊥
blocked p parts b [] e start h = h
blocked p parts b (c ∷ u) e start h = subst (Follows parts u) (ap (step p) (ap (λ (s : List ℕ). get_or s 0 0) start) ∙ e) h

ended : (p : Part) (parts : List Part) (end : List ℕ) → take 1 end ≡ [] → Taken p parts end → ⊥
ended p parts [] start h = h
ended p parts (c ∷ u) start h = absurd cc

nothing_more : (b : ℕ) (end : List ℕ) → take 1 end ≡ b ∷ [] → end ≡ [] → ⊥
nothing_more b [] start e = absurd cc
nothing_more b (c ∷ u) start e = absurd cc

holds_some : (t : Bool) (m : ℕ) (o : Option ℕ) → (o ≡ None → ⊥) → cond t (Some m) o ≡ None → ⊥
holds_some true m o h e = absurd cc
holds_some false m o h e = h e

-- room ends where a parenthesis opens and none may
no_room : (n b : ℕ) → room_after n b ≡ None → (n ≡ 0) × (b ≡ 40)
no_room zero b e =
    elim (test_cases (b == 40)) [
      | inl is ↦ (refl, eqb-true b 40 is)
      | inr not_open ↦ absurd (holds_some (b == 41) 1 (Some 0) (λ k. absurd cc) (rw not_open at e))
    ]
no_room (suc n) b e = absurd (holds_some (b == 40) n (cond (b == 41) (Some (suc (suc n))) (Some (suc n))) (holds_some (b == 41) (suc (suc n)) (Some (suc n)) (λ k. absurd cc)) e)

module _ (p : Part) (parts new : List Part) (left b : ℕ) (steps : step p b ≡ Some new) where
  forth : (w : List ℕ) → Words (new ++ parts) w → Words (p ∷ parts) (b ∷ w)
  forth = subst (Sound p parts b) steps (sound p parts b)

  back : (w : List ℕ) → Words (p ∷ parts) (b ∷ w) → Words (new ++ parts) w
  back w h = subst (Follows parts w) steps (taken p parts (b ∷ w) h)

  deep_here : (rest : List ℕ) → room_after left b ≡ None → Deep (p ∷ parts) left (b ∷ rest)
  deep_here rest e =
      let (none_left, opens) = no_room left b e in
      record {
        prefix = [];
        rest = rest;
        next = new ++ parts;
        whole = ap (λ (c : ℕ). c ∷ rest) opens;
        within = ap (λ (n : ℕ). Some n) none_left;
        begins = λ end h. subst (λ (c : ℕ). Words (p ∷ parts) (c ∷ end)) opens (forth end h);
      }

  later : (k total : ℕ) (text : List ℕ) (r : Result ⊤ TextFault) → room_after left b ≡ Some k → Outcome (new ++ parts) k total text r → Outcome (p ∷ parts) left total (b ∷ text) r
  later k total text (Ok x) e h = record { words = forth text h.words; left_over = h.left_over; within = ap (λ (o : Option ℕ). room o text) e ∙ h.within }
  later k total text (Err (Syntax place)) e h = record {
    prefix = b ∷ h.prefix;
    rest = h.rest;
    next = h.next;
    left_over = h.left_over;
    whole = ap (λ (s : List ℕ). b ∷ s) h.whole;
    at = h.at;
    within = ap (λ (o : Option ℕ). room o h.prefix) e ∙ h.within;
    begins = λ end w. forth (h.prefix ++ end) (h.begins end w);
    goes_on = λ end w. h.goes_on end (back (h.prefix ++ end) w);
    none = h.none;
  }
  later k total text (Err TooDeep) e h = record {
    prefix = b ∷ h.prefix;
    rest = h.rest;
    next = h.next;
    whole = ap (λ (s : List ℕ). b ∷ s) h.whole;
    within = ap (λ (o : Option ℕ). room o h.prefix) e ∙ h.within;
    begins = λ end w. forth (h.prefix ++ (40 ∷ end)) (h.begins end w);
  }
  later k total text (Err _) e h = absurd h

  by_room : (total : ℕ) (rest : List ℕ) → ((k : ℕ) → Outcome (new ++ parts) k total rest (run total k (new ++ parts) rest)) → (o : Option ℕ) → room_after left b ≡ o
      → Outcome (p ∷ parts) left total (b ∷ rest) (given o (Err TooDeep) (λ k. run total k (new ++ parts) rest))
  by_room total rest ih None e = deep_here rest e
  by_room total rest ih (Some k) e = later k total rest (run total k (new ++ parts) rest) e (ih k)

by_step : (total left : ℕ) (p : Part) (parts : List Part) (b : ℕ) (rest : List ℕ) → ((k : ℕ) (more : List Part) → Outcome more k total rest (run total k more rest)) → (o : Option (List Part)) → step p b ≡ o
    → Outcome (p ∷ parts) left total (b ∷ rest) (given o (wrong total (b ∷ rest)) (λ new. given (room_after left b) (Err TooDeep) (λ k. run total k (new ++ parts) rest)))
by_step total left p parts b rest ih None e = stuck_here (p ∷ parts) left total (b ∷ rest) (λ end start w. blocked p parts b end e start (taken p parts end w))
by_step total left p parts b rest ih (Some new) e = by_room p parts new left b e total rest (λ k. ih k (new ++ parts)) (room_after left b) refl

pub outcome : (total left : ℕ) (parts : List Part) (text : List ℕ) → Outcome parts left total text (run total left parts text)
outcome total left [] [] = record { words = refl; left_over = left; within = refl }
outcome total left [] (b ∷ rest) = stuck_here [] left total (b ∷ rest) (nothing_more b)
outcome total left (p ∷ parts) [] = stuck_here (p ∷ parts) left total [] (λ end start w. ended p parts end start (taken p parts end w))
outcome total left (p ∷ parts) (b ∷ rest) = by_step total left p parts b rest (λ k more. outcome total k more rest) (step p b) refl
