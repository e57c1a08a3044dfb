-- No two faults hold of one text: a fault that says something true is the one that the check gives.
use Rattle.std.proofs.Common.{◌≡◌, ℕ, List, [], ◌∷◌, ◌++◌, length, take, drop, get_or, Option, Some, None, refl, sym, ap, ◌∙◌, subst, append_assoc, append-nil, Result, Ok, Err, inl, inr, ◌⊎◌}
use Rattle.std.specs.Prelude.{⊤, ◌&&◌, IfOk, IfErr, MatchResult}
use Rattle.pana_id.specs.Id.{Id, IsNormal as IsNormalId}
use Rattle.pana_event.specs.Event.{Event, IsNormal, greatest}
use Rattle.pana_text.specs.declared.fault.TextFault.{TextFault}
use Rattle.pana_text.specs.declared.fault.TextFault.TheVariants.{Syntax, TooDeep, NotNormal, TooLarge, OutOfMemory}
use Rattle.pana_text.specs.declared.id.IdKind.{IdKind}
use Rattle.pana_text.specs.declared.event.EventKind.{EventKind}
use Rattle.pana_text.specs.inner.Limits.{id_kinds, event_kinds, levels_judged, judged_kinds}
use Rattle.pana_text.specs.inner.Reading.{◌>>=◌}
use Rattle.pana_text.specs.Text.{IsTextOf}
use Rattle.pana_text.specs.Grammar.{IsInGrammar, IsFirstWrong, OpensTooDeep, Spells, Says, room_after, room}
use Rattle.pana_text.proofs.Again.{stamp-again, text-spells}
use Rattle.pana_text.proofs.Checked.{built_again, Stamped, kinds_in, checked, checked_stamped}
use Rattle.pana_text.proofs.Digits.{fitted-at, fitted-past}
use Rattle.pana_text.proofs.FirstWrong.{read_whole, read_spells, unread_says}
use Rattle.pana_text.proofs.Kept.{kind_of_id, kind_of, judged, split_and, normal-id, normal-event, id-normal, event-normal, greatest-fitted}
use Rattle.pana_text.proofs.Numbers.{test_cases}

-- ---- prefixes

-- of two ways to cut a text, one cuts first
splits : (a b c d : List ℕ) → a ++ b ≡ c ++ d → ((u : List ℕ) × (c ≡ a ++ u) × (b ≡ u ++ d)) ⊎ ((u : List ℕ) × (a ≡ c ++ u) × (d ≡ u ++ b))
splits [] b c d h = inl (c, refl, h)
splits (x ∷ a) b [] d h = inr (x ∷ a, refl, sym h)
splits (x ∷ a) b (y ∷ c) d h =
    let first : x ≡ y = ap (λ (s : List ℕ). get_or s 0 0) h in
    elim (splits a b c d (ap (λ (s : List ℕ). drop 1 s) h)) [
      | inl k ↦ let (u, p, q) = k in inl (u, ap (λ (s : List ℕ). y ∷ s) p ∙ ap (λ (z : ℕ). z ∷ (a ++ u)) (sym first), q)
      | inr k ↦ let (u, p, q) = k in inr (u, ap (λ (s : List ℕ). x ∷ s) p ∙ ap (λ (z : ℕ). z ∷ (c ++ u)) first, q)
    ]

abbrev Never : List ℕ → List ℕ → Type 0
Never prefix rest = (end : List ℕ) → take 1 end ≡ take 1 rest → IsInGrammar (prefix ++ end) → ⊥

-- no text of the grammar begins with more than the prefix, where none goes on with what follows it
never_more : (a b u d end : List ℕ) → Never a b → b ≡ u ++ d → IsInGrammar ((a ++ u) ++ end) → u ≡ []
never_more a b [] d end never h g = refl
never_more a b (x ∷ u) d end never h g =
    absurd (never ((x ∷ u) ++ end) (sym (ap (λ (s : List ℕ). take 1 s) h)) (subst IsInGrammar (append_assoc a (x ∷ u) end) g))

room_append : (n : Option ℕ) (v w : List ℕ) → room n (v ++ w) ≡ room (room n v) w
room_append None v w = refl
room_append (Some n) [] w = refl
room_append (Some n) (b ∷ v) w = room_append (room_after n b) v w

-- a prefix in which a parenthesis opens too deep is not within the depth
room_past : (c u : List ℕ) (left : ℕ) → room (Some 257) c ≡ Some 0 → room (Some 257) (c ++ (40 ∷ u)) ≡ Some left → ⊥
room_past c u left h k =
    let past : room (Some 257) (c ++ (40 ∷ u)) ≡ None = room_append (Some 257) c (40 ∷ u) ∙ ap (λ (o : Option ℕ). room o (40 ∷ u)) h in
    absurd (cc past)

-- ---- two faults

one_position : (text : List ℕ) (p q : ℕ) → IsFirstWrong p text → IsFirstWrong q text → p ≡ q
one_position text p q (a, b, w, pa, (e, g), na, ra) (c, d, v, qc, (f, k), nc, rc) =
    elim (splits a b c d (sym w ∙ v)) [
      | inl s ↦
          let (u, m, n) = s in
          let nil = never_more a b u d f na n (subst (λ (x : List ℕ). IsInGrammar (x ++ f)) m k) in
          pa ∙ (ap (λ (x : List ℕ). length x) (sym (m ∙ (ap (λ (x : List ℕ). a ++ x) nil ∙ append-nil a))) ∙ sym qc)
      | inr s ↦
          let (u, m, n) = s in
          let nil = never_more c d u b e nc n (subst (λ (x : List ℕ). IsInGrammar (x ++ e)) m g) in
          pa ∙ (ap (λ (x : List ℕ). length x) (m ∙ (ap (λ (x : List ℕ). c ++ x) nil ∙ append-nil c)) ∙ sym qc)
    ]

begins_alike : (u v w : List ℕ) → take 1 (u ++ (40 ∷ v)) ≡ take 1 (u ++ (40 ∷ w))
begins_alike [] v w = refl
begins_alike (x ∷ u) v w = refl

past_opened : (a b c d u : List ℕ) (left : ℕ) → Never a b → room (Some 257) a ≡ Some left → room (Some 257) c ≡ Some 0 → a ≡ c ++ u → 40 ∷ d ≡ u ++ b → (end : List ℕ) → IsInGrammar (c ++ (40 ∷ end)) → ⊥
past_opened a b c d [] left never ra rc m n end g =
    never (40 ∷ end) (ap (λ (s : List ℕ). take 1 s) n) (subst (λ (x : List ℕ). IsInGrammar (x ++ (40 ∷ end))) (sym (m ∙ append-nil c)) g)
past_opened a b c d (x ∷ u) left never ra rc m n end g =
    let opens : x ≡ 40 = sym (ap (λ (s : List ℕ). get_or s 0 0) n) in
    room_past c u left rc (subst (λ (s : List ℕ). room (Some 257) s ≡ Some left) (m ∙ ap (λ (y : ℕ). c ++ (y ∷ u)) opens) ra)

wrong_not_deep : (text : List ℕ) (p : ℕ) → IsFirstWrong p text → OpensTooDeep text → ⊥
wrong_not_deep text p (a, b, w, pa, begins, na, (left, ra)) (c, d, v, (end, g), rc) =
    elim (splits a b c (40 ∷ d) (sym w ∙ v)) [
      | inl s ↦
          let (u, m, n) = s in
          na (u ++ (40 ∷ end)) (begins_alike u end d ∙ sym (ap (λ (x : List ℕ). take 1 x) n)) (subst IsInGrammar (ap (λ (x : List ℕ). x ++ (40 ∷ end)) m ∙ append_assoc a u (40 ∷ end)) g)
      | inr s ↦ let (u, m, n) = s in past_opened a b c d u left na ra rc m n end g
    ]

wrong_not_spelled : (text : List ℕ) (p : ℕ) (i : Id) (e : Event) → IsFirstWrong p text → Spells text i e → ⊥
wrong_not_spelled text p i e (a, b, w, pa, begins, na, ra) h = na b refl (subst IsInGrammar w (i, h.spelled, h.numbers, h.whole))

deep_not_spelled : (text : List ℕ) (i : Id) (e : Event) → OpensTooDeep text → Spells text i e → ⊥
deep_not_spelled text i e (c, d, v, begins, rc) h =
    let t = read_whole id_kinds event_kinds text (kind_of_id i, kind_of e) (stamp-again id_kinds event_kinds text i e h) in
    room_past c d t.left_over rc (subst (λ (s : List ℕ). room (Some 257) s ≡ Some t.left_over) v t.within)

-- ---- the fault is that of the check

-- a text spells two trees, or has a syntax fault, or opens a tree too deep
comes_to : (text : List ℕ) (r : Result (IdKind × EventKind) TextFault) → kinds_in text ≡ r
    → ((i : Id) × (e : Event) × Spells text i e) ⊎ ((p : ℕ) × (r ≡ Err (Syntax p)) × IsFirstWrong p text) ⊎ ((r ≡ Err TooDeep) × OpensTooDeep text)
comes_to text (Ok k) h = inl (read_spells id_kinds event_kinds text k h)
comes_to text (Err (Syntax p)) h = inr (inl (p, refl, unread_says id_kinds event_kinds text (Syntax p) h))
comes_to text (Err TooDeep) h = inr (inr (refl, unread_says id_kinds event_kinds text TooDeep h))
comes_to text (Err NotNormal) h = let (i, e, s, n) = unread_says id_kinds event_kinds text NotNormal h in inl (i, e, s)
comes_to text (Err TooLarge) h = let (i, e, s, n, m, l) = unread_says id_kinds event_kinds text TooLarge h in inl (i, e, s)
comes_to text (Err OutOfMemory) h = let (i, e, s) = unread_says id_kinds event_kinds text OutOfMemory h in inl (i, e, text-spells text i e s)

wrong_is : (text : List ℕ) (p : ℕ) → IsFirstWrong p text → kinds_in text ≡ Err (Syntax p)
wrong_is text p h =
    elim (comes_to text (kinds_in text) refl) [
      | inl s ↦ let (i, e, k) = s in absurd (wrong_not_spelled text p i e h k)
      | inr s ↦ elim s [
        | inl k ↦ let (q, is, w) = k in is ∙ ap (λ (n : ℕ). Err (Syntax n)) (one_position text q p w h)
        | inr k ↦ absurd (wrong_not_deep text p h k.1)
      ]
    ]

deep_is : (text : List ℕ) → OpensTooDeep text → kinds_in text ≡ Err TooDeep
deep_is text h =
    elim (comes_to text (kinds_in text) refl) [
      | inl s ↦ let (i, e, k) = s in absurd (deep_not_spelled text i e h k)
      | inr s ↦ elim s [
        | inl k ↦ let (q, is, w) = k in absurd (wrong_not_deep text q w h)
        | inr k ↦ k.0
      ]
    ]

-- what spells two trees is checked as they are judged
judged_is : (text : List ℕ) (i : Id) (e : Event) → Spells text i e → checked text ≡ judged i e
judged_is text i e s = ap (λ (r : Result (IdKind × EventKind) TextFault). r >>= judged_kinds) (stamp-again id_kinds event_kinds text i e s)

not_normal_is : (i : Id) (e : Event) → (IsNormalId i × IsNormal e → ⊥) → judged i e ≡ Err NotNormal
not_normal_is i e h =
    elim (test_cases ((kind_of_id i).is_normal && (kind_of e).is_normal)) [
      | inl good ↦ let tests = split_and (kind_of_id i).is_normal (kind_of e).is_normal good in absurd (h (normal-id i tests.0, normal-event e tests.1))
      | inr bad ↦ rw bad refl
    ]

normal_is : (i : Id) (e : Event) → IsNormalId i → IsNormal e → judged i e ≡ levels_judged (kind_of e).greatest
normal_is i e n m = rw (id-normal i n, event-normal e m) refl

-- the fault that the check gives, or that of memory for the text of a stamp
abbrev fault_of : Result ⊤ TextFault → TextFault
fault_of (Ok s) = OutOfMemory
fault_of (Err e) = e

is_fault_of : (text : List ℕ) (fault : TextFault) → Says fault text → fault_of (checked text) ≡ fault
is_fault_of text (Syntax p) h = ap (λ (r : Result (IdKind × EventKind) TextFault). fault_of (r >>= judged_kinds)) (wrong_is text p h)
is_fault_of text TooDeep h = ap (λ (r : Result (IdKind × EventKind) TextFault). fault_of (r >>= judged_kinds)) (deep_is text h)
is_fault_of text NotNormal (i, e, s, n) = ap fault_of (judged_is text i e s ∙ not_normal_is i e n)
is_fault_of text TooLarge (i, e, s, n, m, l) =
    ap fault_of (judged_is text i e s ∙ (normal_is i e n m ∙ ap levels_judged (greatest-fitted e ∙ fitted-past (greatest e) l)))
is_fault_of text OutOfMemory (i, e, h) =
    ap fault_of (judged_is text i e (text-spells text i e h) ∙ (normal_is i e h.0.normal h.1.normal ∙ ap levels_judged (greatest-fitted e ∙ fitted-at (greatest e) h.1.fits)))

pub faults_exclude : (text : List ℕ) (first second : TextFault) → Says first text → Says second text → first ≡ second
faults_exclude text first second h k = sym (is_fault_of text first h) ∙ is_fault_of text second k

has_fault : (text : List ℕ) (r : Result ⊤ TextFault) → Stamped text r → (fault : TextFault) × Says fault text
has_fault text (Ok x) h = (OutOfMemory, h)
has_fault text (Err e) h = (e, h)

pub each_has_a_fault : (text : List ℕ) → (fault : TextFault) × Says fault text
each_has_a_fault text = has_fault text (checked text) (checked_stamped text)

pub of_one_stamp : (text : List ℕ) (i j : Id) (e f : Event) → IsTextOf i e text → IsTextOf j f text → (i ≡ j) × (e ≡ f)
of_one_stamp text i j e f h k =
    let both : ◌≡◌ {A = Result (Id × Event) TextFault} (Ok (i, e)) (Ok (j, f)) = sym (built_again text i e h) ∙ built_again text j f k in
    let same : ◌≡◌ {A = Id × Event} (i, e) (j, f) = cc in
    (ap (λ (s : Id × Event). s.0) same, ap (λ (s : Id × Event). s.1) same)

-- ---- a result that says so

only_at : {X : Type 0} (view : X → Id × Event) (r : Result X TextFault) (text : List ℕ) → IfOk r (λ x. IsTextOf (view x).0 (view x).1 text) → IfErr r (λ fault. Says fault text)
    → (i : Id) (e : Event) → IsTextOf i e text → MatchResult r (λ x. ((view x).0 ≡ i) × ((view x).1 ≡ e)) (λ fault. fault ≡ OutOfMemory)
only_at view (Ok x) text found says i e h = of_one_stamp text (view x).0 i (view x).1 e found h
only_at view (Err fault) text found says i e h = faults_exclude text fault OutOfMemory says (i, e, h)

pub only_text : {X : Type 0} (view : X → Id × Event) (r : Result X TextFault) (bytes text : List ℕ) → bytes ≡ text → IfOk r (λ x. IsTextOf (view x).0 (view x).1 bytes) → IfErr r (λ fault. Says fault bytes)
    → (i : Id) (e : Event) → IsTextOf i e text → MatchResult r (λ x. ((view x).0 ≡ i) × ((view x).1 ≡ e)) (λ fault. fault ≡ OutOfMemory)
only_text view r bytes text same found says i e h = only_at view r bytes found says i e (subst (IsTextOf i e) (sym same) h)
