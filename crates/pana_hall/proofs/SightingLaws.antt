-- What sightings change, and what they leave.
use Rattle.pana_hall.proofs.Words.{◌≡◌, ℕ, ◌+◌, ◌==◌, ◌||◌, Bool, true, false, cond, ◌&&◌, List, [], ◌∷◌, ◌++◌, length, Option, Some, None, IfSome, IsSome, option_map, option_and_then, then_some, unwrap_or, filter}
use Rattle.pana_hall.proofs.Words.{filter_map, find, refl, sym, ap, ap₂, ◌∙◌, subst, inl, inr, arith, nat_tests, Entry, Report, Copy, copy_in, known_to, living, made, after_report, is_of_copies, Place, IsAccepted}
use Rattle.pana_hall.proofs.Words.{Remove, content_by, eqb-true, has, is_of, list_any, not, same_place, ◌⊎◌, In}
use Rattle.pana_family.specs.Relation.{relation}
use Rattle.pana_calls.specs.declared.call.Call.TheVariants as calls
use Rattle.pana_calls.specs.declared.call.Sighting.{Sighting}
use Rattle.pana_calls.specs.declared.call.Sighting.TheVariants.{Found, Missing}
use Rattle.pana_calls.specs.declared.cause.Cause.{Cause}
use Rattle.pana_hall.specs.declared.decision.Decision.{Decision}
use Rattle.pana_hall.specs.declared.decision.Decision.TheVariants.{Both, Known, One}
use Rattle.pana_calls.specs.declared.reply.Reply.{Reply}
use Rattle.pana_calls.specs.declared.reply.Reply.TheVariants as replies
use Rattle.pana_journal.specs.declared.report.Report.TheVariants.{Duplicate, Edit, Merge, Note, Reconcile, Register}
use Rattle.pana_event.specs.declared.rel.Rel.TheVariants as rels
use Rattle.pana_hall.specs.Living.{changed, changes, copies_of, sum_of, touched}
use Rattle.pana_hall.specs.Queries.{pair_of}
use Rattle.pana_hall.specs.Finding.{best, copy_at, decision, elsewhere, first_or, found, found_again, found_new, heir_of, holds, holds_other, missing, others, relates_to}
use Rattle.pana_hall.specs.Permit.{Permits, PermitsBy, after_decision, journal_after, reply_of}
use Rattle.pana_hall.specs.Refusal.{decision_refusal, refusal, with_report}
use Rattle.pana_hall.specs.laws.Sightings.{is_changed, is_for_two, living_after, relates_anew}
use Rattle.pana_hall.proofs.Moves.{Same, copies_of-push, found_after, made_same}
use Rattle.pana_hall.proofs.Sound.{effective-copies}
use Rattle.std.specs.Prelude.{is_none}
use Rattle.pana_family.specs.Updates.{IsSubset, is_within, union}
use Rattle.pana_family.proofs.Relations.{subset_within, within_subset}
use Rattle.pana_family.proofs.Unions.{union_members}
use Rattle.pana_family.proofs.Members.{from_both, in_filter}
use Rattle.pana_hall.proofs.Advised.{find_in, newer, newer_sets}
use Rattle.pana_hall.proofs.{Moves.found_number, Places.living_found, Related.each_in}

-- What a decision on a sighting may be.

again_by : (P : Decision → Type 0) (newer conflict : Option Copy) (held : Bool) (source : Option Copy) (alone : Bool) (unlike : Option Copy) (unknown : Bool) (n : ℕ) (sum : List ℕ)
    → ((x : Copy) → newer ≡ Some x → P (One (Reconcile n x.known.copy (Some sum))))
    → ((x : Copy) → P (One (Merge n x.known.copy (Some sum))))
    → (newer ≡ None → conflict ≡ None → held ≡ true → P (Known (Some n)))
    → P (One (Remove n None))
    → ((x : Copy) → P (Both (Edit x.known.copy (sum_of x)) (Edit n (Some sum))))
    → P (One (Note n sum))
    → P (One (Edit n (Some sum)))
    → P (first_or (One (Edit n (Some sum))) (
    option_map (λ other. One (Reconcile n other.known.copy (Some sum))) newer
    ∷ option_map (λ other. One (Merge n other.known.copy (Some sum))) conflict
    ∷ then_some held (Known (Some n))
    ∷ option_and_then (λ other. then_some alone (One (Remove n None))) source
    ∷ option_and_then (λ (other : Copy). then_some unknown (Both (Edit other.known.copy (sum_of other)) (Edit n (Some sum)))) unlike
    ∷ then_some unknown (One (Note n sum))
    ∷ []
    ))
again_by P (Some x) conflict held source alone unlike unknown n sum older apart known gone both note edit = older x refl
again_by P None (Some x) held source alone unlike unknown n sum older apart known gone both note edit = apart x
again_by P None None true source alone unlike unknown n sum older apart known gone both note edit = known refl refl refl
again_by P None None false (Some y) true unlike unknown n sum older apart known gone both note edit = gone
again_by P None None false (Some y) false (Some x) true n sum older apart known gone both note edit = both x
again_by P None None false (Some y) false (Some x) false n sum older apart known gone both note edit = edit
again_by P None None false (Some y) false None true n sum older apart known gone both note edit = note
again_by P None None false (Some y) false None false n sum older apart known gone both note edit = edit
again_by P None None false None alone (Some x) true n sum older apart known gone both note edit = both x
again_by P None None false None alone (Some x) false n sum older apart known gone both note edit = edit
again_by P None None false None alone None true n sum older apart known gone both note edit = note
again_by P None None false None alone None false n sum older apart known gone both note edit = edit

abbrev is_none_of : List Copy → Bool
is_none_of [] = true
is_none_of (c ∷ copies) = false

-- the others of its family that hold the sum, and relate so to it
abbrev pub holders : List Copy → List ℕ → Copy → List Copy
holders copies sum x = filter (holds sum) (others copies x)

new_by : (P : Decision → Type 0) (place : Place) (sum : List ℕ) (source : Option Copy) → P (One (Register place (Some sum))) → ((x : Copy) → P (One (Duplicate x.known.copy place (Some sum))))
    → P (first_or (One (Register place (Some sum))) (option_map (λ x. One (Duplicate x.known.copy place (Some sum))) source ∷ []))
new_by P place sum None register duplicate = register
new_by P place sum (Some x) register duplicate = duplicate x

pub found_cases : (P : Decision → Type 0) (copies : List Copy) (place : Place) (sum : List ℕ)
    → ((c x : Copy) → copy_at copies place ≡ Some c → best (filter (relates_to rels.Newer c) (holders copies sum c)) ≡ Some x → P (One (Reconcile c.known.copy x.known.copy (Some sum))))
    → ((n m : ℕ) → P (One (Merge n m (Some sum))))
    → ((c : Copy) → copy_at copies place ≡ Some c → best (filter (relates_to rels.Newer c) (holders copies sum c)) ≡ None → best (filter (relates_to rels.Conflict c) (holders copies sum c)) ≡ None → holds sum c ≡ true
    → P (Known (Some c.known.copy)))
    → ((c : Copy) → copy_at copies place ≡ Some c → P (One (Remove c.known.copy None)))
    → ((x : Copy) (n : ℕ) → P (Both (Edit x.known.copy (sum_of x)) (Edit n (Some sum))))
    → ((c : Copy) → copy_at copies place ≡ Some c → P (One (Note c.known.copy sum)))
    → ((c : Copy) → copy_at copies place ≡ Some c → P (One (Edit c.known.copy (Some sum))))
    → P (One (Register place (Some sum)))
    → ((n : ℕ) → P (One (Duplicate n place (Some sum))))
    → P (decision copies (Found place sum))
unfolding found
found_cases P copies place sum older apart known gone both note edit register duplicate = by_copy (copy_at copies place) refl
  where
    by_copy : (o : Option Copy) → copy_at copies place ≡ o → P (unwrap_or (option_map (found_again copies sum) o) (found_new copies place sum))
    by_copy None at = new_by P place sum (best (elsewhere copies place sum)) register (λ x. duplicate x.known.copy)
    by_copy (Some c) at =
        again_by P (best (filter (relates_to rels.Newer c) (holders copies sum c))) (best (filter (relates_to rels.Conflict c) (holders copies sum c))) (holds sum c) (best (elsewhere copies c.place sum)) (is_none_of (others copies c))
        (find (λ other. relates_to rels.Equal c other && holds_other sum other) (others copies c)) (is_none (sum_of c)) c.known.copy sum
        (λ x is. older c x at is) (λ x. apart c.known.copy x.known.copy) (λ none free held. known c at none free held) (gone c at) (λ x. both x c.known.copy) (note c at) (edit c at)

pub missing_cases : (P : Decision → Type 0) (copies : List Copy) (place : Place) → ((c : Copy) → copy_at copies place ≡ Some c → P (One (Remove c.known.copy (heir_of copies c)))) → P (Known None) → P (decision copies (Missing place))
unfolding missing
missing_cases P copies place gone none = by_copy (copy_at copies place) refl
  where
    by_copy : (o : Option Copy) → copy_at copies place ≡ o → P (unwrap_or (option_map (λ copy. One (Remove copy.known.copy (heir_of copies copy))) o) (Known None))
    by_copy None at = none
    by_copy (Some c) at = gone c at

-- its reports are of copies
abbrev AreOfCopies : Decision → Type 0
AreOfCopies (Known copy) = Unit {0}
AreOfCopies (One report) = is_of_copies report ≡ true
AreOfCopies (Both report second) = (is_of_copies report ≡ true) × (is_of_copies second ≡ true)

decided : (copies : List Copy) (sighting : Sighting) → AreOfCopies (decision copies sighting)
decided copies (Found place sum) =
    found_cases AreOfCopies copies place sum (λ c x at is. refl) (λ n m. refl) (λ c at none free held. tt) (λ c at. refl) (λ x n. (refl, refl)) (λ c at. refl) (λ c at. refl) refl (λ n. refl)
decided copies (Missing place) = missing_cases AreOfCopies copies place (λ c at. refl) tt

-- What it leaves.

-- the copies after a report of copies
after_next : (journal : List Entry) (by : List ℕ) (report : Report) → is_of_copies report ≡ true → living (with_report journal by report) ≡ after_report (length journal + 1) report (living journal)
after_next journal by report is =
    let entry : Entry = record { number = length journal + 1; by = by; report = report } in
    ap copies_of (effective-copies journal entry is) ∙ copies_of-push _ entry

found_left : (xs ys : List Copy) (c : ℕ) (x : Copy) → copy_in xs c ≡ Some x → copy_in (xs ++ ys) c ≡ Some x
found_left [] ys c x at = absurd (cc)
found_left (y ∷ xs) ys c x at = grind (arith, nat_tests, found_left xs ys c x)

stays_among : (g : Copy → Option Copy) → ((y : Copy) → IfSome (g y) (Same y)) → (c : ℕ) → ((y : Copy) → y.known.copy ≡ c → g y ≡ Some y) → (copies : List Copy) (x : Copy) → copy_in copies c ≡ Some x → copy_in (filter_map g copies) c ≡ Some x
stays_among g keeps c left [] x at = absurd (cc)
stays_among g keeps c left (y ∷ copies) x at = grind (arith, nat_tests, stays_among g keeps c left copies x)

stays : (n : ℕ) (report : Report) (copies : List Copy) (c : ℕ) (x : Copy) → changes report c ≡ false → copy_in copies c ≡ Some x → copy_in (after_report n report copies) c ≡ Some x
stays n report copies c x same at =
    found_left _ _ c x (stays_among (made n report copies) (made_same n report copies) c (λ y is. ap (λ b. cond b (changed n report copies y) (Some y)) (ap (changes report) is ∙ same)) copies x at)

stays_next : (journal : List Entry) (by : List ℕ) (report : Report) (c : ℕ) (x : Copy) → is_of_copies report ≡ true → changes report c ≡ false → copy_in (living journal) c ≡ Some x → copy_in (living (with_report journal by report)) c ≡ Some x
stays_next journal by report c x is same at = ap (λ l. copy_in l c) (after_next journal by report is) ∙ stays (length journal + 1) report (living journal) c x same at

neither : (a b : Bool) → (a || b) ≡ false → (a ≡ false) × (b ≡ false)
neither false b e = (refl, e)
neither true b e = absurd (cc)

left_decided : (journal : List Entry) (by : List ℕ) (d : Decision) (c : ℕ) (x : Copy) → AreOfCopies d → copy_in (living journal) c ≡ Some x → is_changed d c ≡ false → copy_in (living (after_decision journal by d)) c ≡ Some x
left_decided journal by (Known copy) c x are at same = at
left_decided journal by (One report) c x are at same = stays_next journal by report c x are same at
left_decided journal by (Both report second) c x are at same =
    let both = neither (changes report c) (changes second c) same in
    stays_next (with_report journal by report) by second c x are.1 both.1 (stays_next journal by report c x are.0 both.0 at)

-- what holds of the copies before, and of those where the decision is done, holds of those after
after_reply : (P : List Copy → Type 0) (journal : List Entry) (by : List ℕ) (sighting : Sighting) (reply : Reply) → P (living journal) → P (living (after_decision journal by (decision (living journal) sighting))) → P (living_after journal by sighting reply)
unfolding journal_after
after_reply P journal by sighting (replies.Did kind n) before after = after
after_reply P journal by sighting reply before after = before

pub left_alone : (journal : List Entry) (by : List ℕ) (sighting : Sighting) (reply : Reply) (c : ℕ) (x : Copy) → copy_in (living journal) c ≡ Some x → is_changed (decision (living journal) sighting) c ≡ false → copy_in (living_after journal by sighting reply) c ≡ Some x
left_alone journal by sighting reply c x at same =
    after_reply (λ l. copy_in l c ≡ Some x) journal by sighting reply at (left_decided journal by (decision (living journal) sighting) c x (decided (living journal) sighting) at same)

-- a copy that is found in two lists alike is known to them alike
known_alike : (xs ys : List Copy) (a : ℕ) → ((x : Copy) → copy_in xs a ≡ Some x → copy_in ys a ≡ Some x) → IsSome (copy_in xs a) → known_to ys a ≡ known_to xs a
known_alike xs ys a alike lives = by_copy (copy_in xs a) refl lives
  where
    by_copy : (o : Option Copy) → copy_in xs a ≡ o → IsSome o → known_to ys a ≡ known_to xs a
    by_copy None at some = absurd (cc)
    by_copy (Some x) at some = ap (λ o. unwrap_or (option_map (λ c. c.known.set) o) []) (alike x at ∙ sym at)

pub pairs_alone : (journal : List Entry) (by : List ℕ) (sighting : Sighting) (reply : Reply) (a b : ℕ) → IsSome (copy_in (living journal) a) → IsSome (copy_in (living journal) b)
    → is_changed (decision (living journal) sighting) a ≡ false → is_changed (decision (living journal) sighting) b ≡ false → pair_of (living_after journal by sighting reply) a b ≡ pair_of (living journal) a b
pairs_alone journal by sighting reply a b here there same also =
    let after = living_after journal by sighting reply in
    ap₂ relation (known_alike (living journal) after a (λ x at. left_alone journal by sighting reply a x at same) here) (known_alike (living journal) after b (λ x at. left_alone journal by sighting reply b x at also) there)

-- Nothing is done where nothing is to be done.

pub known_same : (journal : List Entry) (by : List ℕ) (sighting : Sighting) (copy : Option ℕ) → journal_after journal by (calls.Sighting sighting) (replies.Known copy) ≡ journal
unfolding journal_after
known_same journal by sighting copy = refl

pub known_decided : (journal : List Entry) (by : List ℕ) (sighting : Sighting) (copy : Option ℕ) → Permits journal by (calls.Sighting sighting) (replies.Known copy) → decision (living journal) sighting ≡ Known copy
unfolding Permits refusal
known_decided journal by sighting copy permits = by_cause (decision_refusal 8 journal by (decision (living journal) sighting)) permits
  where
    replied : (d : Decision) → replies.Known copy ≡ reply_of journal d → d ≡ Known copy
    replied (Known c) e = cc
    replied (One report) e = absurd (cc)
    replied (Both report second) e = absurd (cc)

    by_cause : (o : Option Cause) → PermitsBy o journal (calls.Sighting sighting) (replies.Known copy) → decision (living journal) sighting ≡ Known copy
    by_cause None p = elim p [ inl e ↦ replied (decision (living journal) sighting) e | inr short ↦ absurd (let e = short.2 in cc) ]
    by_cause (Some cause) p = elim p [ inl e ↦ absurd (cc) | inr e ↦ absurd (cc) ]

-- A Missing leaves the other copies as they were.

was_there : (c : ℕ) (heir : Option ℕ) (n : ℕ) (copies : List Copy) (k : ℕ) (x : Copy) → copy_in (after_report n (Remove c heir) copies) k ≡ Some x → copy_in copies k ≡ Some x
was_there c heir n copies k x at = by_copy (copy_in copies k) (sym (found_after n (Remove c heir) copies k refl) ∙ at)
  where
    by_copy : (o : Option Copy) → option_and_then (made n (Remove c heir) copies) o ≡ Some x → o ≡ Some x
    by_copy None e = e
    by_copy (Some y) e =
        elim (y.known.copy == c) as (λ b. cond b None (Some y) ≡ Some x → Some y ≡ Some x) [ true ↦ λ f. absurd (cc) | false ↦ λ f. f ] e

pub left_after_missing : (journal : List Entry) (by : List ℕ) (place : Place) (reply : Reply) (k : ℕ) (x : Copy) → copy_in (living_after journal by (Missing place) reply) k ≡ Some x → copy_in (living journal) k ≡ Some x
left_after_missing journal by place reply k x =
    after_reply (λ l. copy_in l k ≡ Some x → copy_in (living journal) k ≡ Some x) journal by (Missing place) reply (λ at. at)
    (missing_cases (λ d. copy_in (living (after_decision journal by d)) k ≡ Some x → copy_in (living journal) k ≡ Some x) (living journal) place
    (λ c is at. was_there c.known.copy (heir_of (living journal) c) (length journal + 1) (living journal) k x
    (ap (λ l. copy_in l k) (sym (after_next journal by (Remove c.known.copy (heir_of (living journal) c)) refl)) ∙ at))
    (λ at. at))

pub pairs_after_missing : (journal : List Entry) (by : List ℕ) (place : Place) (reply : Reply) (a b : ℕ)
    → IsSome (copy_in (living_after journal by (Missing place) reply) a) → IsSome (copy_in (living_after journal by (Missing place) reply) b)
    → pair_of (living_after journal by (Missing place) reply) a b ≡ pair_of (living journal) a b
pairs_after_missing journal by place reply a b here there =
    let after = living_after journal by (Missing place) reply in
    sym (ap₂ relation (known_alike after (living journal) a (left_after_missing journal by place reply a) here) (known_alike after (living journal) b (left_after_missing journal by place reply b) there))

-- A reconciled copy's relations change, and no others: what is known to the newer one is the same set.

-- two sets have the same members
abbrev Alike : List ℕ → List ℕ → Type 0
Alike a b = (u : ℕ) → has a u ≡ has b u

within_alike : (a b c d : List ℕ) → Alike a c → Alike b d → is_within a b ≡ is_within c d
within_alike a b c d e f =
    from_both (is_within a b) (is_within c d) (λ w. subset_within c d (λ u h. sym (f u) ∙ within_subset a b w u (e u ∙ h))) (λ w. subset_within a b (λ u h. f u ∙ within_subset c d w u (sym (e u) ∙ h)))

relation_alike : (a b c d : List ℕ) → Alike a c → Alike b d → relation a b ≡ relation c d
relation_alike a b c d e f = ap₂ (λ (p q : Bool). cond p (cond q rels.Equal rels.Older) (cond q rels.Newer rels.Conflict)) (within_alike a b c d e f) (within_alike b a d c f e)

or_less : (p q : Bool) → (p ≡ true → q ≡ true) → (p || q) ≡ q
or_less true q f = sym (f refl)
or_less false q f = refl

union_alike : (a b : List ℕ) → IsSubset a b → Alike (union a b) b
union_alike a b subset u = union_members a b u ∙ or_less (has a u) (has b u) (subset u)

-- the first knows no more than the second
record IsBehind (copies : List Copy) (c m : ℕ) : Type 0 where
  older : Copy
  newer : Copy
  older_lives : copy_in copies c ≡ Some older
  newer_lives : copy_in copies m ≡ Some newer
  subset : IsSubset older.known.set newer.known.set

abbrev set_known : Option Copy → List ℕ
set_known o = unwrap_or (option_map (λ c. c.known.set) o) []

reconciled_set : (p q : Bool) (t z : Copy) → p ≡ false → (q ≡ true → Alike t.known.set z.known.set) → Alike (set_known (cond (p || q) (Some t) (Some z))) z.known.set
reconciled_set true q t z e alike u = absurd (cc)
reconciled_set false true t z e alike u = alike refl u
reconciled_set false false t z e alike u = refl

known_reconciled : (n c m : ℕ) (sum : Option (List ℕ)) (copies : List Copy) (k : ℕ) → IsBehind copies c m → (k == c) ≡ false → Alike (known_to (after_report n (Reconcile c m sum) copies) k) (known_to copies k)
known_reconciled n c m sum copies k behind apart u = ap (λ o. has (set_known o) u) (found_after n (Reconcile c m sum) copies k refl) ∙ by_copy (copy_in copies k) refl
  where
    by_copy : (o : Option Copy) → copy_in copies k ≡ o → has (set_known (option_and_then (made n (Reconcile c m sum) copies) o)) u ≡ has (set_known o) u
    by_copy None at = refl
    by_copy (Some z) at =
        let number = found_number copies k z at in
        reconciled_set (z.known.copy == c) (z.known.copy == m) (touched n (union (known_to copies c) (known_to copies m)) z.place (content_by n (Reconcile c m sum) copies) z) z (ap (λ i. i == c) number ∙ apart)
        (λ e v.
        let here : copy_in copies m ≡ Some z = ap (copy_in copies) (sym (eqb-true z.known.copy m e) ∙ number) ∙ at in
        let there = behind.newer_lives in
        let same : behind.newer ≡ z = cc in
        ap₂ (λ a b. has (union a b) v) (ap set_known behind.older_lives) (ap set_known here) ∙ union_alike behind.older.known.set z.known.set (subst (λ w. IsSubset behind.older.known.set w.known.set) same behind.subset) v) u

-- a living copy is found by its number
pub found_living : (journal : List Entry) → IsAccepted 8 journal → (x : Copy) → In x (living journal) → copy_in (living journal) x.known.copy ≡ Some x
found_living journal accepted x i = each_in (λ c. copy_in (living journal) c.known.copy ≡ Some c) (living journal) x (living_found 8 journal accepted) i

pub there_at : (copies : List Copy) (place : Place) (c : Copy) → copy_at copies place ≡ Some c → In c copies × (same_place c.place place ≡ true)
there_at copies place c at = find_in (λ copy. same_place copy.place place) copies c at

pub and_right : (a b : Bool) → (a && b) ≡ true → b ≡ true
and_right true b e = e
and_right false b e = absurd (cc)

behind_of : (journal : List Entry) (sighting : Sighting) (n m : ℕ) (s : Option (List ℕ)) → IsAccepted 8 journal → decision (living journal) sighting ≡ One (Reconcile n m s) → IsBehind (living journal) n m
behind_of journal (Found place sum) n m s accepted =
    let copies = living journal in
    found_cases (λ d. d ≡ One (Reconcile n m s) → IsBehind copies n m) copies place sum
    (λ c x at is e.
    let first : c.known.copy ≡ n = cc in
    let second : x.known.copy ≡ m = cc in
    let chosen = find_in (λ copy. not (list_any (relates_to rels.Newer copy) (filter (relates_to rels.Newer c) (holders copies sum c)))) (filter (relates_to rels.Newer c) (holders copies sum c)) x is in
    let related = in_filter (relates_to rels.Newer c) (holders copies sum c) x chosen.0 in
    let holding = in_filter (holds sum) (others copies c) x related.0 in
    let other = in_filter (λ other. is_of c.family other && not (other.known.copy == c.known.copy)) copies x holding.0 in
    record {
      older = c;
      newer = x;
      older_lives = ap (copy_in copies) (sym first) ∙ found_living journal accepted c (there_at copies place c at).0;
      newer_lives = ap (copy_in copies) (sym second) ∙ found_living journal accepted x other.0;
      subset = (newer_sets c x (and_right (is_of c.family x) (newer c x) related.1)).0;
    })
    (λ a b e. absurd (cc)) (λ c at none free held e. absurd (cc)) (λ c at e. absurd (cc)) (λ x k e. absurd (cc)) (λ c at e. absurd (cc)) (λ c at e. absurd (cc)) (λ e. absurd (cc)) (λ k e. absurd (cc))
behind_of journal (Missing place) n m s accepted = missing_cases (λ d. d ≡ One (Reconcile n m s) → IsBehind (living journal) n m) (living journal) place (λ c at e. absurd (cc)) (λ e. absurd (cc))

anew_cases : (d : Decision) → ((c m : ℕ) × (s : Option (List ℕ)) × (d ≡ One (Reconcile c m s))) ⊎ ((n : ℕ) → relates_anew d n ≡ is_changed d n)
anew_cases (One (Reconcile c m s)) = inl (c, m, s, refl)
anew_cases d = inr (λ n. refl)

pub own_relations : (journal : List Entry) (by : List ℕ) (sighting : Sighting) (reply : Reply) (a b : ℕ) → IsAccepted 8 journal → IsSome (copy_in (living journal) a) → IsSome (copy_in (living journal) b)
    → relates_anew (decision (living journal) sighting) a ≡ false → relates_anew (decision (living journal) sighting) b ≡ false → pair_of (living_after journal by sighting reply) a b ≡ pair_of (living journal) a b
own_relations journal by sighting reply a b accepted here there same also = elim (anew_cases (decision (living journal) sighting)) [
  | inl r ↦
      let copies = living journal in
      let behind = behind_of journal sighting r.0 r.1 r.2 accepted r.3 in
      after_reply (λ l. pair_of l a b ≡ pair_of copies a b) journal by sighting reply refl
      (ap (λ d. pair_of (living (after_decision journal by d)) a b) r.3
      ∙ ap (λ l. pair_of l a b) (after_next journal by (Reconcile r.0 r.1 r.2) refl)
      ∙ relation_alike _ _ (known_to copies a) (known_to copies b)
      (known_reconciled (length journal + 1) r.0 r.1 r.2 copies a behind (ap (λ d. relates_anew d a) (sym r.3) ∙ same))
      (known_reconciled (length journal + 1) r.0 r.1 r.2 copies b behind (ap (λ d. relates_anew d b) (sym r.3) ∙ also)))
  | inr alike ↦ pairs_alone journal by sighting reply a b here there (sym (alike a) ∙ same) (sym (alike b) ∙ also)
]

pub own_alone : (copies : List Copy) (place : Place) (sum : List ℕ) (number : ℕ) → is_for_two (decision copies (Found place sum)) ≡ false → relates_anew (decision copies (Found place sum)) number ≡ true → option_map (λ c. c.known.copy) (copy_at copies place) ≡ Some number
own_alone copies place sum number =
    found_cases (λ d. is_for_two d ≡ false → relates_anew d number ≡ true → option_map (λ c. c.known.copy) (copy_at copies place) ≡ Some number) copies place sum
    (λ c x at is e f. it c at f) (λ a b e f. absurd (cc)) (λ c at none free held e f. absurd (cc)) (λ c at e f. it c at f) (λ x k e f. absurd (cc)) (λ c at e f. it c at f) (λ c at e f. it c at f) (λ e f. absurd (cc)) (λ k e f. absurd (cc))
  where
    it : (c : Copy) → copy_at copies place ≡ Some c → (number == c.known.copy) ≡ true → option_map (λ c. c.known.copy) (copy_at copies place) ≡ Some number
    it c at f = ap (option_map (λ c. c.known.copy)) at ∙ ap (λ k. Some k) (sym (eqb-true number c.known.copy f))
