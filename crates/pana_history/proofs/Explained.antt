-- What is said of two places, by how their copies stand.
use Rattle.std.proofs.Common.{◌≡◌, ◌≢◌, ℕ, ◌==◌, Bool, true, false, cond, List, length, Option, Some, None, option_map, refl, sym, ap, ap₂, ◌∙◌}
use Rattle.pana_copies.specs.declared.place.Place.{Place}
use Rattle.pana_copies.specs.Places.{same_place}
use Rattle.pana_journal.specs.declared.entry.Entry.{Entry}
use Rattle.pana_calls.specs.declared.standing.CopyStanding.{CopyStanding}
use Rattle.pana_hall.specs.Accepted.{IsAccepted}
use Rattle.pana_hall.specs.Family.{families}
use Rattle.pana_hall.specs.Living.{Copy, living, number_of}
use Rattle.pana_hall.specs.Status.{standing_at, standing_of}
use Rattle.pana_hall.proofs.Words.{eq-eqb, ne_eqb}
use Rattle.pana_hall.proofs.Lists.{found_by}
use Rattle.pana_hall.proofs.Moves.{Fits}
use Rattle.pana_hall.proofs.Sound.{accepted_is_sound, living_fit}
use Rattle.pana_ask.specs.Place.{place_name}
use Rattle.pana_ask.specs.Verdict.{verdict_line}
use Rattle.pana_ask.specs.declared.verdict.Verdict.TheVariants.{Unrelated}
use Rattle.pana_history.specs.Lacking.{lacking}
use Rattle.pana_history.specs.Why.{are_related, copy_at, difference_text, text_of, why_text}

-- the copy that stands so at a place
pub record IsThere (journal : List Entry) (place : Place) (standing : CopyStanding) : Type 0 where
  pub copy : Copy
  pub found : copy_at (living journal) place ≡ Some copy
  pub number : standing.copy ≡ number_of copy
  pub family : standing.family ≡ copy.family
  pub of : families journal standing.copy ≡ standing.family

standing_number : (copies : List Copy) (copy : Copy) (standing : CopyStanding) → standing ≡ standing_of copies copy → (standing.copy ≡ number_of copy) × (standing.family ≡ copy.family)
unfolding standing_of
standing_number copies copy standing is = (ap (λ (s : CopyStanding). s.copy) is, ap (λ (s : CopyStanding). s.family) is)

pub there : (journal : List Entry) (place : Place) (standing : CopyStanding) → IsAccepted 8 journal → Some standing ≡ standing_at (living journal) place → IsThere journal place standing
there journal place standing accepted is = by_copy (copy_at (living journal) place) refl
  where
    by_copy : (o : Option Copy) → copy_at (living journal) place ≡ o → IsThere journal place standing
    by_copy None none = absurd (let e = is ∙ ap (option_map (standing_of (living journal))) none in cc)
    by_copy (Some copy) found =
        let e = is ∙ ap (option_map (standing_of (living journal))) found in
        let same : standing ≡ standing_of (living journal) copy = cc in
        let parts = standing_number (living journal) copy standing same in
        let fit = (found_by (λ c. same_place c.place place) (Fits (families journal) (length journal)) (living journal) copy (living_fit 8 journal (accepted_is_sound 8 journal accepted)) found).1 in
        record { copy = copy; found = found; number = parts.0; family = parts.1; of = ap (families journal) parts.0 ∙ sym fit.family ∙ sym parts.1 }

module _ (journal : List Entry) (first second : Place) (ours : CopyStanding) (here : IsThere journal first ours) (theirs : CopyStanding) (other : IsThere journal second theirs) where
  text_is : why_text journal first second ≡ text_of journal first second (Some here.copy) (Some other.copy)
  text_is = ap₂ (text_of journal first second) here.found other.found

  related_is : are_related (copy_at (living journal) first) (copy_at (living journal) second) ≡ (here.copy.family == other.copy.family)
  related_is = ap₂ are_related here.found other.found

  tested : (b : Bool) → (ours.family == theirs.family) ≡ b → (here.copy.family == other.copy.family) ≡ b
  tested b is = ap₂ (λ p q. p == q) (sym here.family) (sym other.family) ∙ is

  -- they are of two files
  pub are_apart : ours.family ≢ theirs.family → (why_text journal first second ≡ verdict_line Unrelated first second) × (are_related (copy_at (living journal) first) (copy_at (living journal) second) ≡ false)
  are_apart differ =
      let no = tested false (ne_eqb ours.family theirs.family differ) in
      (text_is ∙ ap (λ b. cond b (both here.copy.family (number_of here.copy) (number_of other.copy)) (verdict_line Unrelated first second)) no, related_is ∙ no)
    where
      both : (family a b : ℕ) → List ℕ
      both family a b = difference_text (place_name first) (place_name second) (lacking journal family a b) (lacking journal family b a)

  -- they are of one
  pub are_one : ours.family ≡ theirs.family → (why_text journal first second ≡ difference_text (place_name first) (place_name second) (lacking journal ours.family ours.copy theirs.copy) (lacking journal ours.family theirs.copy ours.copy))
      × (are_related (copy_at (living journal) first) (copy_at (living journal) second) ≡ true)
  are_one same =
      let yes = tested true (eq-eqb ours.family theirs.family same) in (
        text_is ∙ ap (λ b. cond b (both here.copy.family (number_of here.copy) (number_of other.copy)) (verdict_line Unrelated first second)) yes
            ∙ ap (λ f. both f (number_of here.copy) (number_of other.copy)) (sym here.family) ∙ ap₂ (both ours.family) (sym here.number) (sym other.number),
        related_is ∙ yes,
      )
    where
      both : (family a b : ℕ) → List ℕ
      both family a b = difference_text (place_name first) (place_name second) (lacking journal family a b) (lacking journal family b a)
