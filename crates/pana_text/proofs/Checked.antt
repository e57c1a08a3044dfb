-- What the check and the build come to.
use Rattle.std.proofs.Common.{◌≡◌, ℕ, ◌^◌, ◌<◌, ◌≤◌, List, refl, sym, ap, ◌∙◌, subst, Result, Ok, Err}
use Rattle.std.specs.Prelude.{⊤}
use Rattle.pana_id.specs.Id.{Id, IsNormal as IsNormalId, depth as depth_of_id}
use Rattle.pana_event.specs.Event.{Event, IsNormal, depth, greatest}
use Rattle.pana_text.specs.declared.fault.TextFault.{TextFault}
use Rattle.pana_text.specs.declared.fault.TextFault.TheVariants.{Syntax, TooDeep, NotNormal, TooLarge, OutOfMemory}
use Rattle.pana_text.specs.declared.id.IdKind.{IdKind}
use Rattle.pana_text.specs.declared.event.EventKind.{EventKind}
use Rattle.pana_text.specs.inner.Reading.{◌>>=◌, Fails, ids, stamp_at}
use Rattle.pana_text.specs.inner.Limits.{id_kinds, event_kinds, capped_events, judged_kinds}
use Rattle.pana_text.specs.Text.{in_two, id_text, event_text, IsTextOf, IsTextOfStamp}
use Rattle.pana_text.specs.Grammar.{Spells, event_of, Says}
use Rattle.pana_text.proofs.Again.{stamp-again, text-spells, one_spelling}
use Rattle.pana_text.proofs.FirstWrong.{read_spells, unread_says}
use Rattle.pana_text.proofs.Folds.{folded, folded-ids, folded-capped}
use Rattle.pana_text.proofs.Kept.{kind_of_id, kind_of, judged, Judged, judgement}

-- ---- the check

abbrev pub Stamped : List ℕ → Result ⊤ TextFault → Type 0
Stamped text (Ok x) = IsTextOfStamp text
Stamped text (Err e) = Says e text

text_of : (text : List ℕ) (i : Id) (e : Event) → Spells text i e → IsNormalId i → IsNormal e → greatest e < 2 ^ 64 → IsTextOf i e text
text_of text i e s n m fits =
    let small : greatest (event_of s.spelled) < 2 ^ 64 = subst (λ (f : Event). greatest f < 2 ^ 64) (sym s.event) fits in (
      record { normal = n; within = s.id_within },
      record { normal = m; shallow = s.event_within; fits = fits },
      s.whole ∙ ap (λ u. in_two (id_text i) u) (one_spelling s.spelled s.numbers small ∙ ap event_text s.event),
    )

judged-says : (text : List ℕ) (i : Id) (e : Event) (r : Result ⊤ TextFault) → Spells text i e → Judged i e r → Stamped text r
judged-says text i e (Ok x) s h = (i, e, text_of text i e s h.0 h.1 h.2)
judged-says text i e (Err NotNormal) s h = (i, e, s, h)
judged-says text i e (Err TooLarge) s h = (i, e, s, h.0, h.1, h.2)
judged-says text i e (Err _) s h = absurd h

kinds_are : (k m : IdKind × EventKind) → ◌≡◌ {A = Result (IdKind × EventKind) TextFault} (Ok k) (Ok m) → k ≡ m
kinds_are k m h = cc

stamped : (text : List ℕ) (k : IdKind × EventKind) → stamp_at id_kinds event_kinds 256 text ≡ Ok k → Stamped text (judged_kinds k)
stamped text k h =
    let (i, e, s) = read_spells id_kinds event_kinds text k h in
    let same = kinds_are k (kind_of_id i, kind_of e) (sym h ∙ stamp-again id_kinds event_kinds text i e s) in
    subst (λ x. Stamped text (judged_kinds x)) (sym same) (judged-says text i e (judged i e) s (judgement i e))

pub checked_ok : (text : List ℕ) (k : IdKind × EventKind) → stamp_at id_kinds event_kinds 256 text ≡ Ok k → judged_kinds k ≡ Ok tt → IsTextOfStamp text
checked_ok text k h j = subst (Stamped text) j (stamped text k h)

pub checked_fault : (text : List ℕ) (k : IdKind × EventKind) (e : TextFault) → stamp_at id_kinds event_kinds 256 text ≡ Ok k → judged_kinds k ≡ Err e → Says e text
checked_fault text k e h j = subst (Stamped text) j (stamped text k h)

pub checked_spelling : (text : List ℕ) (e : TextFault) → stamp_at id_kinds event_kinds 256 text ≡ Err e → Says e text
checked_spelling text e h = unread_says id_kinds event_kinds text e h

abbrev pub kinds_in : List ℕ → Result (IdKind × EventKind) TextFault
kinds_in text = stamp_at id_kinds event_kinds 256 text

abbrev pub checked : List ℕ → Result ⊤ TextFault
checked text = kinds_in text >>= judged_kinds

read_stamped : (text : List ℕ) (r : Result (IdKind × EventKind) TextFault) → kinds_in text ≡ r → Stamped text (r >>= judged_kinds)
read_stamped text (Ok k) h = stamped text k h
read_stamped text (Err e) h = checked_spelling text e h

-- what the check of a text says of it
pub checked_stamped : (text : List ℕ) → Stamped text (checked text)
checked_stamped text = read_stamped text (kinds_in text) refl

-- ---- the build

trees_are : (s t : Id × Event) → ◌≡◌ {A = Result (Id × Event) TextFault} (Ok s) (Ok t) → s ≡ t
trees_are s t h = cc

-- the text of a stamp is built as that stamp
pub built_again : (text : List ℕ) (i : Id) (e : Event) → IsTextOf i e text → stamp_at ids capped_events 256 text ≡ Ok (i, e)
built_again text i e h =
    stamp-again ids capped_events text i e (text-spells text i e h)
    ∙ (ap (λ (j : Id). Ok (j, folded capped_events e)) (folded-ids i) ∙ ap (λ (f : Event). Ok (i, f)) (folded-capped e h.1.fits))

pub built : (text : List ℕ) (i : Id) (e : Event) → IsTextOfStamp text → stamp_at ids capped_events 256 text ≡ Ok (i, e) → IsTextOf i e text
built text i e (j, f, h) b = subst (λ (s : Id × Event). IsTextOf s.0 s.1 text) (trees_are (j, f) (i, e) (sym (built_again text j f h) ∙ b)) h

pub built_id_normal : (text : List ℕ) (i : Id) (e : Event) → IsTextOfStamp text → stamp_at ids capped_events 256 text ≡ Ok (i, e) → IsNormalId i
built_id_normal text i e r h = (built text i e r h).0.normal

pub built_event_normal : (text : List ℕ) (i : Id) (e : Event) → IsTextOfStamp text → stamp_at ids capped_events 256 text ≡ Ok (i, e) → IsNormal e
built_event_normal text i e r h = (built text i e r h).1.normal

pub built_id_within : (text : List ℕ) (i : Id) (e : Event) → IsTextOfStamp text → stamp_at ids capped_events 256 text ≡ Ok (i, e) → depth_of_id i ≤ 256
built_id_within text i e r h = (built text i e r h).0.within

pub built_event_within : (text : List ℕ) (i : Id) (e : Event) → IsTextOfStamp text → stamp_at ids capped_events 256 text ≡ Ok (i, e) → depth e ≤ 256
built_event_within text i e r h = (built text i e r h).1.shallow

pub built_event_fits : (text : List ℕ) (i : Id) (e : Event) → IsTextOfStamp text → stamp_at ids capped_events 256 text ≡ Ok (i, e) → greatest e < 2 ^ 64
built_event_fits text i e r h = (built text i e r h).1.fits

not_refused : (text : List ℕ) (e : TextFault) → IsTextOfStamp text → stamp_at ids capped_events 256 text ≡ Err e → ⊥
not_refused text e (i, f, h) b = let again = built_again text i f h in cc

-- a build fails where memory runs out alone
pub build_says : (text : List ℕ) (e : TextFault) → IsTextOfStamp text → Fails e (stamp_at ids capped_events 256 text) → Says e text
build_says text OutOfMemory r h = r
build_says text e r h = absurd (not_refused text e r h)

pub ruleset builds = (built, built_id_normal, built_event_normal, built_id_within, built_event_within, built_event_fits, build_says)

pub ruleset checks = (checked_ok, checked_fault, checked_spelling)
