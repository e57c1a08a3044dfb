-- A file that gets its first line.
use Rattle.std.proofs.Common.{◌≡◌, ◌⊎◌, inl, inr, ⊎_elim, ℕ, ◌==◌, false, List, [], ◌∷◌, ◌++◌, length, Ok, refl, sym, ◌∙◌}
use Rattle.std.specs.Str.{is_utf8, chars}
use Rattle.serde_json.proofs.OnLiterals.{serde_json_on_literals}
use Rattle.pana_journal.specs.declared.entry.Entry.{Entry}
use Rattle.pana_wire.specs.Line.{data_in, object_in}
use Rattle.pana_wire.specs.Dump.{objects_in, dump_says}
use Rattle.pana_log.specs.Device.{LeavesOnly}
use Rattle.pana_log.specs.Lines.{recovered, text_of, header, IsBeforeOrAfter}
use Rattle.pana_log.proofs.Moments.{then_on}
use Rattle.pana_seal.specs.Seal.{IsIntact}
use Rattle.pana_seal.proofs.Intact.{intact_none, intact_more}
use Rattle.pana_store.specs.Entries.{LoadsTo}
use Rattle.pana_store.specs.Opening.{IsSameOrBegun, with_header}
use Rattle.pana_store.proofs.Said.{loads_same}

header_says : dump_says header ≡ Ok []
unfolding dump_says data_in object_in objects_in is_utf8 chars serde_json_on_literals
header_says = refl

header_intact : IsIntact (header ∷ [])
header_intact = intact_more [] header intact_none (λ due. absurd (cc))

none_said : (es : List Entry) (file : List ℕ) → recovered file ≡ [] → LoadsTo es file → es ≡ []
none_said es file none loads = (loads_same es file [] (sym none) loads).0

-- it loads to the same entries as before
loads_either_way : (es : List Entry) (old new : List ℕ) → IsSameOrBegun old new → LoadsTo es old → LoadsTo es new
loads_either_way es old new (inl same) loads = loads_same es old new same loads
loads_either_way es old new (inr (none, begun)) loads =
    loads_same es (header ++ 10 ∷ []) new begun (([], [], header_says, refl, none_said es old none loads), header_intact)

header_or_not : (ls new : List (List ℕ)) → new ≡ with_header ls → (new ≡ ls) ⊎ ((ls ≡ []) × (new ≡ header ∷ []))
header_or_not [] new is = inr (refl, is)
header_or_not (l ∷ ls) new is = inl is

pub loads_begun : (es : List Entry) (old new : List ℕ) → recovered new ≡ with_header (recovered old) → LoadsTo es old → LoadsTo es new
loads_begun es old new is loads = loads_either_way es old new (header_or_not (recovered old) (recovered new) is) loads

-- where there is a line, it gets none
pub has_lines : (ls : List (List ℕ)) → (length (text_of ls) == 0) ≡ false → with_header ls ≡ ls
has_lines [] some = absurd (cc)
has_lines (l ∷ ls) some = refl

module _ {D : Type 0} (moment : D → ℕ) (left_since : D → ℕ → List ℕ → Type 0) where
  pub then_begun : (a b c : D) (old : List ℕ) → recovered old ≡ [] → LeavesOnly moment left_since a b (λ f. recovered f ≡ recovered old) → LeavesOnly moment left_since b c (IsBeforeOrAfter [] (header ∷ [])) → LeavesOnly moment left_since a c (IsSameOrBegun old)
  then_begun a b c old none first second =
      then_on moment left_since a b c (λ f. recovered f ≡ recovered old) (IsBeforeOrAfter [] (header ∷ [])) (IsSameOrBegun old) first second
      (λ f p. inl p)
      (λ f q. ⊎_elim (λ before. inl (before ∙ sym none)) (λ after. inr (none, after)) q)
