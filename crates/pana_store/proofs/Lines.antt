-- The line of entries is whole, sealed, and their only one.
use Rattle.std.proofs.Common.{◌≡◌, inl, inr, ℕ, suc, ◌-◌, ◌<◌, ◌==◌, true, false, cond, List, [], ◌∷◌, ◌++◌, length, length-append, take, Some, refl, sym, ap, ◌∙◌, subst, arith}
use Rattle.std.specs.Prelude.{slice_get}
use Rattle.std.proofs.lemmas.List.{append-nil, take-append-le}
use Rattle.pana_journal.specs.declared.entry.Entry.{Entry}
use Rattle.pana_wire.specs.Dump.{entries_text}
use Rattle.pana_wire.specs.Seal.{entries_body, sealed_text, IsSealedLine}
use Rattle.pana_wire.specs.Lines.{ended, unended, last_line, lines_of}
use Rattle.pana_log.specs.Lines.{opens, recovered, text_of, HasNoBreak, AreLines}
use Rattle.pana_log.proofs.Recovered.{which, recovered_lines}
use Rattle.pana_seal.specs.Seal.{digest_of}
use Rattle.pana_seal.proofs.Sealed.{sealed_by}
use Rattle.pana_store.specs.Entries.{IsLineOf, IsSealedBehind}

-- how many newlines there are
abbrev breaks : List ℕ → ℕ
breaks [] = 0
breaks (b ∷ bs) = cond (b == 10) (suc (breaks bs)) (breaks bs)

-- each ends a line
ended_count : (begun bs : List ℕ) → length (ended begun (bs ++ 10 ∷ [])) ≡ suc (breaks bs)
ended_count begun [] = refl
ended_count begun (b ∷ bs) =
    elim (b == 10) as (λ t. length (cond t (begun ∷ ended [] (bs ++ 10 ∷ [])) (ended (begun ++ b ∷ []) (bs ++ 10 ∷ []))) ≡ suc (cond t (suc (breaks bs)) (breaks bs))) [
      | true ↦ omega (arith, ended_count [] bs)
      | false ↦ ended_count (begun ++ b ∷ []) bs
    ]

none_counted : (bs : List ℕ) → breaks bs ≡ 0 → HasNoBreak bs
none_counted [] none = tt
none_counted (b ∷ bs) none = elim (which (b == 10)) [
  | inl is ↦ absurd (omega (arith, sym none ∙ ap (λ t. cond t (suc (breaks bs)) (breaks bs)) is))
  | inr other ↦ (other, none_counted bs (sym (ap (λ t. cond t (suc (breaks bs)) (breaks bs)) other) ∙ none))
]

one_line : (line : List ℕ) → lines_of (line ++ 10 ∷ []) ≡ line ∷ [] → HasNoBreak line
one_line line one =
    let text : List ℕ = line ++ 10 ∷ [] in
    none_counted line (omega (arith, ap length one, length-append (ended [] text) (last_line (unended [] text)), ended_count [] line))

gate_opens : (line : List ℕ) → slice_get (line ++ 10 ∷ []) 0 ≡ Some 123 → opens line ≡ true
gate_opens [] is = absurd (let other : Some 10 ≡ Some 123 = is in cc)
gate_opens (b ∷ line) is = let gate : b ≡ 123 = (let some : Some b ≡ Some 123 = is in cc) in ap (λ (x : ℕ). x == 123) gate

some_bytes : (line text : List ℕ) → text ≡ line ++ 10 ∷ [] → 0 < length text
some_bytes line text whole = omega (arith, ap length whole, length-append line (10 ∷ []))

-- a line that is one of its text is the only one of a file
only_line : (line text : List ℕ) → text ≡ line ++ 10 ∷ [] → lines_of text ≡ line ∷ [] → slice_get text 0 ≡ Some 123 → recovered text ≡ line ∷ []
only_line line text is one gate =
    let are : AreLines (line ∷ []) = (gate_opens line (subst (λ (t : List ℕ). slice_get t 0 ≡ Some 123) is gate), one_line line (sym (ap lines_of is) ∙ one), tt) in
    ap recovered (is ∙ sym (append-nil (line ++ 10 ∷ []))) ∙ recovered_lines (line ∷ []) [] are

-- the sealed line of entries is one that a journal can hold
pub is_line : (entries : List Entry) (digest text : List ℕ) → IsSealedLine entries digest text → IsLineOf entries text
is_line entries digest text is =
    let line = sealed_text entries digest in
    let found : recovered text ≡ line ∷ [] = only_line line text is.text is.one is.opens in
    record {
      whole = record {
        some = some_bytes line text is.text;
        same = ap text_of found ∙ sym is.text;
      };
      line = line;
      one = found;
      says = is.back;
      short = is.short;
    }

pub is_sealed_behind : (before : List ℕ) (entries : List Entry) (digest text : List ℕ) → digest ≡ digest_of before (entries_body entries) → IsSealedLine entries digest text → IsSealedBehind before text
is_sealed_behind before entries digest text made is =
    (sealed_text entries digest, only_line (sealed_text entries digest) text is.text is.one is.opens, sealed_by before (entries_body entries) digest made)
