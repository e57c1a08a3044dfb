-- How a shared log grows.
use Rattle.std.proofs.Common.{◌≡◌, ◌≢◌, ◌⊎◌, ◌<◌, ◌≤◌, ℕ, ◌+◌, ◌==◌, true, false, Bool, List, [], ◌∷◌, ◌++◌, length, filter, inl, inr, refl, sym, ap, subst, ◌∙◌, append_assoc, append-nil, length-append}
use native.Mathlib.Omega.{arith}
use Rattle.std.proofs.Math.Dec.{leb}
use Rattle.std.proofs.lemmas.Bool.Decides.{leb_tells}
use Rattle.std.proofs.lemmas.List.Elements.{filter-append}
use Rattle.pana_shared.specs.declared.record.Record.{Record}
use Rattle.pana_shared.specs.Log.{Follows, Grows, HaveSome, IsAt, IsOneOf, Lands, LogView, asked, loose_at, ours}
use Rattle.pana_shared.proofs.Splits.{splits, same_front}

-- the records of a writer in two lists, one behind the other
pub ours_both : (w : ℕ) (xs ys : List Record) → ours w (xs ++ ys) ≡ ours w xs ++ ours w ys
ours_both w xs ys = filter-append (λ r. r.writer == w) xs ys

-- what stands there stands there also once more has come
pub at_more : (at : ℕ) (group records more : List Record) → IsAt at group records → IsAt at group (records ++ more)
at_more at group records more is = record {
  before = is.before;
  after = is.after ++ more;
  whole = ap (λ (l : List Record). l ++ more) is.whole ∙ append_assoc is.before (group ++ is.after) more ∙ ap (λ (l : List Record). is.before ++ l) (append_assoc group is.after more);
  behind = is.behind;
}

-- a record that stands there shows that there are more than so many
pub at_within : (at : ℕ) (r : Record) (rest records : List Record) → IsAt at (r ∷ rest) records → at < length records
at_within at r rest records is =
    let whole : length records ≡ length (is.before ++ ((r ∷ rest) ++ is.after)) = ap length is.whole in
    let parts : length (is.before ++ ((r ∷ rest) ++ is.after)) ≡ length is.before + length ((r ∷ rest) ++ is.after) = length-append is.before ((r ∷ rest) ++ is.after) in
    let behind = is.behind in
    omega (arith, whole, parts, behind)

-- two groups that stand at one place begin with one record
pub at_one : (at : ℕ) (r s : Record) (rest others records : List Record) → IsAt at (r ∷ rest) records → IsAt at (s ∷ others) records → r ≡ s
at_one at r s rest others records is other =
    let same = same_front is.before other.before ((r ∷ rest) ++ is.after) ((s ∷ others) ++ other.after) (sym is.whole ∙ other.whole) (is.behind ∙ sym other.behind) in
    let tails = same.1 in
    cc

module _ (old mid : LogView) (records : List Record) (follows : Follows old mid) (before : Grows old [] mid.records) where
  longer : (made : List Record) (after : Grows mid made records) → records ≡ old.records ++ (before.more ++ after.more)
  longer made after = after.longer ∙ ap (λ (l : List Record). l ++ after.more) before.longer ∙ append_assoc old.records before.more after.more

  own_before : ours old.writer before.more ≡ before.landed
  own_before = before.own ∙ append-nil before.landed

  own_after : (made : List Record) (after : Grows mid made records) → ours old.writer after.more ≡ after.landed ++ made
  own_after made after = subst (λ (w : ℕ). ours w after.more ≡ after.landed ++ made) (follows.0) after.own

  own_both : (made : List Record) (after : Grows mid made records) → ours old.writer (before.more ++ after.more) ≡ before.landed ++ (after.landed ++ made)
  own_both made after = ours_both old.writer before.more after.more ∙ ap (λ (l : List Record). l ++ ours old.writer after.more) own_before ∙ ap (λ (l : List Record). before.landed ++ l) (own_after made after)

  -- nothing has landed behind
  grows_none : (made : List Record) (after : Grows mid made records) → after.landed ≡ [] → Grows old made records
  grows_none made after none = record {
    more = before.more ++ after.more;
    longer = longer made after;
    landed = before.landed;
    lands = lands before.lands;
    own = own_both made after ∙ ap (λ (l : List Record). before.landed ++ (l ++ made)) none;
  } where
    lands : Lands old before.landed mid.records → Lands old before.landed records
    lands (inl is) = inl is
    lands (inr (one, alive, there)) = inr (one, alive, subst (λ (l : List Record). IsAt old.at before.landed l) (sym after.longer) (at_more old.at before.landed mid.records after.more there))

  -- a group has landed behind that was loose at the start
  grows_some : (made : List Record) (after : Grows mid made records) → HaveSome old.loose → IsOneOf after.landed old.loose → length mid.records ≤ old.at → IsAt old.at after.landed records
      → Grows old made records
  grows_some made after some one alive there = record {
    more = before.more ++ after.more;
    longer = longer made after;
    landed = after.landed;
    lands = inr (one, begun, there);
    own = own_both made after ∙ ap (λ (l : List Record). l ++ (after.landed ++ made)) (nothing before.landed before.lands);
  } where
    begun : length old.records ≤ old.at
    begun = let l : length mid.records ≡ length (old.records ++ before.more) = ap length before.longer in
        let parts : length (old.records ++ before.more) ≡ length old.records + length before.more = length-append old.records before.more in
        omega (arith, l, parts, alive)

    nothing : (landed : List Record) → Lands old landed mid.records → landed ≡ []
    nothing landed (inl is) = is
    nothing [] (inr (member, early, stands)) = refl
    nothing (r ∷ rest) (inr (member, early, stands)) = absurd (let within : old.at < length mid.records = at_within old.at r rest mid.records stands in omega (arith, within, alive))

  -- the log has grown from the start as it has in between and behind
  pub grows_on : (made : List Record) → HaveSome old.loose → Grows mid made records → Grows old made records
  grows_on made some after = by_lands after.lands follows.1 where
    by_lands : Lands mid after.landed records → ((mid.at < length mid.records) ⊎ ((mid.at ≡ old.at) × ((group : List Record) → IsOneOf group mid.loose → IsOneOf group old.loose))) → Grows old made records
    by_lands (inl none) still = grows_none made after none
    by_lands (inr (one, alive, there)) (inl dead) = absurd (omega (arith, alive, dead))
    by_lands (inr (one, alive, there)) (inr (same, within)) = grows_some made after some (within after.landed one) (subst (λ (n : ℕ). length mid.records ≤ n) same alive) (subst (λ (n : ℕ). IsAt n after.landed records) same there)

-- none of the groups begins with the record
abbrev pub BeginOtherwise : Record → List (List Record) → Type 0
BeginOtherwise r groups = (s : Record) (others : List Record) → IsOneOf (s ∷ others) groups → s ≢ r

-- the record is none of these
abbrev pub IsUnused : Record → List Record → Type 0
IsUnused r records = (front back : List Record) → records ≢ front ++ (r ∷ back)

-- one of those that a test passes which looks at none is one of all, and the test passes
pub one_of_kept : (b : Bool) (group : List Record) (groups : List (List Record)) → IsOneOf group (filter (λ g. b) groups) → (b ≡ true) × IsOneOf group groups
one_of_kept true group [] one = absurd one
one_of_kept false group [] one = absurd one
one_of_kept true group (g ∷ groups) (inl is) = (refl, inl is)
one_of_kept true group (g ∷ groups) (inr one) = let rest = one_of_kept true group groups one in (refl, inr (rest.1))
one_of_kept false group (g ∷ groups) one = let rest = one_of_kept false group groups one in (rest.0, inr (rest.1))

module _ (old : LogView) (at : ℕ) (r : Record) (rest records : List Record) (grown : Grows (asked old at (r ∷ rest)) [] records) where
  -- what stands there begins with another record, so the group hasn't landed
  pub others_came : (q : Record) (page : List Record) → IsAt at (q ∷ page) records → q ≢ r → Grows old [] records
  others_came q page there other = record {
    more = grown.more;
    longer = grown.longer;
    landed = grown.landed;
    lands = by_lands grown.landed grown.lands;
    own = grown.own;
  } where
    not_ours : (landed : List Record) → landed ≡ r ∷ rest → IsAt at landed records → ⊥
    not_ours landed is stands = other (at_one at q r page rest records there (subst (λ (l : List Record). IsAt at l records) is stands))

    by_lands : (landed : List Record) → Lands (asked old at (r ∷ rest)) landed records → Lands old landed records
    by_lands landed (inl none) = inl none
    by_lands landed (inr (inl is, alive, stands)) = absurd (not_ours landed is stands)
    by_lands landed (inr (inr one, alive, stands)) =
        let kept = one_of_kept (old.at == at) landed old.loose one in
        let same : old.at ≡ at = grind (arith, kept.0) in
        inr (kept.1, subst (λ (n : ℕ). length old.records ≤ n) (sym same) alive, subst (λ (n : ℕ). IsAt n landed records) (sym same) stands)

  -- what stands there begins with the record, which is none that the writer had put, nor of what was loose: so the group has landed,
  -- all of it, and nothing else
  module _ (page : List Record) (there : IsAt at (r ∷ page) records) (own : r.writer ≡ old.writer) (some : HaveSome old.loose) (otherwise : BeginOtherwise r (loose_at at old)) (unused : IsUnused r (ours old.writer old.records)) where
    ours_from : (after : List Record) → ours old.writer ((r ∷ page) ++ after) ≡ r ∷ ours old.writer (page ++ after)
    ours_from after = grind (arith, own)

    -- it isn't one of those that were there
    is_new : length old.records ≤ at
    is_new = by_order (leb_tells (length old.records) at) where
      by_order : ((leb (length old.records) at ≡ true) × (length old.records ≤ at)) ⊎ ((leb (length old.records) at ≡ false) × (at < length old.records)) → length old.records ≤ at
      by_order (inl (_, within)) = within
      by_order (inr (_, early)) =
          let parts = splits there.before old.records ((r ∷ page) ++ there.after) grown.more (sym there.whole ∙ grown.longer) (let b = there.behind in omega (arith, b, early)) in
          absurd (by_middle parts.0 parts.1 parts.2 (let l : length old.records ≡ length (there.before ++ parts.0) = ap length parts.1 in let sum : length (there.before ++ parts.0) ≡ length there.before + length parts.0 = length-append there.before parts.0 in let b = there.behind in omega (arith, b, early, l, sum)))
        where
          by_middle : (m : List Record) → old.records ≡ there.before ++ m → (r ∷ page) ++ there.after ≡ m ++ grown.more → 0 < length m → ⊥
          by_middle [] is goes_on some_there = absurd (omega (arith, some_there))
          by_middle (x ∷ m) is goes_on some_there =
              let same : r ≡ x = cc in
              let mine : ours old.writer (x ∷ m) ≡ x ∷ ours old.writer m = (let o : x.writer ≡ old.writer = ap (λ (y : Record). y.writer) (sym same) ∙ own in grind (arith, o)) in
              unused (ours old.writer there.before) (ours old.writer m) (ap (ours old.writer) is ∙ ours_both old.writer there.before (x ∷ m) ∙ ap (λ (l : List Record). ours old.writer there.before ++ l) (mine ∙ ap (λ (y : Record). y ∷ ours old.writer m) (sym same)))

    has_it : ours old.writer grown.more ≢ []
    has_it none =
        let parts = splits old.records there.before grown.more ((r ∷ page) ++ there.after) (sym grown.longer ∙ there.whole) (let b = there.behind in omega (arith, b, is_new)) in
        let m = parts.0 in
        let is : ours old.writer grown.more ≡ ours old.writer m ++ ours old.writer ((r ∷ page) ++ there.after) = ap (ours old.writer) parts.2 ∙ ours_both old.writer m ((r ∷ page) ++ there.after) in
        let counted : length (ours old.writer grown.more) ≡ length (ours old.writer m) + length (r ∷ ours old.writer (page ++ there.after)) = ap length (is ∙ ap (λ (l : List Record). ours old.writer m ++ l) (ours_from there.after)) ∙ length-append (ours old.writer m) (r ∷ ours old.writer (page ++ there.after)) in
        let nothing : length (ours old.writer grown.more) ≡ 0 = ap length none in
        omega (arith, counted, nothing)

    by_lands : (landed : List Record) → Lands (asked old at (r ∷ rest)) landed records → ours old.writer grown.more ≡ landed → (landed ≡ r ∷ rest) × IsAt at (r ∷ rest) records
    by_lands landed (inl none) is = absurd (has_it (is ∙ none))
    by_lands landed (inr (inl same, alive, stands)) is = (same, subst (λ (l : List Record). IsAt at l records) same stands)
    by_lands [] (inr (inr one, alive, stands)) is = absurd (has_it is)
    by_lands (s ∷ others) (inr (inr one, alive, stands)) is = absurd (otherwise s others one (sym (at_one at r s page others records there stands)))

    pub ours_came : Grows old (r ∷ rest) records × IsAt at (r ∷ rest) records × (length old.records ≤ at)
    ours_came =
        let landed = by_lands grown.landed grown.lands (grown.own ∙ append-nil grown.landed) in
        (record { more = grown.more; longer = grown.longer; landed = []; lands = inl refl; own = grown.own ∙ append-nil grown.landed ∙ landed.0 }, landed.1, is_new)

  -- nothing is known of the group: it has landed, or it hasn't
  pub some_came : HaveSome old.loose → BeginOtherwise r (loose_at at old) → Grows old [] records ⊎ (Grows old (r ∷ rest) records × IsAt at (r ∷ rest) records)
  some_came some otherwise = by_lands grown.landed grown.lands grown.own where
    by_lands : (landed : List Record) → Lands (asked old at (r ∷ rest)) landed records → ours old.writer grown.more ≡ landed ++ [] → Grows old [] records ⊎ (Grows old (r ∷ rest) records × IsAt at (r ∷ rest) records)
    by_lands landed (inl none) own = inl (record { more = grown.more; longer = grown.longer; landed = []; lands = inl refl; own = own ∙ append-nil landed ∙ none })
    by_lands landed (inr (inl same, alive, stands)) own = inr (record { more = grown.more; longer = grown.longer; landed = []; lands = inl refl; own = own ∙ append-nil landed ∙ same }, subst (λ (l : List Record). IsAt at l records) same stands)
    by_lands landed (inr (inr one, alive, stands)) own =
        let kept = one_of_kept (old.at == at) landed old.loose one in
        let same : old.at ≡ at = grind (arith, kept.0) in
        inl (record {
          more = grown.more;
          longer = grown.longer;
          landed = landed;
          own = own;
          lands = inr (kept.1, subst (λ (n : ℕ). length old.records ≤ n) (sym same) alive, subst (λ (n : ℕ). IsAt n landed records) (sym same) stands);
        })
