-- Newlines of what was read, piece by piece.
use Rattle.std.proofs.Common.{◌≡◌, ◌+◌, ◌==◌, ℕ, min, Bool, true, false, List, [], ◌++◌, length, filter, Option, Some, None, IfSome, ◌&&◌, arith, sym, ap, subst, ◌∙◌, append-nil, length-append}
use Rattle.std.proofs.KnownBytes.{Consumes-nil, Consumes-trans}
use Rattle.std.proofs.lemmas.List.Elements.{filter-append}
use Rattle.std.specs.Io.KnownBytes.{Consumes}
use Rattle.atomic_table.specs.Seated.{TableId}
use Rattle.pana_ticks.specs.Hands.{ShareView, count, none_yet}
use Rattle.pana_wire.specs.Tap.{inside, has_ended, has_failed, IsUnused}
use Rattle.pana_wire.specs.declared.tap.Tap.{Tap}
use Rattle.pana_ticks.specs.declared.count.Count.{Count}
use Rattle.pana_daemon.specs.Newlines.{CountsNewlines, IsCounted, newlines_in}
use Rattle.pana_daemon.specs.Start.{VerdictView}
use Rattle.pana_daemon.specs.inner.Newlines.{CountsInput, CountsPiece}

newlines_both : (first more : List ℕ) → newlines_in (first ++ more) ≡ newlines_in first + newlines_in more
newlines_both first more =
    ap length (filter-append (λ byte. byte == 10) first more) ∙ length-append (filter (λ byte. byte == 10) first) (filter (λ byte. byte == 10) more)

-- up to 2^62
sum_counted : (first more : List ℕ) → min (min (newlines_in first) 4611686018427387904 + newlines_in more) 4611686018427387904 ≡ min (newlines_in (first ++ more)) 4611686018427387904
sum_counted first more = let both = newlines_both first more in omega (arith, both)

module _ {R : Type 0} (remaining : R → Option (List ℕ)) (ticks : TableId) where
  -- what was read so far is counted, and it hasn't ended
  pub record CountedSoFar (old new : Tap R) (counter : ShareView) : Type 0 where
    pub read : List ℕ
    pub consumed : Consumes (remaining (inside old)) (remaining (inside new)) read
    pub failed : has_failed new ≡ false
    pub ended : has_ended new ≡ false
    pub counted : counter ≡ record { id = ticks; count = count (min (newlines_in read) 4611686018427387904) false }

  pub none_counted : (old : Tap R) (counter : ShareView) → IsUnused old → counter ≡ record { id = ticks; count = none_yet } → CountedSoFar old old counter
  none_counted old counter unused new = record { read = []; consumed = Consumes-nil (remaining (inside old)); failed = unused.failed; ended = unused.ended; counted = new }

  -- a further piece is counted
  pub more_counted : (old mid new : Tap R) (before after : ShareView) (more : Bool) → more ≡ true → CountedSoFar old mid before → CountsPiece remaining more mid new before after
      → CountedSoFar old new after
  more_counted old mid new before after false is so piece = absurd (cc)
  more_counted old mid new before after true is so (read, consumed, counted, failed, ended) = record {
    read = so.read ++ read;
    consumed = Consumes-trans _ _ _ so.read read so.consumed consumed;
    failed = failed ∙ so.failed;
    ended = ended ∙ so.ended;
    counted = counted ∙ ap (λ (s : ShareView). record { id = s.id; count = count (min (s.count.ticks + newlines_in read) 4611686018427387904) false }) so.counted
        ∙ ap (λ (n : ℕ). record { id = ticks; count = count n false }) (sum_counted so.read read);
  }

  -- all is counted
  pub all_counted : (old mid new : Tap R) (before after last : ShareView) (more : Bool) → more ≡ false → CountedSoFar old mid before → CountsPiece remaining more mid new before after
      → last ≡ record { id = after.id; count = count after.count.ticks true } → (last.id ≡ ticks) × CountsNewlines remaining old new last.count
  all_counted old mid new before after last true is so piece ends = absurd (cc)
  all_counted old mid new before after last false is so (consumed, same, ended) ends = (
    ap (λ (s : ShareView). s.id) (ends ∙ ap (λ (s : ShareView). record { id = s.id; count = count s.count.ticks true }) (same ∙ so.counted)),
    record {
      read = so.read;
      consumed = subst (λ (bytes : List ℕ). Consumes (remaining (inside old)) (remaining (inside new)) bytes) (append-nil so.read) (Consumes-trans _ _ _ so.read [] so.consumed consumed);
      ended = ended;
      counted_is = ap (λ (s : ShareView). s.count) (ends ∙ ap (λ (s : ShareView). record { id = s.id; count = count s.count.ticks true }) (same ∙ so.counted));
    },
  )

-- the newlines of an input that is to be read are counted, where all has begun
pub input_counted : {R : Type 0} (remaining : R → Option (List ℕ)) (old new : Tap R) (has_roots : Bool) (verdict : VerdictView) (counted : Count) → has_roots ≡ true → verdict.begins ≡ true
    → IsUnused old → CountsNewlines remaining old new counted → CountsInput remaining has_roots (Some verdict) counted
input_counted remaining old new has_roots verdict counted is begun unused counts =
    subst (λ (b : Bool). CountsInput remaining b (Some verdict) counted) (sym is) (subst (λ (b : Bool). IsCounted remaining b counted) (sym begun) (old, new, unused, counts))

-- and else none
pub unread_counted : {R : Type 0} (remaining : R → Option (List ℕ)) (has_roots : Bool) (counted : Count) → has_roots ≡ false → counted ≡ none_yet → CountsInput remaining has_roots None counted
unread_counted remaining true counted is none = absurd (cc)
unread_counted remaining false counted is none = none

pub refused_counted : {R : Type 0} (remaining : R → Option (List ℕ)) (has_roots : Bool) (verdict : VerdictView) (counted : Count) → has_roots ≡ true → verdict.begins ≡ false → counted ≡ none_yet
    → CountsInput remaining has_roots (Some verdict) counted
refused_counted remaining true verdict counted is unbegun none = subst (λ (b : Bool). IsCounted remaining b counted) (sym unbegun) none
refused_counted remaining false verdict counted is unbegun none = absurd (cc)

-- the newlines are counted where the start comes and there are folders
pub counts_so : {R : Type 0} (remaining : R → Option (List ℕ)) (has_roots has_some begins : Bool) (asked : Option VerdictView) (counted : Count) → has_roots ≡ has_some → CountsInput remaining has_roots asked counted
    → IfSome asked (λ (verdict : VerdictView). verdict.begins ≡ begins) → IsCounted remaining (has_some && begins) counted
counts_so remaining true true begins None counted is counts same = absurd counts
counts_so remaining true true begins (Some verdict) counted is counts same = subst (λ (b : Bool). IsCounted remaining b counted) same counts
counts_so remaining false false begins asked counted is counts same = counts
counts_so remaining true false begins asked counted is counts same = absurd (cc)
counts_so remaining false true begins asked counted is counts same = absurd (cc)
