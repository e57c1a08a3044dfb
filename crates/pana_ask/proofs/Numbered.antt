-- Texts that are no numbers of entries.
use Rattle.std.proofs.Common.{◌≡◌, ◌≢◌, ◌<◌, ◌^◌, ℕ, true, not, List, Result, Ok, Err, sym, ap, ◌∙◌}
use Rattle.std.specs.Prelude.{bytes_eq, decimal}
use Rattle.std.specs.Str.Parse.{ParsesUnsigned}
use Rattle.std.proofs.lemmas.Fmt.{parse-decimal}
use Rattle.std.proofs.lemmas.Slice.Eq.{bytes_eq-Decides}

module _ {E : Type 0} (text : List ℕ) (r : Result ℕ E) (parses : ParsesUnsigned 64 10 text r) where
  -- one that can't be read
  pub unread : (fault : E) → r ≡ Err fault → (n : ℕ) → n < 2 ^ 64 → text ≢ decimal n
  unread fault is n fits same = let read : r ≡ Ok n = parse-decimal 64 n text r fits fits same parses in cc

  -- one that is read as a number which is spelled otherwise
  pub spelled_otherwise : (m : ℕ) (spelled : List ℕ) → r ≡ Ok m → spelled ≡ decimal m → not (bytes_eq spelled text) ≡ true → (n : ℕ) → n < 2 ^ 64 → text ≢ decimal n
  spelled_otherwise m spelled is of other n fits same =
      let read : r ≡ Ok n = parse-decimal 64 n text r fits fits same parses in
      let number : m ≡ n = cc in
      let equal : bytes_eq spelled text ≡ true = (bytes_eq-Decides spelled text).1 (of ∙ ap decimal number ∙ sym same) in
      absurd (let odd : not true ≡ true = sym (ap not equal) ∙ other in cc)
