-- What stands between the line and the digest of bytes.
use Rattle.std.proofs.Common.{◌≡◌, ℕ, ◌-◌, ◌<◌, ◌≢◌, ◌↔◌, Bool, true, false, not, List, ◌++◌, length, take, drop, Option, Some, None, Result, Ok, Err, refl, sym, ap, ◌∙◌, arith, Bor, option_copied}
use Rattle.std.specs.List.{flat_map}
use Rattle.std.specs.Prelude.{MatchOption, IfOk, IfSome, IfNone}
use Rattle.std.proofs.lemmas.List.{length-append, take_at, drop_at, take-append-drop, append_cancel_left}
use Rattle.sha2.specs.Sha256.{sha256}
use Rattle.sha2.proofs.Facts256.{length-sha256}
use Rattle.pana_sums.specs.Table.{Row, IsTable}
use Rattle.pana_sums.specs.File.{head, sealed, record_of, file_of, IsWhole}

-- bytes of less than a digest are no file
pub too_short : (records bytes : List ℕ) → length bytes < 32 → sealed records ≡ bytes → ⊥
too_short records bytes short h = omega (arith, ap length h, length-append (head ++ records) (sha256 (head ++ records)), length-sha256 (head ++ records))

-- where the digest begins
ends_at : (records bytes : List ℕ) → sealed records ≡ bytes → length (head ++ records) ≡ length bytes - 32
ends_at records bytes h = omega (arith, ap length h, length-append (head ++ records) (sha256 (head ++ records)), length-sha256 (head ++ records))

-- what stands before the digest of a file
pub before_is : (records bytes before : List ℕ) → before ≡ take (length bytes - 32) bytes → sealed records ≡ bytes → before ≡ head ++ records
before_is records bytes before cut h =
    cut ∙ ap (take (length bytes - 32)) (sym h) ∙ take_at (head ++ records) (sha256 (head ++ records)) (length bytes - 32) (ends_at records bytes h)

-- and the digest is that of it
pub digest_is : (records bytes before digest : List ℕ) → before ≡ take (length bytes - 32) bytes → digest ≡ drop (length bytes - 32) bytes → sealed records ≡ bytes → sha256 before ≡ digest
digest_is records bytes before digest cut rest h =
    ap sha256 (before_is records bytes before cut h)
    ∙ sym (rest ∙ ap (drop (length bytes - 32)) (sym h) ∙ drop_at (head ++ records) (sha256 (head ++ records)) (length bytes - 32) (ends_at records bytes h))

-- bytes that are so are a file
pub sealed_is : (records bytes before digest : List ℕ) → before ≡ take (length bytes - 32) bytes → digest ≡ drop (length bytes - 32) bytes → sha256 before ≡ digest
    → before ≡ head ++ records → sealed records ≡ bytes
sealed_is records bytes before digest cut rest digest_is line =
    ap (λ (x : List ℕ). x ++ sha256 x) (sym line) ∙ ap (λ (x : List ℕ). before ++ x) (digest_is ∙ rest) ∙ ap (λ (x : List ℕ). x ++ drop (length bytes - 32) bytes) cut
    ∙ take-append-drop (length bytes - 32) bytes

-- what is left without the line
pub stripped : (before : List ℕ) (found : Option (Bor (List ℕ))) → MatchOption found ((rest : List ℕ) → before ≢ head ++ rest) (λ x. before ≡ head ++ x.now)
    → (records : List ℕ) → (option_copied found ≡ Some records) ↔ (before ≡ head ++ records)
stripped before None none records = (λ h. absurd (cc), λ h. absurd (none records h))
stripped before (Some x) line records = (
  λ h. let same : x.now ≡ records = cc in line ∙ ap (λ (r : List ℕ). head ++ r) same,
  λ h. ap Some (append_cancel_left head x.now records (sym line ∙ h)),
)

-- what `!=` answered of the digest
pub is_same : (b : Bool) → false ≡ not b → b ≡ true
is_same true h = refl
is_same false h = absurd (cc)

pub is_other : (b : Bool) → true ≡ not b → b ≡ false
is_other true h = absurd (cc)
is_other false h = refl

-- where the records are those of a table, the bytes are its file
pub files_are : {E : Type 0} (found : Result (Option (List Row)) E) (records bytes : List ℕ) → sealed records ≡ bytes
    → IfOk found (λ f. IfSome f (λ table. flat_map record_of table ≡ records)) → IfOk found (λ f. IfSome f (λ table. file_of table ≡ bytes))
files_are (Ok None) records bytes h is = tt
files_are (Ok (Some table)) records bytes h is = ap sealed is ∙ h
files_are (Err e) records bytes h is = tt

pub one_of : (a b : List ℕ) → Some b ≡ Some a → a ≡ b
one_of a b h = cc

-- where each table whose file this is would have been found, and none was, there is none
pub none_whole : {E : Type 0} (found : Result (Option (List Row)) E) (bytes : List ℕ) → ((table : List Row) → IsTable table → file_of table ≡ bytes → IfOk found (λ f. f ≡ Some table))
    → IfOk found (λ f. IfNone f (¬ IsWhole bytes))
none_whole (Ok None) bytes all = λ whole. let found = all whole.0 whole.1 whole.2 in absurd (cc)
none_whole (Ok (Some table)) bytes all = tt
none_whole (Err e) bytes all = tt
