-- Blanks that are appended many at once.
use Rattle.std.proofs.Common.{◌≡◌, ℕ, zero, suc, ◌+◌, ◌-◌, ◌≤◌, List, ◌++◌, ap, append_assoc, arith, replicate, take, ◌∙◌}
use Rattle.std.specs.Prelude.{if◌then◌else◌, is_ok, OnOk, Result, Ok, Err}
use Rattle.std.specs.List.{slice_range}
use Rattle.std.specs.Str.{IsAscii}
use Rattle.std.proofs.lemmas.List.{replicate-append-replicate, take-replicate}

-- blanks are ASCII
pub blanks-IsAscii : (count : ℕ) → IsAscii (replicate count 32)
blanks-IsAscii zero i = omega arith
blanks-IsAscii (suc count) zero = omega arith
blanks-IsAscii (suc count) (suc i) = blanks-IsAscii count i

-- blanks behind blanks
pub blanks_behind : (text : List ℕ) (before more all : ℕ) → before + more ≡ all → text ++ replicate before 32 ++ replicate more 32 ≡ text ++ replicate all 32
blanks_behind text before more all sum =
    append_assoc text (replicate before 32) (replicate more 32) ∙ ap (λ blanks. text ++ blanks) (replicate-append-replicate before more 32 ∙ ap (λ n. replicate n 32) sum)

-- the first of 32 blanks behind blanks
pub some_behind : (text : List ℕ) (before more all : ℕ) → before + more ≡ all → more ≤ 32
    → text ++ replicate before 32 ++ slice_range (replicate 32 32) 0 more ≡ text ++ replicate all 32
some_behind text before more all sum few =
    let least : more - 0 ≡ more = omega arith in
    ap (λ blanks. text ++ replicate before 32 ++ blanks) (ap (λ n. take n (replicate 32 32)) least ∙ take-replicate more 32 32 few) ∙ blanks_behind text before more all sum

-- what was pushed by a call that succeeded
pub pushed_on_ok : {X E : Type 0} (result : Result X E) (new pushed old : List ℕ) → new ≡ (if is_ok result then pushed else old) → OnOk result (new ≡ pushed)
pushed_on_ok (Ok x) new pushed old is = is
pushed_on_ok (Err e) new pushed old is = tt
