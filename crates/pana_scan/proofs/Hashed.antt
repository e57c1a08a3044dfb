-- What a hasher holds of a file, read by read.
use Rattle.std.specs.Prelude.{◌≡◌, ℕ, ◌+◌, ◌<◌, ◌≤◌, not, ◌&&◌, nat_lt, Bool, true, false, cond, List, ◌++◌, take, Option, Some, None}
use Rattle.std.proofs.Common.{refl, sym, ap, ◌∙◌, append_assoc, append-nil, arith}
use Rattle.std.proofs.lemmas.Bool.{lt-ltb, le-ltb}
use Rattle.sha2.specs.Sha256.{sha256}
use Rattle.pana_scan.specs.Disk.{Content, IsRead}
use Rattle.pana_scan.specs.Scan.{digest_of}

-- the hasher holds what so many reads have taken, and the others are to come
pub record IsHashed (first left : Content) (made : ℕ) (holds : List ℕ → Type 0) : Type 0 where
  pub taken : List ℕ
  pub bytes : first.bytes ≡ taken ++ left.bytes
  pub reads : first.reads ≡ made + left.reads
  pub fails : first.fails ≡ left.fails
  pub held : holds taken

pub hashed_more : (first old new : Content) (made n : ℕ) (piece : List ℕ) (holds holds' : List ℕ → Type 0)
    → IsHashed first old made holds → (old.bytes ≡ take n piece ++ new.bytes) × (old.reads ≡ new.reads + 1) × (old.fails ≡ new.fails)
    → ((m : List ℕ) → holds m → holds' (m ++ take n piece)) → IsHashed first new (made + 1) holds'
hashed_more first old new made n piece holds holds' hashed took more = record {
  taken = hashed.taken ++ take n piece;
  bytes = hashed.bytes ∙ ap (λ l. hashed.taken ++ l) took.0 ∙ sym (append_assoc hashed.taken (take n piece) new.bytes);
  reads = omega (arith, hashed.reads, took.1);
  fails = hashed.fails ∙ took.2;
  held = more hashed.taken hashed.held;
}

-- the end was met
pub hashed_all : (first left : Content) (made most : ℕ) (holds : List ℕ → Type 0) → IsHashed first left made holds → IsRead left false → made < most
    → (digest : List ℕ) → ((m : List ℕ) → holds m → digest ≡ sha256 m) → Some digest ≡ digest_of most first
hashed_all first left made most holds hashed end less digest is =
    let fails : first.fails ≡ false = hashed.fails ∙ end.2 in
    let within : nat_lt first.reads most ≡ true = lt-ltb first.reads most (omega (arith, hashed.reads, end.1, less)) in
    let whole : hashed.taken ≡ first.bytes = sym (hashed.bytes ∙ ap (λ l. hashed.taken ++ l) end.0 ∙ append-nil hashed.taken) in
    ap (λ d. Some d) (is hashed.taken hashed.held ∙ ap sha256 whole)
    ∙ sym (ap (λ f. cond (not f && nat_lt first.reads most) (Some (sha256 first.bytes)) None) fails ∙ ap (λ b. cond b (Some (sha256 first.bytes)) None) within)

-- a read has failed
pub hashed_fails : (first left : Content) (made most : ℕ) (holds : List ℕ → Type 0) → IsHashed first left made holds → IsRead left true → None ≡ digest_of most first
hashed_fails first left made most holds hashed end =
    sym (ap (λ f. cond (not f && nat_lt first.reads most) (Some (sha256 first.bytes)) None) (hashed.fails ∙ end.2))

none_spent : (b : Bool) (digest : Option (List ℕ)) → cond (b && false) digest None ≡ None
none_spent true digest = refl
none_spent false digest = refl

-- all reads were made
pub hashed_spent : (first left : Content) (made most : ℕ) (holds : List ℕ → Type 0) → IsHashed first left made holds → most ≤ made → None ≡ digest_of most first
hashed_spent first left made most holds hashed all =
    sym (ap (λ b. cond (not first.fails && b) (Some (sha256 first.bytes)) None) (le-ltb first.reads most (omega (arith, hashed.reads, all)))
    ∙ none_spent (not first.fails) (Some (sha256 first.bytes)))
