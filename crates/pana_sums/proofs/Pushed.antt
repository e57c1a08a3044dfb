-- Bytes that were written one after another.
use Rattle.std.proofs.Common.{◌≡◌, ℕ, List, [], ◌∷◌, ◌++◌, sym, ap, ◌∙◌, append_assoc}
use Rattle.std.specs.List.{flat_map}
use Rattle.std.proofs.lemmas.List.{append-nil}
use Rattle.std.proofs.lemmas.List.Concat.{flat_map-append}
use Rattle.sha2.specs.Sha256.{sha256}
use Rattle.pana_sums.specs.Table.{Row}
use Rattle.pana_sums.specs.File.{head, record_of, file_of}

-- what was written in two steps was written in one
pub pushed_both : (old one two first second : List ℕ) → one ≡ old ++ first → two ≡ one ++ second → two ≡ old ++ (first ++ second)
pushed_both old one two first second h g = g ∙ ap (λ (x : List ℕ). x ++ second) h ∙ append_assoc old first second

-- and so were six
pub pushed_all : (old a b c d e f one two three four five six : List ℕ) → a ≡ old ++ one → b ≡ a ++ two → c ≡ b ++ three → d ≡ c ++ four → e ≡ d ++ five → f ≡ e ++ six
    → f ≡ old ++ (one ++ (two ++ (three ++ (four ++ (five ++ six)))))
pushed_all old a b c d e f one two three four five six ha hb hc hd he hf =
    pushed_both old a f one (two ++ (three ++ (four ++ (five ++ six)))) ha
    (pushed_both a b f two (three ++ (four ++ (five ++ six))) hb
    (pushed_both b c f three (four ++ (five ++ six)) hc
    (pushed_both c d f four (five ++ six) hd
    (pushed_both d e f five six he hf))))

-- one more row was written
pub pushed_more : (first : List ℕ) (rows : List Row) (row : Row) (so_far more : List ℕ) → so_far ≡ first ++ flat_map record_of rows → more ≡ so_far ++ record_of row
    → more ≡ first ++ flat_map record_of (rows ++ row ∷ [])
pushed_more first rows row so_far more h g =
    pushed_both first so_far more (flat_map record_of rows) (record_of row) h g
    ∙ ap (λ (x : List ℕ). first ++ x) (ap (λ (x : List ℕ). flat_map record_of rows ++ x) (sym (append-nil (record_of row))) ∙ sym (flat_map-append record_of rows (row ∷ [])))

-- the digest was written behind all
pub pushed_digest : (rows : List Row) (before digest all : List ℕ) → before ≡ head ++ flat_map record_of rows → digest ≡ sha256 before → all ≡ before ++ digest → all ≡ file_of rows
pushed_digest rows before digest all h is g = g ∙ ap (λ (x : List ℕ). before ++ x) is ∙ ap (λ (x : List ℕ). x ++ sha256 x) h
