use Rattle.std.proofs.Common.{List, ℕ, ℤ, ◌++◌, ap, ◌∙◌, FitsSigned, rules}
use Rattle.std.specs.Int.{w32, w64, to_be_bytes, cast_unsigned}
use Rattle.std.proofs.lemmas.Int.{to_z-of_z}
use Rattle.pana_sums.specs.File.{time_bytes}
use Rattle.pana_sums.proofs.Pushed.{pushed_both}
use Rattle.pana_sums.proofs.writing.push_time.Goals as goal

pub returns : goal.returns
unfolding time_bytes
returns c =
    let old = c.args.bytes.now.items in
    let one = c.extend_from_slice.new.self.items in
    let time = c.args.time.now in
    let fits : FitsSigned w64 time.seconds = search rules in
    let seconds = ap (λ (z : ℤ). to_be_bytes w64 (cast_unsigned w64 z)) (to_z-of_z w64 time.seconds fits) in
    pushed_both old one c.extend_from_slice-2.new.self.items (to_be_bytes w64 (cast_unsigned w64 time.seconds)) (to_be_bytes w32 time.nanoseconds)
    (c.in_ok-extend_from_slice.ensures.items ∙ ap (λ (x : List ℕ). old ++ x) (c.to_be_bytes.ensures ∙ seconds))
    (c.in_ok-extend_from_slice-2.ensures.items ∙ ap (λ (x : List ℕ). one ++ x) c.to_be_bytes-2.ensures)
