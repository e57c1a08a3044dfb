use Rattle.std.proofs.Common.{◌≡◌, ◌∙◌, true, sym}
use Rattle.std.specs.Str.{bytes_eq}
use Rattle.std.proofs.lemmas.Bool.{both_ways}
use Rattle.std.proofs.lemmas.Bool.Decides.{Decides-eqb}
use Rattle.std.proofs.lemmas.Slice.Eq.{bytes_eq-Decides, strip_prefix_is}
use Rattle.pana_sums.specs.File.{head}
use Rattle.pana_sums.proofs.Seals.{too_short, before_is, digest_is, sealed_is, stripped, is_same, is_other}
use Rattle.pana_sums.proofs.reading.records_of.Goals as goal

pub returns-in_err-before : goal.returns-in_err-before
returns-in_err-before c = λ records. (
  λ h. let none = rw c.from_residual.ensures at h in absurd (cc),
  λ h. absurd (too_short records c.args.bytes.now c.in_err-before.ensures.cases h),
)

pub returns-then-ne : goal.returns-then-ne
returns-then-ne c = λ records. (
  λ h. absurd (cc),
  λ h.
      let same = digest_is records c.args.bytes.now c.in_ok-before.before.now c.in_ok-before.digest.now c.in_ok-before.ensures.cases.0 c.in_ok-before.ensures.cases.1 h in
      let equal : bytes_eq c.digest.result c.in_ok-before.digest.now ≡ true = (bytes_eq-Decides _ _).1 (c.digest.ensures ∙ same) in
      absurd (both_ways _ (is_other _ (sym c.if-ne.true ∙ c.ne.ensures)) equal),
)

pub returns : goal.returns
returns c = λ records.
    let cut = c.in_ok-before.ensures.cases.0 in
    let rest = c.in_ok-before.ensures.cases.1 in
    let line = strip_prefix_is Decides-eqb c.in_ok-before.before.now head c.strip_prefix.result c.strip_prefix.ensures.cases in
    let is = stripped c.in_ok-before.before.now c.strip_prefix.result line records in
    let equal : bytes_eq c.digest.result c.in_ok-before.digest.now ≡ true = is_same _ (sym c.if-ne.false ∙ c.ne.ensures) in
    let same = sym c.digest.ensures ∙ (bytes_eq-Decides c.digest.result c.in_ok-before.digest.now).0 equal in (
      λ h. sealed_is records c.args.bytes.now c.in_ok-before.before.now c.in_ok-before.digest.now cut rest same (is.0 h),
      λ h. is.1 (before_is records c.args.bytes.now c.in_ok-before.before.now cut h),
    )
