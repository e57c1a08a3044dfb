use Rattle.std.proofs.Common.{◌≡◌, ◌∙◌, ◌∷◌, List, ℕ, ap, length, ◌-◌, true, sym, codes, Some}
use Rattle.std.specs.Str.{bytes_eq}
use Rattle.std.proofs.lemmas.Bool.Decides.{Decides-eqb}
use Rattle.std.proofs.lemmas.Slice.Eq.{bytes_eq-Decides, strip_prefix_is}
use Rattle.pana_files.proofs.Kept.{cut, is_same, whole}
use Rattle.pana_files.proofs.last_file.kept_in.Goals as goal

pub returns : goal.returns
returns c =
    let head = codes "panad last 1\n" in
    let said = c.in_ok-said.ensures.cases in
    let asked = c.in_ok-asked.ensures.cases in
    let folders = c.in_ok-folders.ensures.cases in
    let equal : bytes_eq c.digest.result c.in_ok-said.digest.now ≡ true = is_same _ (sym c.if-ne.false ∙ c.ne.ensures) in
    let same = sym c.digest.ensures ∙ (bytes_eq-Decides c.digest.result c.in_ok-said.digest.now).0 equal in
    whole head c.args.bytes.now c.in_ok-said.said.now c.in_ok-said.digest.now c.in_ok-behind_line.behind_line.now
    c.in_ok-asked.asked.now c.in_ok-asked.behind_asked.now c.in_ok-folders.folders.now c.in_ok-folders.behind_folders.now c.in-Ok.printed.now c.in_ok-status.status.now
    (cut (length c.args.bytes.now - 32) _ _ _ said.0 said.1) same
    (strip_prefix_is Decides-eqb c.in_ok-said.said.now head (Some c.in_ok-behind_line.behind_line) c.in_ok-behind_line.ensures.cases)
    (cut 32 _ _ _ asked.0 asked.1) (cut 32 _ _ _ folders.0 folders.1) (c.in_ok-status.ensures.cases.0 ∙ ap (λ (t : List ℕ). c.in_ok-status.status.now ∷ t) (sym c.in-Ok.ensures.cases.0))
