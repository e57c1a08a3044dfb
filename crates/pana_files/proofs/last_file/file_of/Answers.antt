use Rattle.std.proofs.Common.{◌∙◌, ◌++◌, List, ℕ, ap, codes}
use Rattle.sha2.specs.Sha256.{sha256}
use Rattle.pana_files.proofs.Kept.{built}
use Rattle.pana_files.proofs.last_file.file_of.Goals as goal

pub returns : goal.returns
returns c =
    let said = built (codes "panad last 1\n") c.args.kept.now.asked c.args.kept.now.folders c.args.kept.now.text.now
    c.extend_from_slice.new.self.items c.extend_from_slice-2.new.self.items c.extend_from_slice-3.new.self.items c.push.new.self.items c.extend_from_slice-4.new.self.items c.args.kept.now.status
    (c.in_ok-extend_from_slice.ensures.items ∙ ap (λ (l : List ℕ). l ++ codes "panad last 1\n") c.new-bytes.ensures.items)
    c.in_ok-extend_from_slice-2.ensures.items c.in_ok-extend_from_slice-3.ensures.items c.in_ok-push.ensures.items (c.in_ok-extend_from_slice-4.ensures.items ∙ ap (λ (l : List ℕ). c.push.new.self.items ++ l) c.as_bytes.ensures.value) in
    c.in_ok-extend_from_slice-5.ensures.items ∙ ap (λ (l : List ℕ). c.extend_from_slice-4.new.self.items ++ l) c.digest-digest.ensures ∙ ap (λ (l : List ℕ). l ++ sha256 l) said
