use Rattle.std.proofs.Common.{◌≡◌, ◌∙◌, ◌++◌, List, ℕ, map, ap, rules}
use Rattle.std.specs.Map.Iter.{deref_pair}
use Rattle.std.proofs.lemmas.List.{map-append}
use Rattle.std.proofs.lemmas.Map.Iter.{iter_end}
use Rattle.pana_sums.specs.File.{head, file_of}
use Rattle.pana_sums.proofs.Pushed.{pushed_more, pushed_digest}
use Rattle.pana_sums.proofs.sum_table.SumTable.to_bytes.Goals as goal

pub loop-signature-init : goal.loop-signature-init
loop-signature-init c = c.in_ok-extend_from_slice.ensures.items ∙ ap (λ (x : List ℕ). x ++ head) c.in_ok-bytes.ensures.items

pub loop-signature-preserved : goal.loop-signature-preserved
loop-signature-preserved c =
    rw map-append (pushed_more head (map deref_pair c.loop-signature.yielded) (c.in-Some.signature.now, c.in-Some.digest.now) c.loop-signature.bytes.items c.push_record.new.bytes.items c.loop-signature.invariant c.in_ok-push_record.ensures)

pub returns-clause-file : goal.returns-clause-file
returns-clause-file c =
    let all : map deref_pair c.loop-signature.yielded ≡ c.self.inside.sums.entries = search (rules, iter_end) in
    pushed_digest _ c.loop-signature.bytes.items c.digest-digest.result c.extend_from_slice-2.new.self.items c.loop-signature.invariant c.digest-digest.ensures c.in_ok-extend_from_slice-2.ensures.items
    ∙ ap file_of (all ∙ c.self.view_is)
