use Rattle.std.proofs.Common.{List, ℕ, ◌++◌, ap, ◌∙◌}
use Rattle.std.specs.Int.{w64, to_be_bytes}
use Rattle.pana_sums.specs.File.{time_bytes, record_of}
use Rattle.pana_sums.proofs.Pushed.{pushed_all}
use Rattle.pana_sums.proofs.writing.push_record.Goals as goal

pub returns : goal.returns
unfolding record_of time_bytes
returns c =
    let signature = c.args.signature.now in
    let one = c.extend_from_slice.new.self.items in
    let two = c.extend_from_slice-2.new.self.items in
    pushed_all c.args.bytes.now.items one two c.extend_from_slice-3.new.self.items c.push_time.new.bytes.items c.push_time-2.new.bytes.items c.extend_from_slice-4.new.self.items
    (to_be_bytes w64 signature.device) (to_be_bytes w64 signature.inode) (to_be_bytes w64 signature.size) (time_bytes signature.modified) (time_bytes signature.changed) c.args.digest.now
    (c.in_ok-extend_from_slice.ensures.items ∙ ap (λ (x : List ℕ). c.args.bytes.now.items ++ x) c.to_be_bytes.ensures)
    (c.in_ok-extend_from_slice-2.ensures.items ∙ ap (λ (x : List ℕ). one ++ x) c.to_be_bytes-2.ensures)
    (c.in_ok-extend_from_slice-3.ensures.items ∙ ap (λ (x : List ℕ). two ++ x) c.to_be_bytes-3.ensures)
    c.in_ok-push_time.ensures
    c.in_ok-push_time-2.ensures
    c.in_ok-extend_from_slice-4.ensures.items
