use Rattle.std.proofs.Common.{rules, ◌≡◌, ◌∙◌, ◌++◌, ◌+◌, ◌-◌, [], List, length, refl, sym, ap, subst, append_assoc, length-append, take-append-drop}
use native.Mathlib.Omega.{arith}
use Rattle.pana_journal.specs.declared.entry.Entry.{Entry}
use Rattle.pana_shared_store.specs.Fill.{FillsNot}
use Rattle.pana_shared_store.proofs.Filled.{filled_none, only_read}
use Rattle.pana_shared_store.proofs.Followed.{reads_none}
use Rattle.pana_shared_store.proofs.filling.fill.Goals as goal

-- how many are gone from the rest
gone : (all done rest : List Entry) → all ≡ done ++ rest → length done ≡ length all - length rest
gone all done rest split = let l : length all ≡ length (done ++ rest) = ap length split in let p = length-append done rest in omega (arith, l, p)

-- what is gone then
goes_on : (all done rest front back : List Entry) → all ≡ done ++ rest → front ++ back ≡ rest → all ≡ (done ++ front) ++ back
goes_on all done rest front back split parts = split ∙ ap (λ (l : List Entry). done ++ l) (sym parts) ∙ sym (append_assoc done front back)

pub loop-rest-init : goal.loop-rest-init
loop-rest-init g c = ([], refl, λ known. filled_none _ _ (c.requires.fresh known) (c.in-Ok.ensures.grows known))

pub returns-in-Err-clause-err : goal.returns-in-Err-clause-err
returns-in-Err-clause-err g c known = only_read _ [] 0 _ (filled_none _ _ (c.requires.fresh known) (reads_none _)) c.args.entries.now _ (c.in-Err.ensures.grows known)

pub returns-in-Err-put_part-clause-err : goal.returns-in-Err-put_part-clause-err
returns-in-Err-put_part-clause-err g c known =
    let (done, split, filled) = c.loop-rest.invariant in
    let parts : c.split_at.result.0.now ++ c.split_at.result.1.now ≡ c.loop-rest.rest.now = rw (c.split_at.ensures.front, c.split_at.ensures.back) (take-append-drop _ c.loop-rest.rest.now) in
    let next : c.loop-rest.turn + 1 ≡ c.in-Some.next = search rules in
    let whole : done ++ (c.split_at.result.0.now ++ c.split_at.result.1.now) ≡ c.args.entries.now = ap (λ (l : List Entry). done ++ l) parts ∙ sym split in
    subst (λ (l : List Entry). FillsNot c.in-Err-put_part.fault (g.L.SharedLog.seen c.args.log.now) l (g.L.SharedLog.seen c.put_part.new.log)) whole
    (c.in-Err-put_part.ensures.err known _ done _ (gone c.args.entries.now done c.loop-rest.rest.now split) next (filled known) c.split_at.result.1.now)

pub loop-rest-preserved : goal.loop-rest-preserved
loop-rest-preserved g c =
    let (done, split, filled) = c.loop-rest.invariant in
    let parts : c.split_at.result.0.now ++ c.split_at.result.1.now ≡ c.loop-rest.rest.now = rw (c.split_at.ensures.front, c.split_at.ensures.back) (take-append-drop _ c.loop-rest.rest.now) in
    let next : c.loop-rest.turn + 1 ≡ c.in-Some.next = search rules in (
      done ++ c.split_at.result.0.now,
      goes_on c.args.entries.now done c.loop-rest.rest.now c.split_at.result.0.now c.split_at.result.1.now split parts,
      λ known. c.in-Ok-put_part.ensures.ok known _ done _ (gone c.args.entries.now done c.loop-rest.rest.now split) next (filled known),
    )
