-- What was gone from the rest was written, and now what this write took.
use Rattle.std.proofs.Common.{◌≡◌, ℕ, ◌-◌, List, ◌++◌, length, take, drop, sym, ap, ◌∙◌, append_assoc, take-append-drop}
use Rattle.std.proofs.lemmas.List.{take_rest}
use Rattle.std.proofs.KnownBytes.{Appends-trans}
use Rattle.pana_etcd.proofs.exchange.send.Goals as goal

moves_on : (all done rest : List ℕ) (n : ℕ) → all ≡ done ++ rest → all ≡ (done ++ take n rest) ++ take (length rest - n) (drop n rest)
moves_on all done rest n e =
    e ∙ ap (λ l. done ++ l) (sym (take-append-drop n rest)) ∙ sym (append_assoc done (take n rest) (drop n rest)) ∙ ap (λ l. (done ++ take n rest) ++ l) (sym (take_rest rest n))

pub loop-preserved : goal.loop-preserved
loop-preserved g c =
    let (done, split, written) = c.loop.invariant in
    let rest = c.loop.rest.now in
    let n = c.in_ok-taken.taken in
    (done ++ take n rest, moves_on _ done rest n split, Appends-trans _ _ _ _ _ written c.in_ok-taken.ensures.ok)
