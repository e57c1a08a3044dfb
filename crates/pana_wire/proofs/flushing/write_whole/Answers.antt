-- What was gone from the rest was written, and now what this write took.
use Rattle.std.proofs.Common.{◌≡◌, ℕ, ◌-◌, rules, List, ◌++◌, length, take, drop, sym, ap, ◌∙◌, append_assoc, take-append-drop}
use Rattle.std.proofs.lemmas.List.{take_rest}
use Rattle.std.proofs.KnownBytes.{Appends-trans}
use Rattle.pana_wire.specs.Tap.{noted}
use Rattle.pana_wire.proofs.Notes.{texts_then}
use Rattle.pana_wire.proofs.flushing.write_whole.Goals as goal

moves_on : (all done rest : List ℕ) (n : ℕ) → all ≡ done ++ rest → all ≡ (done ++ take n rest) ++ take (length rest - n) (drop n rest)
moves_on all done rest n e =
    e ∙ ap (λ l. done ++ l) (sym (take-append-drop n rest)) ∙ sym (append_assoc done (take n rest) (drop n rest)) ∙ ap (λ l. (done ++ take n rest) ++ l) (sym (take_rest rest n))

pub loop-rest-preserved : goal.loop-rest-preserved
loop-rest-preserved g c =
    let (done, split, appended, notes) = c.loop-rest.invariant.said in
    let rest = c.loop-rest.rest.now in
    let n = c.in-Ok.taken in
    record {
      said = (
        done ++ take n rest,
        moves_on _ done rest n split,
        Appends-trans _ _ _ _ _ appended c.in-Ok.ensures.bytes,
        texts_then (g.S.Session.moment c.args.session.now) (noted c.args.writer.now) (noted c.loop-rest.writer) (noted c.write.new.self) done (take n rest) notes c.in-Ok.ensures.noted,
      );
      works = search rules;
    }
