-- One line more is read.
use Rattle.std.proofs.Common.{◌≡◌, ℕ, zero, suc, ◌+◌, ◌≤◌, ◌-◌, ◌==◌, List, [], ◌∷◌, ◌++◌, length, take, drop, position, Some, None, refl, sym, ap, subst, ◌∙◌, arith, length-drop}
use Rattle.std.proofs.lemmas.List.{length-take}
use Rattle.pana_wire.specs.inner.Rounds.{AreRead, RoundView}
use Rattle.pana_wire.proofs.Cut.{cut_next, found_within, many_next}
use Rattle.pana_wire.proofs.Lines.{ended_many}
use Rattle.pana_wire.proofs.Rounds.{heard_more, read_more}
use Rattle.pana_wire.proofs.round.Round.gather.Goals as goal

-- where no line is read, none ends in the piece
some_read : (n count : ℕ) (piece rest : List ℕ) (end : ℕ) → count ≡ n → (n ≡ 0 → rest ≡ piece) → position (λ (b : ℕ). b == 10) rest ≡ None → position (λ (b : ℕ). b == 10) piece ≡ Some end → 1 ≤ count
some_read zero count piece rest end is begins none found =
    let never : None ≡ Some end = sym none ∙ ap (λ (text : List ℕ). position (λ (b : ℕ). b == 10) text) (begins refl) ∙ found in
    absurd (cc)
some_read (suc n) count piece rest end is begins none found = omega arith

pub loop-init : goal.loop-init
loop-init c =
    let none : length c.args.self.now.faults ≡ 0 = ap (λ (r : RoundView). length r.faults) c.requires in
    record {
      read = λ begun is. record {
        lines = [];
        now = begun;
        cut = record { ends = refl; left = refl };
        holds = is;
        read = subst (λ (r : RoundView). AreRead [] r.messages r.faults) (sym c.requires) refl;
      };
      lines = λ begun now. omega (arith, none, ended_many begun now c.args.piece.now);
      few = omega (arith, none);
      count = none;
      begins = λ none. refl;
    }

pub returns-in_default-clause-some : goal.returns-in_default-clause-some
returns-in_default-clause-some c end found = some_read c.loop.counter _ c.args.piece.now c.loop.rest.now end c.loop.invariant.count c.loop.invariant.begins (sym c.end_of_line.ensures ∙ c.in_default.is) found

pub loop-preserved : goal.loop-preserved
loop-preserved c =
    let so = c.loop.invariant in
    let rest = c.loop.rest.now in
    let end = c.in-Some.end in
    let later = take (length rest - (end + 1)) (drop (end + 1) rest) in
    let said = c.read_line.result in
    let found : position (λ (b : ℕ). b == 10) rest ≡ Some end = sym c.end_of_line.ensures ∙ c.in-Some.is in
    let many : length c.push.new.self.faults ≡ length c.loop.self.faults + 1 = ap (λ (r : RoundView). length r.faults) c.push.ensures ∙ heard_more c.loop.self said in
    record {
      read = λ begun is.
          let gathered = so.read begun is in
          let line = gathered.now ++ take end rest in
          record {
            lines = gathered.lines ++ line ∷ [];
            now = [];
            cut = cut_next begun c.args.piece.now gathered.lines gathered.now rest end gathered.cut found;
            holds = c.read_line.ensures.held;
            read = subst (λ (r : RoundView). AreRead (gathered.lines ++ line ∷ []) r.messages r.faults) (sym c.push.ensures) (read_more gathered.lines c.loop.self line said gathered.read (c.read_line.ensures.said gathered.now gathered.holds));
          };
      lines = λ begun now. omega (arith, many, so.lines begun now, many_next now now rest end found);
      few = omega (arith, many, so.few, length-take (length rest - (end + 1)) (drop (end + 1) rest), length-drop (end + 1) rest, (found_within rest end found).1, (found_within rest end found).0);
      count = omega (arith, many, so.count);
      begins = λ never. absurd (omega (arith, never));
    }
