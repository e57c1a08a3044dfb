use Rattle.std.proofs.Common.{◌≡◌, ◌==◌, ℕ, List, false, ◌-◌, length, take, drop, ap, sym, ◌∙◌, subst, arith, length-drop, rules}
use Rattle.std.proofs.lemmas.List.{take_all}
use Rattle.pana_log.specs.Lines.{recovered, text_of, kind_behind, kind_with}
use Rattle.pana_log.proofs.Begun.{kind_without, kind_with_some}
use Rattle.pana_log.proofs.lines.kind_of.Goals as goal

pub returns-then-end-eq0 : goal.returns-then-end-eq0
returns-then-end-eq0 c =
    let file = c.args.file.now in
    let none : length (text_of (recovered file)) ≡ 0 = search (rules, c.requires.end) in
    c.kind_new.ensures ∙ kind_without file (recovered file) none

pub returns-else-end-eq0 : goal.returns-else-end-eq0
returns-else-end-eq0 c =
    let file = c.args.file.now in
    let some : (length (text_of (recovered file)) == 0) ≡ false = search (rules, c.requires.end) in
    let behind : take (length file - c.args.end) (drop c.args.end file) ≡ drop c.args.end file = take_all (length file - c.args.end) (drop c.args.end file) (omega (arith, length-drop c.args.end file)) in
    c.kind_behind.ensures ∙ ap kind_behind behind ∙ subst (λ (n : ℕ). kind_behind (drop n file) ≡ kind_with file (recovered file)) (sym c.requires.end) (kind_with_some file (recovered file) some)
