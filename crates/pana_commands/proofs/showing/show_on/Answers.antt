use Rattle.std.proofs.Common.{ℕ, List, Result, Ok, Err, IfOk, string_bytes, ap, ◌∙◌, subst}
use Rattle.pana_journal.specs.declared.entry.Entry.{Entry}
use Rattle.pana_wire.specs.Lines.{lines_of, texts}
use Rattle.pana_commands.specs.Show.{TakesLines}
use Rattle.pana_commands.specs.declared.printout.Printout.{Printout}
use Rattle.pana_commands.proofs.showing.show_on.Goals as goal

all_three : {T E : Type 0} (r : Result T E) (P Q R W : T → Type 0) → ((x : T) → P x → Q x → R x → W x) → IfOk r P → IfOk r Q → IfOk r R → IfOk r W
all_three (Ok x) P Q R W follows p q s = follows x p q s
all_three (Err e) P Q R W follows p q s = tt

pub returns : goal.returns
returns c =
    let lines = ap texts c.as_slice.ensures.value ∙ c.in_ok-lines.ensures in
    all_three c.show_lines-shown.result _ _ _ _
    (λ (answer : Printout) takes out status. (
      c.show_lines-shown.new.hall,
      subst (λ (before : List Entry). TakesLines 1 before (lines_of c.args.bytes.now) (string_bytes answer.err) c.show_lines-shown.new.hall) c.in_ok-hall.ensures
          (subst (λ (l : List (List ℕ)). TakesLines 1 c.in_ok-hall.hall l (string_bytes answer.err) c.show_lines-shown.new.hall) lines takes),
      out,
      status,
    ))
    c.show_lines-shown.ensures.takes c.show_lines-shown.ensures.out c.show_lines-shown.ensures.status
