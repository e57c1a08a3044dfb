-- What is no JSON has that fault.
use Rattle.std.proofs.Common.{◌≡◌, None, Ok, refl}
use Rattle.serde_json.specs.Read.{read}
use Rattle.pana_wire.specs.Line.{data_in, line_says, text_in}
use Rattle.pana_wire.proofs.reading.read_value.Goals as goal

pub returns-then-not-may_be_json : goal.returns-then-not-may_be_json
unfolding line_says data_in
returns-then-not-may_be_json c =
    let is_text : text_in c.args.text.now ≡ Ok c.args.text.now = c.requires in
    let none : read c.args.text.now ≡ None = c.if-not-may_be_json.ensures refl in
    rw (is_text, none) refl
