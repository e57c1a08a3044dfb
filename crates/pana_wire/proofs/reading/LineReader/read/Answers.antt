-- A flat object says what its value says.
use Rattle.std.proofs.Common.{◌≡◌, ℕ, List, Some, Ok, refl}
use Rattle.serde_json.specs.Read.{read}
use Rattle.pana_wire.specs.declared.flat_object.FlatObject.{FlatObject}
use Rattle.pana_wire.specs.inner.FlatObject.{flat_json}
use Rattle.pana_wire.specs.Line.{text_within, text_in, data_in, object_in, message_in, line_says}
use Rattle.pana_wire.proofs.reading.LineReader.read.Goals as goal

flat_says : (line text : List ℕ) (o : FlatObject) → text_within 65536 line ≡ Ok text → read text ≡ Some (flat_json o) → line_says line ≡ message_in (flat_json o)
unfolding line_says text_in data_in object_in
flat_says line text o within is = rw (within, is) refl

pub returns-in-Some-clause-exact : goal.returns-in-Some-clause-exact
returns-in-Some-clause-exact c = rw (flat_says _ _ c.read_flat.new.object c.in_ok-text.ensures.exact c.in-Some.ensures) c.message_in.ensures
