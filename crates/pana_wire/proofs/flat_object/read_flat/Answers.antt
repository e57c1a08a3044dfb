-- The members between the braces are all of the text.
use Rattle.std.proofs.Common.{◌≡◌, ◌∷◌, List, ap, ◌∙◌, rules}
use Rattle.json.specs.Lex.{tokens}
use Rattle.json.specs.Token.{Token, begin_object, end_object}
use Rattle.pana_wire.specs.inner.FlatObject.{members_then}
use Rattle.pana_wire.proofs.FlatObject.{read_flat}
use Rattle.pana_wire.proofs.flat_object.read_flat.Goals as goal

pub returns-in-None : goal.returns-in-None
returns-in-None c =
    let ms = c.read_members.new.members.items in
    let begins : tokens c.args.text.now ≡ c.in_ok-reader.reader = search rules in
    let opens : c.in_ok-reader.reader ≡ begin_object ∷ c.next.new.self = search rules in
    let last = ap (λ (ts : List Token). members_then ms (end_object ∷ ts)) c.in-None.ensures.value.0 in
    read_flat ms c.args.text.now (begins ∙ opens ∙ ap (λ (ts : List Token). begin_object ∷ ts) (c.in_ok-read_members.ensures.tokens ∙ last)) c.in_ok-read_members.ensures.sound
