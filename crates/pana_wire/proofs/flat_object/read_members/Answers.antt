-- One more member.
use Rattle.std.proofs.Common.{◌≡◌, ◌∷◌, [], ◌++◌, List, sym, ap, ◌∙◌, rules}
use Rattle.json.specs.Token.{Token, key}
use Rattle.pana_wire.specs.declared.flat_object.Member.{Member}
use Rattle.pana_wire.specs.inner.FlatObject.{content_token, members_then}
use Rattle.pana_wire.proofs.FlatObject.{one_more, sound_push}
use Rattle.pana_wire.proofs.flat_object.read_members.Goals as goal

pub loop-name-preserved : goal.loop-name-preserved
loop-name-preserved c =
    let l = c.loop-name in
    let ms = l.members.items in
    let found = c.in_ok-content-in-Key in
    let m : Member = record { name = c.in-Key.name; content = found.content } in
    let pushed : c.push.new.self.items ≡ ms ++ m ∷ [] = search rules in
    let named : l.reader ≡ key c.in-Key.name.now ∷ c.next.new.self = search rules in
    let taken : l.reader ≡ key m.name.now ∷ content_token m.content ∷ c.content_in.new.reader = named ∙ ap (λ (ts : List Token). key m.name.now ∷ ts) found.ensures.token in (
      l.invariant.0 ∙ ap (members_then ms) taken ∙ one_more ms m c.content_in.new.reader ∙ ap (λ (all : List Member). members_then all c.content_in.new.reader) (sym pushed),
      rw pushed (sound_push ms m l.invariant.1 found.ensures.sound),
    )
