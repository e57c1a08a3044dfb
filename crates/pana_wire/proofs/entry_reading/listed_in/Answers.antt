-- One more entry.
use Rattle.std.proofs.Common.{◌≡◌, ◌<◌, ◌∷◌, [], ◌++◌, List, length, Ok, sym, ap, subst, ◌∙◌, rules, arith}
use Rattle.json.specs.Token.{Token, begin_object, end_object}
use Rattle.pana_journal.specs.declared.entry.Entry.{Entry}
use Rattle.pana_wire.specs.declared.flat_object.FlatObject.{FlatObject}
use Rattle.pana_wire.specs.Dump.{entry_in}
use Rattle.pana_wire.specs.inner.FlatObject.{flat_json, members_then}
use Rattle.pana_wire.specs.inner.FlatEntries.{AreListed}
use Rattle.pana_wire.proofs.FlatEntries.{entry_said, listed_more, members_long}
use Rattle.pana_wire.proofs.entry_reading.listed_in.Goals as goal

pub loop-entries-smaller : goal.loop-entries-smaller
loop-entries-smaller c =
    let found = c.in_ok-read_members-in-BeginObject.ensures in
    let ms = c.read_members.new.members.items in
    let opened : c.loop-entries.reader ≡ begin_object ∷ c.next.new.self = search rules in
    let one : length c.loop-entries.reader ≡ length (begin_object ∷ c.next.new.self) = ap length opened in
    let more : length c.next.new.self ≡ length (members_then ms (end_object ∷ c.read_members.new.reader)) = ap length found.tokens in
    let less : length c.read_members.new.reader < length c.loop-entries.reader = omega (arith, one, more, members_long ms (end_object ∷ c.read_members.new.reader)) in
    less

pub loop-entries-preserved : goal.loop-entries-preserved
loop-entries-preserved c =
    let so = c.loop-entries in
    let found = c.in_ok-read_members-in-BeginObject.ensures in
    let said = c.in_ok-entry-in-BeginObject in
    let o : FlatObject = record { members = c.read_members.new.members } in
    let opened : so.reader ≡ begin_object ∷ c.next.new.self = search rules in
    let is : so.reader ≡ begin_object ∷ members_then o.members.items (end_object ∷ c.read_members.new.reader) = opened ∙ ap (λ (ts : List Token). begin_object ∷ ts) found.tokens in
    let says : entry_in (flat_json o) ≡ Ok said.entry = entry_said c.entry_in.result said.entry (entry_in (flat_json o)) said.ensures.value c.entry_in.ensures in
    let pushed : c.push.new.self.items ≡ so.entries.items ++ said.entry ∷ [] = search rules in
    subst (λ (es : List Entry). AreListed c.args.reader.now c.read_members.new.reader es) (sym pushed)
    (listed_more c.args.reader.now so.reader c.read_members.new.reader so.entries.items o said.entry so.invariant is found.sound says)
