use Rattle.std.proofs.Common.{◌≡◌, ◌∷◌, [], ◌++◌, subst, ap, ◌∙◌, length, drop}
use Rattle.std.specs.Io.{StopsAt}
use Rattle.std.specs.Io.KnownBytes.{Consumes}
use Rattle.pana_client.proofs.OneLine.{stops_one}
use Rattle.pana_client.proofs.lines.read_line.Goals as goal

-- what was read is the line and its newline
pub returns-in-Some-eq10-clause-ok : goal.returns-in-Some-eq10-clause-ok
returns-in-Some-eq10-clause-ok g c =
    let line = c.pop.new.self.items in
    let bytes = c.read_until.new.buf.items in
    let whole : drop (length c.new-line.result.items) bytes ≡ line ++ 10 ∷ [] =
    ap (λ l. drop (length l) bytes) c.new-line.ensures.items ∙ c.in-Some-eq10.ensures.items ∙ ap (λ b. line ++ b ∷ []) c.in-Some-eq10.field-0-test in
    record {
      one = stops_one line (subst (λ l. StopsAt l 10) whole c.read_until.ensures.stops);
      read = subst (Consumes (g.R.Read.remaining c.args.reader.now) (g.R.Read.remaining c.read_until.new.self)) whole c.read_until.ensures.none_lost;
    }
