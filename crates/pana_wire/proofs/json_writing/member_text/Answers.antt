use Rattle.std.proofs.Common.{◌∙◌}
use Rattle.pana_wire.proofs.Pieces.{one_member}
use Rattle.pana_wire.proofs.json_writing.member_text.Goals as goal

pub returns-clause-text : goal.returns-clause-text
returns-clause-text g c =
    c.written_bytes.ensures.bytes
    ∙ one_member c.args.name.now (g.T.WriteJson.json c.args.content.now) c.begun_text-out.result.tokens c.begin_object.new.self.tokens c.key.new.self.tokens c.write.new.out.tokens c.end_object.new.self.tokens
    c.begun_text-out.ensures.tokens c.in_ok-begin_object.ensures.ok c.in_ok-key.ensures.ok c.in_ok-write.ensures.tokens c.in_ok-end_object.ensures.ok
