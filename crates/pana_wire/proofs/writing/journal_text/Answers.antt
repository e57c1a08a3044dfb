-- The object of the entries, which is read back.
use Rattle.std.proofs.Common.{◌≡◌, ap, ◌∙◌}
use Rattle.std.specs.Prelude.{codes}
use Rattle.std.proofs.lemmas.List.Elements.{All-weaker}
use Rattle.std.proofs.lemmas.Str.{is_utf8-from_IsUtf8}
use Rattle.serde_json.specs.Read.{read}
use Rattle.pana_calls.specs.declared.reply.Reply.TheVariants.{Journal}
use Rattle.pana_wire.specs.Reply.{entries_data, reply_data, reply_text}
use Rattle.pana_wire.specs.inner.LongLine.{IsKnown}
use Rattle.pana_wire.specs.inner.Names.{HasEntryNames}
use Rattle.pana_wire.proofs.EntriesBack.{page_back}
use Rattle.pana_wire.proofs.LongLine.{journal_readable, read_readable}
use Rattle.pana_wire.proofs.Pieces.{one_member}
use Rattle.pana_wire.proofs.writing.journal_text.Goals as goal

pub returns-clause-text : goal.returns-clause-text
unfolding reply_text reply_data
returns-clause-text c =
    c.written_bytes.ensures.bytes
    ∙ one_member (codes "entries") (entries_data c.args.entries.now) c.begun_text-out.result.tokens c.begin_object.new.self.tokens c.key.new.self.tokens c.write_entries.new.out.tokens c.end_object.new.self.tokens
    c.begun_text-out.ensures.tokens c.in_ok-begin_object.ensures.ok c.in_ok-key.ensures.ok c.in_ok-write_entries.ensures.tokens c.in_ok-end_object.ensures.ok

pub returns-clause-back : goal.returns-clause-back
unfolding reply_text
returns-clause-back c =
    let entries = c.args.entries.now in
    let text = c.written_bytes.result.items in
    let known = c.in_ok-write_entries.ensures.known in
    let same : text ≡ reply_text (Journal entries) = returns-clause-text c in
    page_back entries text (All-weaker IsKnown HasEntryNames (λ entry is. is.names) entries known) same
    (is_utf8-from_IsUtf8 _ c.written_bytes.ensures.utf8)
    (λ shallow. ap read same ∙ read_readable (reply_data (Journal entries)) shallow (journal_readable entries known))
