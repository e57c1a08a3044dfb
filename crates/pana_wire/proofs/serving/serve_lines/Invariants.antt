-- The lines of all that was read that have ended are answered, what came since is held, and no read met the end.
use Rattle.std.proofs.Common.{◌≡◌, ℕ, ◌≤◌, ◌*◌, false, true, List, [], length}
use Rattle.std.specs.Io.KnownBytes.{Consumes}
use Rattle.pana_wire.specs.Groups.{IsPrompt}
use Rattle.pana_wire.specs.Lines.{ended, unended}
use Rattle.pana_wire.specs.Tap.{inside, has_failed, has_ended, is_flushed, MadeReads}
use Rattle.pana_wire.specs.inner.Progress.{IsHeldOf, Reaches}
use Rattle.pana_wire.proofs.serving.serve_lines.Given as goal

abbrev pub invariant-loop : goal.invariant-loop
invariant-loop g l = record {
  said : (input : List ℕ) × Consumes (g.R.Read.remaining (inside l.fn.reader)) (g.R.Read.remaining (inside l.reader)) input
      × ((reached : Reaches g.W.Write.contents g.S.Session.step g.S.Session.keeps_together g.S.Session.fails g.S.Session.settles g.S.Session.breaks_off g.S.Session.moment l.fn.writer l.writer l.fn.session (ended [] input) l.session [] l.served.calls)
      × IsPrompt g.S.Session.step g.S.Session.settles g.S.Session.moment l.fn.reader l.reader l.fn.writer l.fn.session input reached.notes)
      × IsHeldOf l.held (unended [] input) × (l.served.lines ≡ length (ended [] input));
  empty : l.answers ≡ [];
  piece : length l.piece ≡ 65536;
  calls : l.served.calls ≤ l.served.lines;
  few : l.served.lines ≤ 65536 * l.counter;
  reader : has_failed l.reader ≡ false;
  writer : has_failed l.writer ≡ false;
  flushed : is_flushed l.fn.writer ≡ true → is_flushed l.writer ≡ true;
  unended : has_ended l.reader ≡ has_ended l.fn.reader;
  made : MadeReads l.counter l.fn.reader l.reader;
}
