use Rattle.std.proofs.Common.{◌∙◌}
use Rattle.pana_daemon.specs.Desk.{RequestSteps}
use Rattle.pana_daemon.proofs.Sessions.{is_served}
use Rattle.pana_daemon.specs.Connection.{given_by}
use Rattle.pana_daemon.proofs.connection.Connection.serve.Goals as goal

pub returns : goal.returns
returns g c = record {
  reader_old = c.new-reader.result;
  reader_new = c.serve_groups.new.reader;
  writer_old = c.new-writer.result;
  writer_new = c.serve_groups.new.writer;
  result = c.serve_groups.result;
  reads = c.new-reader.ensures.inside ∙ c.new.ensures;
  writes = c.new-writer.ensures.inside;
  unread = c.new-reader.ensures.unused;
  unwritten = c.new-writer.ensures.unused;
  served = is_served (RequestSteps g.S.Session.step g.S.Session.fails g.S.Session.settles g.S.Session.breaks_off) g.S.Session.keeps_together (given_by g.R.Read.remaining) g.W.Write.contents c.new-reader.result c.serve_groups.new.reader c.new-writer.result c.serve_groups.new.writer c.args.session.now c.serve_groups.new.session c.serve_groups.result c.serve_groups.ensures.ok c.serve_groups.ensures.fault;
}
