use Rattle.std.proofs.Common.{take, arith, sym, subst}
use Rattle.std.specs.Io.KnownBytes.{Consumes}
use Rattle.pana_daemon.specs.declared.objects.Opening.{Opening}
use Rattle.pana_daemon.specs.Objects.{left_of}
use Rattle.pana_daemon.proofs.Openings.{Shows, at_end, consumes}
use Rattle.pana_daemon.proofs.objects.ObjectReader.read_opening.Goals as goal

pub returns-clause-bytes : goal.returns-clause-bytes
returns-clause-bytes g c =
    let looked = c.look_at-opening.ensures in
    let inner = c.in_ok-count.ensures in
    let old = g.R.Read.remaining c.args.self.now.inner in
    let new = g.R.Read.remaining c.read.new.self in
    let given = c.look_at-opening.result.1 in
    let buffer = c.read.new.buf in
    let shows : Shows buffer c.in_ok-count.count given c.look_at-opening.result.0 = record {
      shown = looked.opening;
      given_is = looked.given;
      within = omega (arith, looked.within, inner.bound.1);
      room = inner.bound.0;
    } in (
      subst (λ (o : Opening). Consumes (left_of o old) (left_of c.look_at-opening.result.0 new) (take given buffer)) (sym c.requires)
          (consumes _ old new buffer c.in_ok-count.count given shows inner.bytes.0),
      at_end _ new buffer c.in_ok-count.count given shows inner.bytes.1,
    )
