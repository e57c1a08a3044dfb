use Rattle.std.proofs.Common.{◌≡◌, take}
use Rattle.pana_daemon.specs.declared.objects.Opening.TheVariants.{Blank}
use Rattle.pana_daemon.specs.Objects.{opening_of}
use Rattle.pana_daemon.proofs.objects.look_at.Given as goal

-- so far there are blanks alone
abbrev pub invariant-loop-at : goal.invariant-loop-at
invariant-loop-at l = opening_of (take l.at l.bytes) ≡ Blank
