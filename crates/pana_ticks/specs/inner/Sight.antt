-- What a look by one that watches has shown.
use Rattle.std.specs.Prelude.{◌≡◌, ◌<◌, true, false}
use Rattle.pana_ticks.specs.declared.count.Count.{Count}
use Rattle.pana_ticks.specs.declared.sight.Sight.{Sight}
use Rattle.pana_ticks.specs.declared.sight.Sight.TheVariants.{More, Over, Same}
use Rattle.pana_ticks.specs.Hands.{count}

-- there are more ticks than it had seen; or no more come; or neither, and then it knows what it knew
abbrev pub Shows : Sight → Count → Count → Type 0
Shows More old new = (old.ticks < new.ticks) × (old.is_over ≡ false)
Shows Over old new = new ≡ count old.ticks true
Shows (Same low) old new = (new ≡ old) × (old.is_over ≡ false)
