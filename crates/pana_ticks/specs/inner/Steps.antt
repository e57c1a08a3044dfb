-- What a step on the word of ticks shows.
use Rattle.std.specs.Prelude.{◌≡◌, ℕ, true, false, ◌+◌, []}
use Rattle.atomic_table.specs.Table.{Me}
use Rattle.pana_ticks.specs.declared.count.Count.{Count}
use Rattle.pana_ticks.specs.declared.hand.Hand.{Hand}
use Rattle.pana_ticks.specs.declared.hand.Hand.TheVariants.{Counter, Watcher}
use Rattle.pana_ticks.specs.Hands.{HasSeen, count, count_of, met_by}
use Rattle.pana_ticks.specs.Rule.{word_of}

module _ {S : Type 0} where
  -- more ticks are counted; the word changes by twice as many
  abbrev pub Adds : ℕ → Me S Hand → ℕ → Me S Hand → Type 0
  Adds change me found me' = (more : ℕ) × (change ≡ more + more) × (me' ≡ (Counter (count ((count_of me.0).ticks + more) false), []))

  -- no more come
  abbrev pub Closes : Me S Hand → ℕ → Me S Hand → Type 0
  Closes me found me' = me' ≡ (Counter (count (count_of me.0).ticks true), [])

  -- one that watches sees what the word says, which is no less than it has seen, and the same where it has seen that no more come
  pub record Looks (me : Me S Hand) (found : ℕ) (me' : Me S Hand) : Type 0 where
    pub seen : Count
    pub found_is : found ≡ word_of seen
    pub past : HasSeen seen (count_of me.0)
    pub is : me' ≡ (Watcher seen, [])

  -- the one that counts sees what the one that it has met had seen, and forgets it
  pub record Compares (me : Me S Hand) (found : ℕ) (me' : Me S Hand) : Type 0 where
    pub seen : HasSeen (count_of me.0) (met_by me.0)
    pub is : me' ≡ (Counter (count_of me.0), [])
