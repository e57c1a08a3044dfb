-- What shares in tickets know, and how that is divided, put together, and changed by a draw.
use Rattle.std.specs.Prelude.{ℕ, ◌+◌, ◌-◌}
use Rattle.atomic_table.specs.Seated.{TableId}
use Rattle.pana_tickets.specs.declared.hand.Hand.{Hand}

-- which tickets these are, and how many
pub record TicketsView : Type 0 where
  pub id : TableId
  pub most : ℕ

-- a share: of which tickets, and what it knows of them
pub record ShareView : Type 0 where
  pub id : TableId
  pub hand : Hand

abbrev pub hand : ℕ → ℕ → ℕ → ℕ → Hand
hand most parts drawn missed = record { most = most; parts = parts; drawn = drawn; missed = missed }

-- the whole of so many tickets, none of which is drawn
abbrev pub whole : ℕ → Hand
whole most = hand most 64 0 0

-- a share gives one of its parts away, which has drawn nothing
abbrev pub kept : Hand → Hand
kept h = hand h.most (h.parts - 1) h.drawn h.missed

abbrev pub part : Hand → Hand
part h = hand h.most 1 0 0

-- two shares together
abbrev pub joined : Hand → Hand → Hand
joined h g = hand h.most (h.parts + g.parts) (h.drawn + g.drawn) (h.missed + g.missed)

-- a share that was taken in
abbrev pub spent : Hand
spent = hand 0 0 0 0

-- a share that has drawn one more
abbrev pub one_more : Hand → Hand
one_more h = hand h.most h.parts (h.drawn + 1) h.missed

-- a share that has found none left
abbrev pub missing : Hand → Hand
missing h = hand h.most h.parts h.drawn (h.missed + 1)
