use Rattle.std.proofs.Common.{[], ◌∷◌}
use Rattle.pana_turn.proofs.desk.Desk.call.Given as goal

-- the call that is finished is the one that was made
abbrev pub ghosts-give_turn : goal.ghosts-give_turn
ghosts-give_turn g a = record { finished = record { pass = a.number; call = a.call.value; reply = a.reply.now; left = a.machine } ∷ [] }
