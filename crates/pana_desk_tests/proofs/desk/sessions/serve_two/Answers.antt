-- A hall may go to another thread.
use denote.Exit.{no}
use denote.Param.Send.{arg_send, param_send}
use Rattle.pana_hall.proofs.Sending.{hall_send}
use Rattle.pana_desk_tests.proofs.desk.sessions.serve_two.Goals as goal

pub attend-requires-send-S : goal.attend-requires-send-S
attend-requires-send-S g c κs within = param_send 0 _ (arg_send _ no _ hall_send)
