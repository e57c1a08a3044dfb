-- The stores of a file and of a log may go to another thread.
use denote.Exit.{no}
use denote.Param.Send.{arg_send, param_send}
use Rattle.pana_store.proofs.Sending.{store_send}
use Rattle.pana_store_file.proofs.Sending.{log_store_send}
use Rattle.pana_serve_command.proofs.daemon.serve.Goals as goal

pub serve_on-outcome-requires-send-Y-Store : goal.serve_on-outcome-requires-send-Y-Store
serve_on-outcome-requires-send-Y-Store g c κs within = param_send 3 _ (arg_send _ no _ log_store_send)

pub serve_on-outcome-requires-in-None-send-Y-Store : goal.serve_on-outcome-requires-in-None-send-Y-Store
serve_on-outcome-requires-in-None-send-Y-Store g c κs within = param_send 3 _ (arg_send _ no _ store_send)
