-- The store of a log in etcd may go to another thread: what a hall has names no thread, nor does the log.
use denote.Param.SendFields.{declared_send}
use denote.Param.Send.{IsSend, sendable, view_send}
use Rattle.std.proofs.alloc.Global.TheSendSync as global
use Rattle.std.proofs.option.Option.TheSendSync as options
use Rattle.pana_hall.proofs.Sending.{hall_send}
use Rattle.pana_etcd.proofs.connect.TcpConnect.TheSendSync as connects
use Rattle.pana_etcd.proofs.etcd_log.EtcdLog.TheSendSync as logs
use Rattle.pana_etcd.specs.contracts.connect.TcpConnect as tcp
use Rattle.pana_etcd.specs.contracts.etcd_log.EtcdLog as etcd_log
use Rattle.std.specs.contracts.net.tcp.TcpStream as stream
use Rattle.std.proofs.net.tcp.TcpStream.TheSendSync as streams
use Rattle.pana_shared.proofs.read_fault.ReadFault.TheSendSync as faults
use Rattle.pana_shared.specs.declared.shared_log.SharedLog.{Ghosts}
use Rattle.pana_shared_store.specs.contracts.store.SharedStore as store
use Rattle.pana_shared_store.specs.contracts.store.SharedStore.TheInside as store_inside
use Rattle.pana_store_file.specs.contracts.log_store.LogStore as log_store
use Rattle.pana_store_file.specs.contracts.log_store.LogStore.TheInside as log_store_inside

etcd_send : IsSend (etcd_log.the_row tcp.the_row stream.the_row)
etcd_send = logs.the_send _ _ connects.the_send streams.the_send

store_send : (ghosts : Ghosts (etcd_log.the_row tcp.the_row stream.the_row).Denot) → IsSend (store.the_row (etcd_log.the_row tcp.the_row stream.the_row) ghosts)
store_send ghosts = view_send _ _ _ _ _ (declared_send (store_inside.the_type (etcd_log.the_row tcp.the_row stream.the_row) ghosts) (global.the_send, (hall_send, (options.the_send _ (search sendable), (etcd_send, (search sendable, (search sendable, (options.the_send _ faults.the_send, (search sendable, tt)))))))))

pub log_store_send : IsSend log_store.the_row
log_store_send = view_send _ _ _ _ _ (declared_send log_store_inside.the_type (store_send (record { is_known = _; seen = _; silences = λ s. 0 }), tt))
