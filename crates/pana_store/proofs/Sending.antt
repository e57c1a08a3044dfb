-- A store may go to another thread: what a hall has names no thread, nor does the file that keeps it.
use denote.Struct.Field.{row_field}
use denote.Param.SendFields.{as_row_send, declared_send}
use denote.Param.Send.{IsSend, sendable, view_send}
use Rattle.std.proofs.alloc.Global.TheSendSync as global
use Rattle.pana_log.proofs.file.FileDevice.TheSendSync as devices
use Rattle.pana_log.proofs.log_state.LogState.TheSendSync as states
use Rattle.pana_seal.proofs.sealer.Sealer.TheSendSync as sealers
use Rattle.pana_log.specs.contracts.file.FileDevice as device
use Rattle.pana_log.specs.contracts.file.FileDeviceDevice.TheImpl as device_impl
use Rattle.pana_log.specs.contracts.log.Log as file_log
use Rattle.pana_hall.proofs.Sending.{hall_send}
use Rattle.pana_store.proofs.pending.Pending.TheSendSync as pendings
use Rattle.pana_store.specs.contracts.store.Store as store
use Rattle.pana_store.specs.contracts.store.Store.TheInside as store_inside

file_log_send : IsSend (file_log.the_row device.the_row)
file_log_send = declared_send (file_log.the_type device.the_row) (as_row_send (row_field device.the_row) devices.the_send, (search sendable, (states.the_send, tt)))

pub store_send : IsSend (store.the_row device.the_row device_impl.ghosts)
store_send = view_send _ _ _ _ _ (declared_send (store_inside.the_type device.the_row device_impl.ghosts) (global.the_send, (hall_send, (file_log_send, (sealers.the_send, (pendings.the_send, tt))))))
