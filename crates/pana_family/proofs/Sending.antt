-- A family and a change may go to another thread: what they have names no thread.
use denote.Param.{number}
use denote.Param.SendFields.{declared_send, variants_send}
use denote.Param.Send.{IsSend, sendable, view_send}
use denote.Hole.{as_row}
use denote.Builtin.{u64}
use Rattle.std.specs.contracts.option.Option as options_row
use Rattle.std.proofs.boxed.Box.TheSendSync as boxes
use Rattle.std.proofs.sync.Arc.TheSendSync as arcs
use Rattle.std.proofs.vec.Vec.TheSendSync as vecs
use Rattle.std.proofs.option.Option.TheSendSync as options
use Rattle.std.proofs.alloc.Global.TheSendSync as global
use Rattle.std.below.std_heap.proofs.GlobalAllocator.TheSendSync as frees
use Rattle.pana_id.specs.contracts.node.Node as id_node
use Rattle.pana_id.specs.contracts.id_tree.IdTree as id_tree
use Rattle.pana_id.proofs.node.Node.TheLaws.TheKnot as id_knot
use Rattle.pana_event.specs.contracts.node.Node as event_node
use Rattle.pana_event.specs.contracts.tree.EventTree as event_tree
use Rattle.pana_event.proofs.node.Node.TheLaws.TheKnot as event_knot
use Rattle.pana_stamp.specs.contracts.stamp.Stamp as stamp
use Rattle.pana_family.specs.contracts.row.StampRow as row
use Rattle.pana_rel.proofs.pair_table.PairTable.TheSendSync as pair_tables
use Rattle.smallvec.proofs.small_vec.SmallVec.TheSendSync as small_vecs
use Rattle.pana_family.specs.contracts.change.Exchange as exchange
use Rattle.pana_family.specs.contracts.change.Change as change
use Rattle.pana_family.specs.contracts.family.Family as family
use Rattle.pana_family.specs.contracts.family.Family.TheInside as family_inside
use Rattle.std.specs.contracts.alloc.Global as globals
use Rattle.std.specs.contracts.impls.GlobalAllocator.TheImpl as heap

id_node_send : IsSend (id_node.the_field).row
id_node_send = id_knot.send-Node (search sendable) (λ h s. search (sendable, boxes.the_send, global.the_send, frees.the_frees))

id_send : IsSend id_tree.the_row
id_send = search (sendable, id_node_send)

event_node_send : IsSend (event_node.the_field).row
event_node_send =
    event_knot.both_send-Node (search sendable) (search sendable) (λ h s y. search (sendable, arcs.the_send, global.the_send, global.the_sync, frees.the_frees)) (λ h s y. search (sendable, arcs.the_sync, global.the_send, global.the_sync, frees.the_frees))

event_send : IsSend event_tree.the_row
event_send = search (sendable, event_node_send)

stamp_send : IsSend stamp.the_row
stamp_send = search (sendable, id_send, event_send)

option_send : IsSend (as_row (options_row.the_field u64))
option_send = search (sendable, options.the_field_send)

row_send : IsSend row.the_row
row_send = declared_send row.the_type (search sendable, (option_send, (stamp_send, (search sendable, tt))))

exchange_send : IsSend exchange.the_row
exchange_send = variants_send exchange.enum ((row_send, tt), ((search sendable, tt), tt))

pub change_send : IsSend change.the_row
change_send = variants_send change.enum ((search sendable, (event_send, (search sendable, tt))), ((search sendable, (search sendable, tt)), ((boxes.the_send _ _ _ (small_vecs.the_send exchange.the_row (number 2) globals.the_row heap.ghosts exchange_send global.the_send frees.the_frees) global.the_send frees.the_frees, tt), tt)))

pub family_send : IsSend family.the_row
family_send = view_send _ _ _ _ _ (declared_send family_inside.the_type (global.the_send, (vecs.the_send _ _ _ row_send global.the_send frees.the_frees, (pair_tables.the_send, tt))))
