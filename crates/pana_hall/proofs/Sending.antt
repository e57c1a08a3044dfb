-- A hall may go to another thread: what it has names no thread.
use denote.Param.SendFields.{declared_send, variants_send}
use denote.Param.Send.{IsSend, sendable, view_send}
use Rattle.std.proofs.boxed.Box.TheSendSync as boxes
use Rattle.std.proofs.vec.Vec.TheSendSync as vecs
use Rattle.std.proofs.option.Option.TheSendSync as options
use Rattle.std.proofs.alloc.Global.TheSendSync as global
use Rattle.std.below.std_heap.proofs.GlobalAllocator.TheSendSync as frees
use Rattle.circular_buffer.proofs.heap.HeapCircularBuffer.TheSendSync as rings
use Rattle.pana_hall.specs.contracts.kept_family.KeptFamily as kept_family
use Rattle.pana_hall.specs.contracts.kept_family.KeptFamily.TheInside as kept_inside
use Rattle.pana_hall.specs.contracts.listed_family.ListedFamily as listed_family
use Rattle.pana_hall.specs.contracts.families.Families as families
use Rattle.pana_hall.specs.contracts.state.State as state
use Rattle.pana_hall.specs.contracts.hall.Hall as hall
use Rattle.pana_hall.specs.contracts.hall.Hall.TheInside as hall_inside
use Rattle.pana_hall.specs.contracts.contents.Contents as contents
use Rattle.pana_hall.specs.contracts.undo.Before as before
use Rattle.pana_hall.specs.contracts.undo.Undo as undo
use Rattle.pana_copies.proofs.place.Place.TheSendSync as places
use Rattle.pana_journal.proofs.journal.Journal.TheSendSync as journals
use Rattle.pana_copies.proofs.copy_table.CopyTable.TheSendSync as copy_tables
use Rattle.pana_family.proofs.Sending.{change_send, family_send}

before_send : IsSend before.the_row
before_send = declared_send before.the_type (options.the_send _ (boxes.the_send _ _ _ places.the_send global.the_send frees.the_frees), (options.the_send _ (search sendable), (options.the_send _ (search sendable), tt)))

undo_send : IsSend undo.the_row
undo_send = declared_send undo.the_type (search sendable, (change_send, (before_send, tt)))

kept_family_send : IsSend kept_family.the_row
kept_family_send = view_send _ _ _ _ _ (declared_send kept_inside.the_type (search sendable, (family_send, (rings.the_send _ _ _ undo_send global.the_send frees.the_frees, tt))))

listed_family_send : IsSend listed_family.the_row
listed_family_send = variants_send listed_family.enum ((search sendable, tt), ((boxes.the_send _ _ _ kept_family_send global.the_send frees.the_frees, tt), tt))

families_send : IsSend families.the_row
families_send = declared_send families.the_type (vecs.the_send _ _ _ listed_family_send global.the_send frees.the_frees, (vecs.the_send _ _ _ (search sendable) global.the_send frees.the_frees, tt))

contents_send : IsSend contents.the_row
contents_send = declared_send contents.the_type (vecs.the_send _ _ _ (search sendable) global.the_send frees.the_frees, tt)

state_send : IsSend state.the_row
state_send = declared_send state.the_type (journals.the_send, (families_send, (copy_tables.the_send, (contents_send, tt))))

pub hall_send : IsSend hall.the_row
hall_send = view_send _ _ _ _ _ (declared_send hall_inside.the_type (global.the_send, (state_send, tt)))
