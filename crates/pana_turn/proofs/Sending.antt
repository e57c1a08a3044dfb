-- A pass may go to another thread where its machine may, and then threads may share a desk.
use denote.RattleType.{RattleType}
use denote.Param.SendFields.{declared_send, declared_sync}
use denote.Param.Send.{IsSend, IsSync, sendable, view_send, view_sync}
use Rattle.std.specs.contracts.option.Option as options_row
use Rattle.std.proofs.option.Option.TheSendSync as options
use Rattle.std.proofs.alloc.Global.TheSendSync as global
use Rattle.std.below.std_heap.proofs.GlobalAllocator.TheSendSync as frees
use Rattle.atomic_table.proofs.shared.Seat.TheSendSync as seats
use Rattle.atomic_table.proofs.owned.Table.TheSendSync as tables
use Rattle.pana_turn.proofs.waits.Waits.TheSendSync as waits
use Rattle.pana_turn.specs.declared.machine.Machine.{Ghosts}
use Rattle.atomic_table.specs.contracts.owned.Table as tables_row
use Rattle.std.specs.contracts.alloc.Global as globals
use Rattle.std.specs.contracts.impls.GlobalAllocator.TheImpl as heap
use Rattle.pana_turn.specs.contracts.view.View as views
use Rattle.pana_turn.specs.contracts.turns.DeskKey as key
use Rattle.pana_turn.specs.contracts.turns.Turns as turns
use Rattle.pana_turn.specs.contracts.turns.TurnsTableRuleOptionViewCallReplyDeskKey.TheImpl as rule
use Rattle.pana_turn.specs.contracts.pass.Pass as pass
use Rattle.pana_turn.specs.contracts.pass.Pass.TheInside as pass_inside
use Rattle.pana_turn.specs.contracts.desk.Desk as desk
use Rattle.pana_turn.specs.contracts.desk.Desk.TheInside as desk_inside

module _ (M C R : RattleType) (g : Ghosts M.Denot C.Denot R.Denot) (send : IsSend M) where
  slot_send : IsSend (options_row.the_row M)
  slot_send = options.the_send M send

  pub pass_send : IsSend (pass.the_row M C R g)
  pass_send = view_send _ _ _ _ _ (declared_send (pass_inside.the_type M C R g) (seats.the_send _ _ slot_send, (search sendable, (search sendable, tt))))

  table_sync : IsSync (tables_row.the_row (options_row.the_row M) (views.the_row M C R) (key.the_row M) (turns.the_row M) globals.the_row (rule.ghosts M C R g rule.no_dict rule.no_dict rule.no_dict rule.no_dict) heap.ghosts)
  table_sync =
      tables.the_sync (options_row.the_row M) (views.the_row M C R) (key.the_row M) (turns.the_row M) globals.the_row (rule.ghosts M C R g rule.no_dict rule.no_dict rule.no_dict rule.no_dict) heap.ghosts slot_send global.the_send global.the_sync frees.the_frees

  pub desk_sync : IsSync (desk.the_row M C R g)
  desk_sync = view_sync _ _ _ _ _ (declared_sync (desk_inside.the_type M C R g) (table_sync, (search sendable, (waits.the_sync, tt))))
