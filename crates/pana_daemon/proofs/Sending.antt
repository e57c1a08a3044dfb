-- A session at a desk may go to another thread where the session that all share may, and so may a caller.
use denote.Ref.{NamedLft}
use denote.RattleType.{RattleType}
use denote.Struct.Field.{row_field}
use denote.Param.SendFields.{as_row_send, declared_send}
use denote.Param.Send.{IsSend, IsSync, sendable, view_send, shr_send}
use Rattle.std.proofs.alloc.Global.TheSendSync as global
use Rattle.std.proofs.option.Option.TheSendSync as options
use Rattle.pana_calls.specs.declared.session.Session.{Ghosts}
use Rattle.pana_turn.specs.contracts.desk.Desk as desk
use Rattle.pana_turn.specs.contracts.pass.Pass as pass
use Rattle.pana_turn.proofs.Sending as turns
use Rattle.pana_daemon.specs.contracts.request.Request as request
use Rattle.pana_daemon.specs.contracts.request.Response as response
use Rattle.pana_daemon.specs.contracts.shared.Shared as shared
use Rattle.pana_daemon.specs.contracts.shared.Shared.TheInside as shared_inside
use Rattle.pana_daemon.specs.contracts.shared.SharedMachine.TheImpl as machine
use Rattle.pana_daemon.specs.contracts.desk_session.DeskSession as session
use Rattle.pana_daemon.specs.contracts.desk_session.DeskSession.TheInside as session_inside
use Rattle.pana_daemon.specs.contracts.post.Caller as caller
use Rattle.pana_daemon.proofs.post.Post.TheSendSync as posts

module _ (S : RattleType) (g : Ghosts S.Denot) (s : IsSend S) where
  shared_send : IsSend (shared.the_row S)
  shared_send = view_send _ _ _ _ _ (declared_send (shared_inside.the_type S) (as_row_send (row_field S) s, tt))

  -- a pass of a desk may, and threads may share the desk
  pub pass_send : IsSend (pass.the_row (shared.the_row S) request.the_row response.the_row (machine.ghosts S g machine.no_dict machine.no_dict))
  pass_send = turns.pass_send (shared.the_row S) request.the_row response.the_row (machine.ghosts S g machine.no_dict machine.no_dict) shared_send

  pub desk_sync : IsSync (desk.the_row (shared.the_row S) request.the_row response.the_row (machine.ghosts S g machine.no_dict machine.no_dict))
  desk_sync = turns.desk_sync (shared.the_row S) request.the_row response.the_row (machine.ghosts S g machine.no_dict machine.no_dict) shared_send

  pub session_send : (lft : NamedLft) (T G : RattleType) → IsSync T → IsSync G → IsSend (session.the_row lft S T G g)
  session_send lft T G t q = view_send _ _ _ _ _ (declared_send (session_inside.the_type lft S T G g) (shr_send _ _ T t, (shr_send _ _ _ desk_sync, (shr_send _ _ G q, (search sendable, (search sendable, (options.the_send _ global.the_send, (search sendable, (search sendable, (pass_send, tt))))))))))

  pub caller_send : (lft post_lft : NamedLft) (T G D F : RattleType) → IsSync T → IsSync G → IsSend D → IsSend F → IsSend (caller.the_row lft post_lft S T G D F g)
  caller_send lft post_lft T G D F t q d f = declared_send (caller.the_type lft post_lft S T G D F g) (session_send lft T G t q, (posts.the_send post_lft D F d f, tt))
