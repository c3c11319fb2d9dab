-- What may go to another thread, one type after the other. A search that goes down through all at once runs out of steps.
use denote.Ref.{NamedLft}
use denote.Param.Send.{IsSend, sendable, view_send}
use denote.Param.SendFields.{declared_send}
use Rattle.std.proofs.Crossing.{crosses, Box-send}
use Rattle.std.proofs.Crossing as heap
use Rattle.std.proofs.sync.atomic.AtomicU64.TheSendSync as atomic
use Rattle.atomic_table.proofs.shared.Seat.TheSendSync as seat
use Rattle.atomic_table.proofs.shared.Shared.TheSendSync as shared
use Rattle.mps_base.proofs.action.Role.TheSendSync as role
use Rattle.mps_base.proofs.name.Name.TheSendSync as name
use Rattle.mps_base.proofs.roles.Roles.TheSendSync as roles
use Rattle.mps_base.proofs.value.Sort.TheSendSync as sort
use Rattle.mps_base.proofs.variable.VarName.TheSendSync as variable
use Rattle.mps_local.proofs.Branches.TheLaws.TheKnot as knot
use Rattle.mps_local.specs.contracts.Local as local
use Rattle.mps_session.proofs.configuration.Configuration.TheSendSync as configuration
use Rattle.mps_session.specs.contracts.session.Session as session
use Rattle.mps_session.specs.contracts.session.Session.TheInside as session_inside
use Rattle.mps_room.proofs.journal.Journal.TheSendSync as journal
use Rattle.mps_room.proofs.heard.Heard.TheSendSync as heard
use Rattle.mps_room.proofs.numbers.Numbers.TheSendSync as numbers
use Rattle.mps_room.proofs.steps.Steps.TheSendSync as steps
use Rattle.mps_room.specs.contracts.room.Room as room
use Rattle.mps_room.specs.contracts.room.Room.TheInside as room_inside
use Rattle.mps_cell.specs.contracts.pass.Leave as leave
use Rattle.mps_cell.specs.contracts.pass.Leave.TheInside as leave_inside
use Rattle.mps_cell.specs.contracts.pass.Pass as pass
use Rattle.mps_cell.specs.contracts.pass.Pass.TheInside as pass_inside

field_send : IsSend (local.the_field).row
field_send = knot.send-Local name.the_send (λ h s. Box-send h s) variable.the_send role.the_send sort.the_field_send

local_send : IsSend local.the_row
local_send = search (sendable, field_send)

session_inside_send : IsSend session_inside.the_row
session_inside_send = declared_send session_inside.the_type (search (sendable, crosses, local_send), (search (sendable, configuration.the_send), tt))

session_send : IsSend session.the_row
session_send = search (view_send, session_inside_send)

room_inside_send : IsSend room_inside.the_row
room_inside_send = declared_send room_inside.the_type (
  search (sendable, roles.the_send),
  (search (sendable, session_send), (search (sendable, journal.the_send), (search (sendable, steps.the_send), (search (sendable, heard.the_send), (search (sendable, heap.send), tt))))),
)

pub room_send : IsSend room.the_row
room_send = search (view_send, room_inside_send)

leave_inside_send : IsSend leave_inside.the_row
leave_inside_send = declared_send leave_inside.the_type (search (sendable, seat.the_send, room_send), tt)

pub leave_send : IsSend leave.the_row
leave_send = search (view_send, leave_inside_send)

module _ (κ : NamedLft) where
  pass_inside_send : IsSend (pass_inside.the_row κ)
  pass_inside_send = declared_send (pass_inside.the_type κ) (
    search (sendable, shared.the_sync, room_send),
    (
      search (sendable, atomic.the_sync),
      (
        search (sendable, roles.the_sync),
        (search (sendable, seat.the_send, room_send), (search (sendable, role.the_send), (search (sendable), (search (sendable, numbers.the_send), tt)))),
      ),
    ),
  )

  pub pass_send : IsSend (pass.the_row κ)
  pass_send = search (view_send, pass_inside_send)
