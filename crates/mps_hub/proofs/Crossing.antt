-- What threads may share, one type after the other. A search that goes down through all at once runs out of steps.
use denote.RattleType.{RattleType}
use denote.Ref.{NamedLft}
use denote.Param.Send.{IsSend, IsSync, sendable, view_send, view_sync}
use denote.Param.SendFields.{declared_send, declared_sync}
use Rattle.std.proofs.Crossing.{crosses}
use Rattle.std.proofs.Crossing as heap
use Rattle.std.proofs.option.Option.TheSendSync as option
use Rattle.std.specs.contracts.alloc.Global as global
use Rattle.std.specs.contracts.impls.GlobalAllocator.TheImpl as allocator
use Rattle.std.specs.contracts.snapshot.Snapshot as snapshot
use Rattle.atomic_table.proofs.shared.Shared.TheSendSync as shared
use Rattle.atomic_table.proofs.send_lease.SendLease.TheSendSync as lease
use Rattle.atomic_table.specs.contracts.owned.Table as table
use Rattle.mps_base.proofs.roles.Roles.TheSendSync as roles
use Rattle.mps_cell.proofs.Crossing.{pass_send}
use Rattle.mps_hub.specs.contracts.desk.Desk as desk
use Rattle.mps_hub.specs.contracts.desk.Desk.TheInside as desk_inside
use Rattle.mps_hub.specs.contracts.desk.Places as places
use Rattle.mps_hub.specs.contracts.desk.Places.TheInside as places_inside
use Rattle.mps_hub.specs.contracts.desk.Row as row
use Rattle.mps_hub.specs.contracts.desk.Row.TheInside as row_inside
use Rattle.mps_hub.specs.contracts.lock.Steady as steady
use Rattle.mps_hub.proofs.shares.Shares.TheSendSync as shares
use Rattle.mps_hub.proofs.waiting.Waits.TheSendSync as waits
use Rattle.mps_hub.specs.contracts.lock.SteadyTableRuleSnapshot.TheImpl as rule

-- a table of what may go to another thread
table_sync : (S : RattleType) → IsSend S → IsSync (table.the_row S S (snapshot.the_row S) steady.the_row global.the_row (rule.ghosts S) allocator.ghosts)
table_sync S s = declared_sync (table.the_type S S (snapshot.the_row S) steady.the_row global.the_row (rule.ghosts S) allocator.ghosts) (
  search (sendable, shared.the_sync, s),
  (
    search sendable,
    (search sendable, (search (sendable, lease.the_sync, heap.send, heap.frees), (search (sendable, lease.the_sync, heap.send, heap.frees), (search (sendable, heap.sync), tt)))),
  ),
)

module _ (κ : NamedLft) where
  row_inside_send : IsSend (row_inside.the_row κ)
  row_inside_send = declared_send (row_inside.the_type κ) (search (sendable, crosses), (search (sendable, crosses, option.the_send, pass_send), tt))

  row_send : IsSend (row.the_row κ)
  row_send = search (view_send, row_inside_send)

  places_inside_send : IsSend (places_inside.the_row κ)
  places_inside_send = declared_send (places_inside.the_type κ) (search (sendable, crosses, row_send), tt)

  places_send : IsSend (places.the_row κ)
  places_send = search (view_send, places_inside_send)

  desk_inside_sync : IsSync (desk_inside.the_row κ)
  desk_inside_sync = declared_sync (desk_inside.the_type κ) (search (sendable, roles.the_sync), (search sendable, (search sendable, (search (sendable, table_sync, places_send), (search (sendable, crosses), (search (sendable, crosses, option.the_sync, shares.the_sync), (search (sendable, crosses, option.the_sync, waits.the_sync), tt)))))))

  pub desk_sync : IsSync (desk.the_row κ)
  desk_sync = search (view_sync, desk_inside_sync)
