-- A room may go to another thread, one type after the other.
use denote.Param.Send.{IsSend, sendable, view_send}
use denote.Param.SendFields.{declared_send}
use denote.RattleType.{RattleType}
use denote.Signature.{static_lft}
use Rattle.std.proofs.Crossing.{crosses}
use Rattle.std.proofs.Crossing as heap
use Rattle.mps_base.proofs.action.Role.TheSendSync as role
use Rattle.mps_cell.proofs.Crossing.{room_send}
use Rattle.mps_dev.proofs.standard.OverWrite.TheSendSync as over_write
use Rattle.mps_dev.specs.declared.traits.Sink.{Ghosts}
use Rattle.mps_file.proofs.journal_file.JournalFile.TheSendSync as journal_file
use Rattle.mps_keeper.proofs.gate.Unguarded.TheSendSync as unguarded
use Rattle.mps_keeper.proofs.guest.Guest.TheSendSync as guest
use Rattle.mps_keeper.specs.contracts.gate.Unguarded as gate
use Rattle.mps_keeper.specs.contracts.guest.Guest as guest_of
use Rattle.mps_room.proofs.numbers.Numbers.TheSendSync as numbers
use Rattle.mps_room.specs.contracts.solo.Solo as solo
use Rattle.mps_wire.proofs.reply.Outcome.TheSendSync as outcome
use Rattle.mps_embed.proofs.diary.Diary.TheSendSync as diary
use Rattle.mps_embed.specs.Crossing.{file_room, file_sink}
use Rattle.mps_embed.specs.contracts.diary.Diary as diary_of
use Rattle.mps_embed.specs.contracts.embedded.Embedded as embedded
use Rattle.mps_embed.specs.contracts.embedded.Embedded.TheInside as embedded_inside

solo_send : IsSend solo.the_row
solo_send = declared_send solo.the_type (search (sendable, room_send), (search (sendable, role.the_send), (search (sendable, numbers.the_send), tt)))

module _ (W : RattleType) (sink : Ghosts W.Denot) (send : IsSend W) where
  diary_send : IsSend (diary_of.the_row W sink)
  diary_send = search (sendable, crosses, diary.the_send, send) depth 20

  guest_send : IsSend (guest_of.the_row static_lft gate.the_row (diary_of.the_row W sink) solo.the_row)
  guest_send = search (sendable, crosses, guest.the_send, unguarded.the_sync, diary_send, solo_send) depth 20

  embedded_inside_send : IsSend (embedded_inside.the_row W sink)
  embedded_inside_send = declared_send (embedded_inside.the_type W sink) (search (sendable, guest_send), (search (sendable, crosses, numbers.the_send), (search (sendable, outcome.the_send), (search (sendable, crosses), (search (sendable, heap.send), tt)))))

  embedded_send : IsSend (embedded.the_row W sink)
  embedded_send = search (view_send, embedded_inside_send)

file_sink_send : IsSend file_sink
file_sink_send = search (sendable, crosses, over_write.the_send, journal_file.the_send, heap.frees) depth 20

pub file_room_send : IsSend file_room
file_room_send = embedded_send file_sink _ file_sink_send
