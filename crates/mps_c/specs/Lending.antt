use Rattle.std.specs.Borrow.{Lends, MutBor, Fml}
use Rattle.mps_c.specs.Handle.{RoomValue}
use Rattle.mps_c.specs.declared.Handle.{Handle}
use Rattle.mps_c.specs.contracts.Handle.{the_row}
use Rattle.mps_embed.specs.Crossing.{file_room}

-- h with another room
abbrev pub with_room : Handle → RoomValue → Handle
with_room h x = record h { room = x }

-- h ends with the last value behind r
abbrev pub LendsRoom : MutBor Handle → MutBor RoomValue → Fml
LendsRoom h r = Lends the_row file_room h r (with_room h.now)
