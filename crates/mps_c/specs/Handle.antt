-- What a handle that C keeps owns: what a box of the room owns.
use base.Fml.{Fml}
use base.Stored.{Coded}
use denote.RawPtr.{Ptr}
use Rattle.std.specs.Box.Ownership.{box_owns}
use Rattle.std.specs.declared.alloc.Global.{Global}
use Rattle.std.specs.contracts.impls.GlobalAllocator.TheImpl.{ghosts}
use Rattle.mps_embed.specs.Crossing.{file_room}

abbrev pub RoomValue : Type 0
RoomValue = file_room.Denot

abbrev pub some_heap : Global
some_heap = record { memory = record { seal = tt } }

abbrev pub handle_owns : Ptr → RoomValue → Fml
handle_owns = box_owns (ghosts.dealloc_token some_heap) file_room

abbrev pub the_code : Coded RoomValue
the_code = file_room.coded
