-- The room that a file leads to, and a lack of memory for it.
use Rattle.std.proofs.Common.{◌≡◌, ◌∙◌, ℕ, List, [], refl, sym, ap, subst}
use mathlib.Core.Path.{ap₂}
use Rattle.mps_keeper.specs.Restored.{LinesRestored, Standing, standing_of}
use Rattle.mps_keeper.specs.declared.restored_room.RestoredRoom.{RestoredRoom}
use Rattle.mps_local.specs.Local.{LocalType}
use Rattle.mps_file.specs.Rooms.{IsRestoredRoom}
use Rattle.mps_open.specs.declared.fault.Fault.TheVariants.{Memory}
use Rattle.mps_room.specs.Numbers.{newest_of}
use Rattle.mps_room.specs.RoomState.{RoomState}
use Rattle.mps_room.specs.declared.numbers.Numbers.{Numbers}
use Rattle.mps_embed.specs.Embedded.{EmbeddedState}
use Rattle.mps_embed.specs.Kept.{IsLedRoom, IsOfFile}
use Rattle.mps_embed.specs.declared.kept.FileFault.{FileFault}
use Rattle.mps_embed.specs.declared.kept.FileFault.TheVariants.{Room}

-- a lack of memory is not the text's
pub no_memory : (fault : FileFault) → fault ≡ Room Memory → IsOfFile fault
no_memory fault e = subst IsOfFile (sym e) refl

-- a restored room, as a room that is called
pub led : (names : List (List ℕ)) (types : List LocalType) (r : RestoredRoom) (e : EmbeddedState) → IsRestoredRoom names types r → e.room ≡ r.room → e.numbers ≡ r.numbers.items → IsLedRoom names types e
led names types r e h room numbers =
    let standing : standing_of r ≡ record { journal = e.room.journal; newest = newest_of e.numbers } =
    ap₂ (λ (m : RoomState) (ns : List Numbers). let s : Standing = record { journal = m.journal; newest = newest_of ns } in s) (sym room) (sym numbers) in
    record {
      names_are = ap (λ (m : RoomState). m.names) room ∙ h.names_are;
      types_are = ap (λ (m : RoomState). m.types) room ∙ h.types_are;
      lines = h.lines;
      blank = h.blank;
      none = h.none;
      restored = subst (λ (s : Standing). LinesRestored names types (record { journal = []; newest = newest_of h.blank }) h.lines s) standing h.restored;
    }
