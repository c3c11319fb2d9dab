-- Cursors at the beginnings of types, one more each time.
use Rattle.std.proofs.Common.{List, [], ◌∷◌, ◌++◌}
use Rattle.mps_local.specs.Local.{LocalType}
use Rattle.mps_session.specs.Private.Cursors.{IsFor}
use Rattle.mps_session.specs.declared.cursor.Cursor.{Cursor}
use Rattle.mps_session.specs.Private.Opening.{AreStarts}

pub starts_push : (types : List LocalType) (cursors : List Cursor) (t : LocalType) (c : Cursor) → AreStarts types cursors → IsFor c t → AreStarts (types ++ t ∷ []) (cursors ++ c ∷ [])
starts_push [] [] t c a s = (s, tt)
starts_push (u ∷ types) (x ∷ cursors) t c a s = (a.0, starts_push types cursors t c a.1 s)
starts_push other others t c a s = absurd a
