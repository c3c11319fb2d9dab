-- A cursor by its place.
use Rattle.std.proofs.Common.{◌≡◌, ℕ, ◌<◌, List, length, get_or, sym, ◌∙◌}
use Rattle.std.proofs.lemmas.List.{get_or_default}
use Rattle.mps_session.specs.Private.Cursors.{nowhere}
use Rattle.mps_session.specs.declared.cursor.Cursor.{Cursor}

pub cursor_at : (cursors : List Cursor) (p : ℕ) (c : Cursor) → p < length cursors → c ≡ get_or cursors p c → get_or cursors p nowhere ≡ c
cursor_at cursors p c h e = get_or_default cursors p nowhere c h ∙ sym e
