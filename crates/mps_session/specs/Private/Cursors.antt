-- Where a role stands in its part.
use Rattle.std.specs.Prelude.{ℕ, []}
use Rattle.mps_local.specs.Local.{LocalType}
use Rattle.mps_table.specs.Standing.{StandsFor}
use Rattle.mps_session.specs.declared.cursor.Cursor.{Cursor}

-- what the role may do where it stands is what the type allows
abbrev pub IsFor : Cursor → LocalType → Type 0
IsFor c t = StandsFor c.table c.node t

-- where nobody stands
abbrev pub nowhere : Cursor
nowhere = record { table = record { rows = []; labels = []; targets = []; first = 0 }; node = 0 }

-- the role goes on at the node
abbrev pub went : ℕ → Cursor → Cursor
went node c = record { table = c.table; node = node }
