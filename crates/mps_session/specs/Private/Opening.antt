-- What a session keeps of roles that did nothing yet.
use Rattle.std.specs.Prelude.{◌≡◌, ⊤, List, [], ◌∷◌}
use Rattle.mps_local.specs.Local.{LocalType}
use Rattle.mps_session.specs.Private.Configurations.{Lists}
use Rattle.mps_session.specs.Private.Cursors.{IsFor}
use Rattle.mps_session.specs.declared.cursor.Cursor.{Cursor}

-- a cursor for each of the types, in order
abbrev pub AreStarts : List LocalType → List Cursor → Type 0
AreStarts [] [] = ⊤
AreStarts (t ∷ types) (c ∷ cursors) = IsFor c t × AreStarts types cursors
AreStarts types cursors = ⊥

-- each role stands where its type begins, and nothing was done
pub record IsOpening (types : List LocalType) (c : Lists) : Type 0 where
  pub cursors : AreStarts types c.cursors
  pub keyed_steps : c.keyed_steps ≡ []
  pub issued : c.issued ≡ 0
