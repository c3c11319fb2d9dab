-- A text that a folder has of the same protocol.
use Rattle.std.specs.Prelude.{ℕ, List}
use Rattle.mps_local.specs.Local.{LocalType}
use Rattle.mps_local.specs.declared.merging.Merging.{Merging}
use Rattle.mps_open.specs.Alike.{AreAlike}
use Rattle.mps_open.specs.Texts.{AreTypesOf}

-- the text spells a protocol with these roles and types but for the names of variables
pub record IsTextAlike (merging : Merging) (names : List (List ℕ)) (types : List LocalType) (text : List ℕ) : Type 0 where
  pub others : List (List ℕ)
  pub other_types : List LocalType
  pub spelled : AreTypesOf merging text others other_types
  pub alike : AreAlike names types others other_types
