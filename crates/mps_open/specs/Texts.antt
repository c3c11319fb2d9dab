-- What the text of a protocol gives.
use Rattle.std.specs.Prelude.{◌≡◌, ℕ, List, None}
use Rattle.mps_global.specs.Global.{GlobalType}
use Rattle.mps_global.specs.Faults.{fault_of}
use Rattle.mps_local.specs.Local.{LocalType}
use Rattle.mps_local.specs.Outcome.{AreProjections}
use Rattle.mps_local.specs.declared.merging.Merging.{Merging}
use Rattle.mps_text.specs.Grammar.{SpellsText, IsWithinLimits}

-- the text is a protocol of these roles, whose conversation is the tree
pub record IsProtocolText (text : List ℕ) (roles : List (List ℕ)) (tree : GlobalType) : Type 0 where
  pub spelled : SpellsText text roles tree
  pub limits : IsWithinLimits text tree

-- the text is a protocol without faults, and these are its types by that kind of merging
pub record AreTypesOf (merging : Merging) (text : List ℕ) (roles : List (List ℕ)) (types : List LocalType) : Type 0 where
  pub tree : GlobalType
  pub read : IsProtocolText text roles tree
  pub faultless : fault_of roles tree ≡ None
  pub projected : AreProjections merging roles tree types
