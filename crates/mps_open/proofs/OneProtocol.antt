-- The types of a text are of one protocol.
use Rattle.std.proofs.Common.{ℕ, List}
use Rattle.mps_fidelity.specs.Fidelity.{AreOfOneProtocol}
use Rattle.mps_local.specs.Local.{LocalType}
use Rattle.mps_local.specs.declared.merging.Merging.{Merging}
use Rattle.mps_open.specs.Texts.{AreTypesOf}

pub one_protocol : (merging : Merging) (text : List ℕ) (roles : List (List ℕ)) (types : List LocalType) → AreTypesOf merging text roles types → AreOfOneProtocol types
one_protocol merging text roles types a = record { merging = merging; roles = roles; tree = a.tree; faultless = a.faultless; projections = a.projected }
