-- A protocol from a source, and its types to a sink: given is what the source had left at first, took what the sink
-- had taken.
use Rattle.std.specs.Prelude.{◌≡◌, ◌≤◌, ℕ, ⊤, List, Option, length, map}
use Rattle.std.specs.Io.KnownBytes.{Consumes, IsAtEnd}
use Rattle.mps_global.specs.Global.{plain as global_type}
use Rattle.mps_local.specs.Local.{LocalType, plain}
use Rattle.mps_local.specs.declared.merging.Merging.{Merging}
use Rattle.mps_open.specs.Texts.{AreTypesOf, IsProtocolText}
use Rattle.mps_open.specs.declared.opening.Opening.{Opening}
use Rattle.mps_program.specs.Check.{GivesNoTypes, role_lines}
use Rattle.mps_program.specs.Files.{longest, most_read}
use Rattle.mps_program.specs.declared.faults.ToolFault.{ToolFault}
use Rattle.mps_program.specs.declared.faults.ToolFault.TheVariants.{Read, Write, Memory}
use Rattle.mps_wire.specs.Sending.{TookFront}

-- the source gave this text to its end, or so much of it that it is too long
pub record HasGiven (given left : Option (List ℕ)) (text : List ℕ) : Type 0 where
  pub bytes : Consumes given left text
  pub most : length text ≤ most_read
  pub whole : length text ≤ longest → IsAtEnd left

-- the source gave, to its end, a text with these types by that kind of merging
pub record HasLoaded (merging : Merging) (given left : Option (List ℕ)) (roles : List (List ℕ)) (types : List LocalType) : Type 0 where
  pub text : List ℕ
  pub bytes : Consumes given left text
  pub over : IsAtEnd left
  pub typed : AreTypesOf merging text roles types

-- the source gave, to its end, the text of this opening, which is by that kind of merging
pub record HasGivenOpening (merging : Merging) (given left : Option (List ℕ)) (opening : Opening) : Type 0 where
  pub merging_is : opening.merging ≡ merging
  pub loaded : HasLoaded merging given left opening.roles (map plain opening.types.items)
  pub read : IsProtocolText loaded.text opening.protocol.roles.items (global_type opening.protocol.body)

-- some source gave it
abbrev pub WasLoaded : Merging → Opening → Type 0
WasLoaded merging opening =
    (given : Option (List ℕ)) × (left : Option (List ℕ)) × HasGivenOpening merging given left opening

-- why no protocol with types was had: the text gives none, a read failed, or memory ran out
abbrev pub CantLoad : Merging → (given left : Option (List ℕ)) → ToolFault → Type 0
CantLoad merging given left (Read why) = ⊤
CantLoad merging given left Memory = ⊤
CantLoad merging given left fault = (text : List ℕ) × HasGiven given left text × GivesNoTypes merging text fault

-- the source gave a protocol to its end, and of the lines of its roles the sink took what `Took` says
pub record HasShown (merging : Merging) (given left : Option (List ℕ)) (Took : List ℕ → Type 0) : Type 0 where
  pub roles : List (List ℕ)
  pub types : List LocalType
  pub loaded : HasLoaded merging given left roles types
  pub took : Took (role_lines roles 0 types)

-- why not all lines are shown; nothing is written unless a write fails, and then a front of them
abbrev pub CantShow : Merging → (given left took taken : Option (List ℕ)) → ToolFault → Type 0
CantShow merging given left took taken Write = HasShown merging given left (TookFront took taken)
CantShow merging given left took taken fault = CantLoad merging given left fault × (taken ≡ took)
