-- How a host may fail.
use Rattle.std.specs.Prelude.{◌⊎◌, ⊤, ℕ, List, Option, Some, None}
use Rattle.mps_program.specs.Faults.{IsLoadFault}
use Rattle.mps_program.specs.Journals.{IsFolderFault}
use Rattle.mps_program.specs.declared.faults.ToolFault.{ToolFault}
use Rattle.mps_program.specs.declared.faults.ToolFault.TheVariants.{Write, Bind, Memory}
use Rattle.mps_words.specs.declared.command.ProtocolFile.{ProtocolFile}

-- how the folder that records the sessions may fail, if there is one
abbrev pub IsClaimFault : Option (List ℕ) → ToolFault → Type 0
IsClaimFault None Memory = ⊤
IsClaimFault None fault = ⊥
IsClaimFault (Some folder) fault = IsFolderFault folder fault

-- it has no port, or can't tell it, or memory ran out
abbrev pub IsDoorFault : ToolFault → Type 0
IsDoorFault (Bind why) = ⊤
IsDoorFault Write = ⊤
IsDoorFault Memory = ⊤
IsDoorFault fault = ⊥

-- how a host of this file may fail, whose sessions are recorded in this folder, if they are
abbrev pub IsHostFault : ProtocolFile → Option (List ℕ) → ToolFault → Type 0
IsHostFault file folder fault = IsLoadFault file fault ⊎ (IsClaimFault folder fault ⊎ IsDoorFault fault)
