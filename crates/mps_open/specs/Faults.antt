-- Why a text gives no session.
use Rattle.std.specs.Prelude.{◌≡◌, ℕ, ◌+◌, ◌≤◌, List, None, Some, length, slice_get}
use Rattle.mps_global.specs.Global.{GlobalType}
use Rattle.mps_global.specs.Faults.{fault_of}
use Rattle.mps_global.specs.declared.faults.GlobalFault.{GlobalFault}
use Rattle.mps_global.specs.declared.faults.GlobalFault.TheVariants as of_protocols
use Rattle.mps_local.specs.Outcome.{IsFirstUnmerged}
use Rattle.mps_local.specs.declared.merging.Merging.{Merging}
use Rattle.mps_text.specs.Faults.{IsFirstFault}
use Rattle.mps_text.specs.declared.fault.TextKind.{TextKind}
use Rattle.mps_text.specs.declared.fault.TextKind.TheVariants as texts
use Rattle.mps_open.specs.Texts.{IsProtocolText}
use Rattle.mps_open.specs.declared.fault.Fault.{Fault}
use Rattle.mps_open.specs.declared.fault.Fault.TheVariants.{Text, Protocol, Projection, Memory}

-- the first fault of the text; out of memory is not one of a text's
abbrev pub IsTextFault : List ℕ → ℕ → TextKind → Type 0
IsTextFault text at texts.Memory = ⊥
IsTextFault text at kind = IsFirstFault text at kind

-- why a protocol has no opening by that kind of merging: its first fault; or it has none, and a role, the first, has no
-- projection, or memory ran out; never a fault of a text
abbrev pub GivesNoOpening : Merging → List (List ℕ) → GlobalType → Fault → Type 0
GivesNoOpening merging roles tree (Text at kind) = ⊥
GivesNoOpening merging roles tree (Protocol fault) = fault_of roles tree ≡ Some fault
GivesNoOpening merging roles tree (Projection role name choice) =
    (fault_of roles tree ≡ None) × IsFirstUnmerged merging roles tree role choice × (slice_get roles role ≡ Some name)
GivesNoOpening merging roles tree Memory = fault_of roles tree ≡ None

-- the text spells a protocol that has no opening
pub record HasNoOpening (merging : Merging) (text : List ℕ) (fault : Fault) : Type 0 where
  pub roles : List (List ℕ)
  pub tree : GlobalType
  pub spelled : IsProtocolText text roles tree
  pub why : GivesNoOpening merging roles tree fault

-- why a text gives no session: its first fault; the fault of the protocol that it spells, or its first role that has no
-- projection, with the choice; or out of memory, where it is short enough
abbrev pub GivesNoSession : Merging → List ℕ → Fault → Type 0
GivesNoSession merging text (Text at kind) = IsTextFault text at kind
GivesNoSession merging text (Protocol fault) = HasNoOpening merging text (Protocol fault)
GivesNoSession merging text (Projection role name choice) = HasNoOpening merging text (Projection role name choice)
GivesNoSession merging text Memory = length text ≤ 65536

-- why a text isn't read: its first fault, or out of memory, where it is short enough
abbrev pub IsUnreadText : List ℕ → Fault → Type 0
IsUnreadText text (Text at kind) = IsTextFault text at kind
IsUnreadText text Memory = length text ≤ 65536
IsUnreadText text fault = ⊥

-- how a fault of a text is told
abbrev pub of_text : ℕ → TextKind → Fault
of_text at texts.Memory = Memory
of_text at kind = Text at kind

-- The numbers of faults, from tables: in the order of the formats' tables.
abbrev pub text_number : TextKind → ℕ
text_number texts.TooLong = 16
text_number texts.Word = 17
text_number texts.Unexpected = 18
text_number texts.TooManyNodes = 19
text_number texts.TooDeep = 20
text_number texts.Trailing = 21
text_number texts.Memory = 1

abbrev pub protocol_number : GlobalFault → ℕ
protocol_number of_protocols.RoleCount = 32
protocol_number of_protocols.DoubleRole = 33
protocol_number of_protocols.TooManyNodes = 34
protocol_number of_protocols.TooDeep = 35
protocol_number of_protocols.UnknownRole = 36
protocol_number of_protocols.SelfMessage = 37
protocol_number of_protocols.DoubleLabel = 38
protocol_number of_protocols.TooManyBranches = 39
protocol_number of_protocols.NoBranches = 40
protocol_number of_protocols.Unbound = 41
protocol_number of_protocols.Shadowed = 42
protocol_number of_protocols.Unguarded = 43

-- the number of a fault: that of a projection names the role
abbrev pub number_of : Fault → ℕ
number_of (Text at kind) = text_number kind
number_of (Protocol fault) = protocol_number fault
number_of (Projection role name choice) = 48 + role
number_of Memory = 1

-- the byte of the text, or the choice
abbrev pub place_of : Fault → ℕ
place_of (Text at kind) = at
place_of (Protocol fault) = 0
place_of (Projection role name choice) = choice
place_of Memory = 0
