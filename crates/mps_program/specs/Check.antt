-- What a protocol's text gives, and the lines of its roles.
use Rattle.std.specs.Prelude.{ℕ, suc, List, [], ◌∷◌, ◌++◌, codes}
use Rattle.mps_local.specs.Local.{LocalType}
use Rattle.mps_local.specs.Text.{name_at, local_text}
use Rattle.mps_local.specs.declared.merging.Merging.{Merging}
use Rattle.mps_open.specs.Faults.{GivesNoSession}
use Rattle.mps_open.specs.declared.fault.Fault.{Fault}
use Rattle.mps_open.specs.declared.fault.Fault.TheVariants as opening
use Rattle.mps_program.specs.declared.faults.ToolFault.{ToolFault}
use Rattle.mps_program.specs.declared.faults.ToolFault.TheVariants.{Text, Protocol, Projection, Memory}

-- why a text gives no session, as the program tells it: a role by its name
abbrev pub of_opening : Fault → ToolFault
of_opening (opening.Text at kind) = Text at kind
of_opening (opening.Protocol fault) = Protocol fault
of_opening (opening.Projection role name choice) = Projection name choice
of_opening opening.Memory = Memory

-- why a text gives no types by that kind of merging, as the program tells it
abbrev pub GivesNoTypes : Merging → List ℕ → ToolFault → Type 0
GivesNoTypes merging text (Text at kind) = GivesNoSession merging text (opening.Text at kind)
GivesNoTypes merging text (Protocol fault) = GivesNoSession merging text (opening.Protocol fault)
GivesNoTypes merging text (Projection name choice) =
    (role : ℕ) × GivesNoSession merging text (opening.Projection role name choice)
GivesNoTypes merging text Memory = GivesNoSession merging text opening.Memory
GivesNoTypes merging text fault = ⊥

-- the line of the role at that place: its name, ` : `, and its type
abbrev pub role_line : (roles : List (List ℕ)) (place : ℕ) → LocalType → List ℕ
role_line roles place t = name_at roles place ++ codes " : " ++ local_text roles t ++ 10 ∷ []

-- a line for each role from that place on
abbrev pub role_lines : (roles : List (List ℕ)) (place : ℕ) → List LocalType → List ℕ
role_lines roles place [] = []
role_lines roles place (t ∷ types) = role_line roles place t ++ role_lines roles (suc place) types
