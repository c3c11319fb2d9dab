-- The lines of a kept journal.
use Rattle.std.specs.Prelude.{◌≡◌, ℕ, ◌<◌, List, [], ◌∷◌, length, Option}
use Rattle.mps_base.specs.Spaced.{spaced}
use Rattle.mps_command.specs.declared.command.Command.{Command}
use Rattle.mps_line.specs.Tokens.{SpellsRole}
use Rattle.mps_line.specs.Commands.{SpellsNumbered, MayHaveNumber, NamesRolesOf}

-- a role's name, and after a space a line of a conversation whose command asks for a change
pub record SpellsJournalLine (names : List (List ℕ)) (bytes : List ℕ) (role : ℕ) (number : Option ℕ)
    (command : Command) : Type 0 where
  pub name : List ℕ
  pub rest : List ℕ
  pub parts : bytes ≡ spaced (name ∷ rest ∷ [])
  pub known : SpellsRole names name role
  pub spelled : SpellsNumbered names rest number command
  pub asks : MayHaveNumber command

-- the command asks for a change, of one of the roles, and names no others
pub record CanBeWritten (names : List (List ℕ)) (role : ℕ) (command : Command) : Type 0 where
  pub known : role < length names
  pub named : NamesRolesOf names command
  pub asks : MayHaveNumber command
