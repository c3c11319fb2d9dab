-- Callers that are never answered `Mismatch`.
use Rattle.std.specs.Prelude.{◌≡◌, ◌≢◌, List, Some}
use Rattle.mps_command.specs.declared.answer.Answer.{Answer}
use Rattle.mps_command.specs.declared.answer.Answer.TheVariants.{Refused}
use Rattle.mps_command.specs.declared.answer.Refusal.TheVariants.{Violation as Violates}
use Rattle.mps_command.specs.declared.answer.Violation.TheVariants.{Mismatch}
use Rattle.mps_command.specs.declared.command.Command.{Command}
use Rattle.mps_fidelity.specs.Fidelity.{AreOfOneProtocol}
use Rattle.mps_local.specs.Local.{LocalType}
use Rattle.mps_room.specs.declared.caller.Caller.{Ghosts}

-- what a role is told whose type doesn't fit what was sent to it
abbrev pub mismatch : Answer
mismatch = Refused (Violates Mismatch)

-- A caller, and the opening types of its session.
module _ {C : Type 0} (caller : Ghosts C) (types : C → List LocalType) where
  -- calls leave the types, and where these are of one protocol none is answered `Mismatch`
  pub record MeetsNoMismatch : Type 0 where
    pub same_types : (c : C) (command : Command) (answer : Answer) (d : C) → caller.calls c command answer d
        → types d ≡ types c
    pub other : (c : C) (command : Command) (answer : Answer) (d : C) → AreOfOneProtocol (types c)
        → caller.calls c command answer d → answer ≢ mismatch

  -- the types are of one protocol, and the caller keeps no such answer
  pub record HasNoMismatch (c : C) : Type 0 where
    pub of_one_protocol : AreOfOneProtocol (types c)
    pub keeps_none : (answer : Answer) → caller.kept c ≡ Some answer → answer ≢ mismatch
