-- The second of two scripts, and what is told once it was run.
use Rattle.std.specs.Prelude.{◌≡◌, ◌⊎◌, ℕ, List}
use Rattle.mps_history.specs.Swaps.{Swaps}
use Rattle.mps_local.specs.Local.{LocalType}
use Rattle.mps_machine.specs.Machine.{view_of}
use Rattle.mps_room.specs.Journal.{run}
use Rattle.mps_room.specs.declared.entry.Entry.{Entry}
use Rattle.mps_session.specs.SessionState.{SessionState}
use Rattle.mps_wire.specs.Streams.{Streams}
use Rattle.mps_program.specs.Compared.{Tells, HasRun, HasStopped}
use Rattle.mps_program.specs.declared.faults.ToolFault.{ToolFault}
use Rattle.mps_program.specs.declared.faults.ToolFault.TheVariants.{Memory}

-- why nothing is told of the two: its run broke off, or it was run to its end and memory ran out
abbrev pub CantFollow : (names : List (List ℕ)) → List LocalType → (before after : Streams) → ToolFault → Type 0
CantFollow names types before after fault =
    HasStopped names types before after fault
    ⊎ ((second : List Entry) × HasRun names types before after second × (fault ≡ Memory))

-- The script was run to its end on a session of these names, with the types of the first session; and this is told of
-- the first and of the one that it left: whether their views are equal, and whether exchanges of independent
-- neighbours turn one history into the other, numbers aside.
pub record HasFollowed (names : List (List ℕ)) (first : SessionState) (before after : Streams) (line : List ℕ)
    (status : ℕ) : Type 0 where
  pub second : List Entry
  pub ran : HasRun names first.types before after second
  pub views : Tells
      (view_of first.types first.state.history ≡ view_of first.types (run first.types second).history) line status
  pub swaps : Tells (Swaps first.state.history (run first.types second).history) line status
