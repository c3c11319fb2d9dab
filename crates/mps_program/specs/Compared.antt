-- Two scripts, each run in a room of its own, and what is told of them.
use Rattle.std.specs.Prelude.{◌≡◌, ◌⊎◌, ℕ, List, [], None, Ok, Err, codes}
use Rattle.mps_dev.specs.declared.traits.Source.{Ghosts as SourceGhosts}
use Rattle.mps_history.specs.Swaps.{Swaps}
use Rattle.mps_local.specs.Local.{LocalType}
use Rattle.mps_machine.specs.Machine.{view_of}
use Rattle.mps_room.specs.Journal.{run}
use Rattle.mps_room.specs.declared.entry.Entry.{Entry}
use Rattle.mps_lines.specs.Lines.{ended}
use Rattle.mps_wire.specs.Runs.{Ran}
use Rattle.mps_wire.specs.Script.{AnswersLine}
use Rattle.mps_wire.specs.Streams.{Streams}
use Rattle.mps_wire.specs.declared.script.ReplayFault.{ReplayFault}
use Rattle.mps_program.specs.Faults.{of_script}
use Rattle.mps_program.specs.declared.faults.ToolFault.{ToolFault}
use Rattle.mps_program.specs.declared.faults.ToolFault.TheVariants.{Memory}

-- the streams of a source, where nobody hears the answers
abbrev pub unheard : {R : Type 0} → SourceGhosts R → R → Streams
unheard source reader = record {
  left = source.remaining reader;
  reads = source.calls reader;
  failed_reads = source.failed_calls reader;
  ends = source.ends reader;
  taken = None;
  failed_writes = 0;
}

-- `same` and 0 where they are alike, else `different` and 1
abbrev pub Tells : Type 0 → List ℕ → ℕ → Type 0
Tells alike line status =
    (alike × (line ≡ ended (codes "same")) × (status ≡ 0))
    ⊎ ((¬ alike) × (line ≡ ended (codes "different")) × (status ≡ 1))

-- Scripts of roles with these names and types.
module _ (names : List (List ℕ)) (types : List LocalType) where
  -- the script was run to its end, and the room has that journal
  abbrev pub HasRun : (before after : Streams) → List Entry → Type 0
  HasRun before after journal = Ran (AnswersLine names types) [] before after (Ok journal)

  -- its run broke off, as the fault tells
  abbrev pub HasStopped : (before after : Streams) → ToolFault → Type 0
  HasStopped before after fault =
      (end : ReplayFault) × (fault ≡ of_script end) × Ran (AnswersLine names types) [] before after (Err end)

  -- Of the first script and then of the second.
  module _ (before after before' after' : Streams) where
    -- both were run to their ends, and this is told of the sessions that they left: whether their views are equal, and
    -- whether exchanges of independent neighbours turn one history into the other, numbers aside
    pub record HasCompared (line : List ℕ) (status : ℕ) : Type 0 where
      pub first : List Entry
      pub second : List Entry
      pub first_ran : HasRun before after first
      pub second_ran : HasRun before' after' second
      pub views : Tells (view_of types (run types first).history ≡ view_of types (run types second).history) line status
      pub swaps : Tells (Swaps (run types first).history (run types second).history) line status

    -- why nothing is told: the run of the first broke off, and nothing of the second was read; or the first was run to
    -- its end, and the run of the second broke off; or both were run to their ends, and memory ran out
    abbrev pub CantCompare : ToolFault → Type 0
    CantCompare fault =
        (HasStopped before after fault × (after' ≡ before'))
        ⊎ (((first : List Entry) × HasRun before after first × HasStopped before' after' fault)
        ⊎ ((first : List Entry) × (second : List Entry) × HasRun before after first × HasRun before' after' second
        × (fault ≡ Memory)))
