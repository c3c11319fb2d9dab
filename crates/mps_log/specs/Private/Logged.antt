-- What a log keeps.
use Rattle.std.specs.Prelude.{◌≡◌, false, List}
use Rattle.std.specs.List.{AllByRecursion}
use Rattle.mps_history.specs.Commits.{is_commit}
use Rattle.mps_arena.specs.KeyedSteps.{KeyedStep, AreSound}
use Rattle.mps_queues.specs.Fronts.{AreFronts}
use Rattle.mps_stores.specs.Stores.{AreStores, slot_of, mark_of}
use Rattle.mps_log.specs.declared.log.Log.TheInside.{Inside}
use Rattle.mps_log.specs.Logged.{Logged}

-- a log, as contracts see it
abbrev pub log_value : Inside → Logged
log_value l = record { keyed_steps = l.arena.keyed_steps; issued = l.arena.issued }

-- no step is a commit
abbrev pub HasNoCommit : List KeyedStep → Type 0
HasNoCommit es = AllByRecursion (λ e. is_commit e.step.act ≡ false) es

-- queues, slots and marks are those of the steps, and no step is a commit before the first that joins
pub record IsLog (l : Inside) : Type 0 where
  pub sound : AreSound l.arena.keyed_steps
  pub fronts : AreFronts l.arena.keyed_steps l.queues
  pub slots : AreStores slot_of l.arena.keyed_steps l.slots
  pub marks : AreStores mark_of l.arena.keyed_steps l.marks
  pub settled : l.had_commit ≡ false → HasNoCommit l.arena.keyed_steps
