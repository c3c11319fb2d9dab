-- Where a run is among its lines.
use Rattle.std.specs.Prelude.{◌≡◌, ℕ, List, ◌++◌}
use Rattle.mps_room.specs.declared.entry.Entry.{Entry}
use Rattle.mps_wire.specs.Answers.{Answering, AnswersBytes, AnswersLines, OfAllLines}
use Rattle.mps_wire.specs.Script.{AnswersLine}
use Rattle.mps_wire.specs.declared.script.ScriptRun.{ScriptRun}

-- where a run is among its lines: the front of the line that comes, the state, the answers that wait
pub record Place (S : Type 0) : Type 0 where
  pub kept : List ℕ
  pub state : S
  pub waiting : List ℕ

module _ {S : Type 0} (answers : Answering S) (start : S) where
  -- after these bytes too each whole line is answered: the answers to theirs wait after the others
  abbrev pub TakesBytes : List ℕ → Place S → Place S → Type 0
  TakesBytes bytes old new = (before out : List ℕ) → AnswersBytes answers start before old.kept out old.state
      → (more : List ℕ) × (new.waiting ≡ old.waiting ++ more)
      × AnswersBytes answers start (before ++ bytes) new.kept (out ++ more) new.state

  -- at the end each line is answered: the answer to a rest waits after the others
  abbrev pub TakesEnd : Place S → Place S → Type 0
  TakesEnd old new = (before out : List ℕ) → AnswersBytes answers start before old.kept out old.state
      → (more : List ℕ) × (new.waiting ≡ old.waiting ++ more)
      × OfAllLines before (λ lines. AnswersLines answers lines start (out ++ more) new.state)

-- how a line of a run is answered
abbrev pub answering_of : ScriptRun → Answering (List Entry)
answering_of run = AnswersLine run.room.names run.room.types

-- where a run is among its lines
abbrev pub place_of_run : ScriptRun → Place (List Entry)
place_of_run run = record {
  kept = run.line.items;
  state = run.room.journal;
  waiting = run.answers.items;
}
