-- Numbered commands: one is called once, however often its line is sent.
use Rattle.std.specs.Prelude.{◌≡◌, ◌≢◌, ℕ, ◌+◌, true, Option, None, Some, Result, Ok, Err, List, map}
use Rattle.std.proofs.Common.{refl}
use Rattle.mps_command.specs.declared.answer.Answer.{Answer}
use Rattle.mps_command.specs.declared.answer.Answer.TheVariants as answers
use Rattle.mps_command.specs.declared.answer.Refusal.{Refusal}
use Rattle.mps_command.specs.declared.command.Command.{Command}
use Rattle.mps_room.specs.Journal.{is_accepted}
use Rattle.mps_room.specs.declared.numbers.Numbered.{Numbered}
use Rattle.mps_room.specs.declared.numbers.Numbers.{Numbers}
use Rattle.mps_room.specs.declared.numbers.Position.{Position}
use Rattle.mps_room.specs.declared.numbers.Position.TheVariants.{Last, Next, Elsewhere}
use Rattle.mps_room.specs.declared.numbers.Told.{Told}
use Rattle.mps_room.specs.declared.numbers.Told.TheVariants.{Fresh, Kept, Wrong, Refused}

-- the number of the newest numbered command that was accepted, 0 where none was
abbrev pub last_of : Option Numbered → ℕ
last_of None = 0
last_of (Some newest) = newest.number

-- its answer
abbrev pub kept_of : Option Numbered → Option Answer
kept_of None = None
kept_of (Some newest) = Some newest.answer

-- the newest of each of several callers
abbrev pub newest_of : List Numbers → List (Option Numbered)
newest_of callers = map (λ (n : Numbers). n.newest) callers

-- where the last number isn't 0, its answer is kept
pub keeps_newest : (newest : Option Numbered) → last_of newest ≢ 0 → (answer : Answer) × (kept_of newest ≡ Some answer)
keeps_newest None some = absurd (some refl)
keeps_newest (Some newest) some = (newest.answer, refl)

-- where a number stands: it is the last one, which 0 never is, the next, or neither
abbrev pub IsPosition : (last n : ℕ) → Position → Type 0
IsPosition last n Last = (n ≡ last) × (n ≢ 0)
IsPosition last n Next = n ≡ last + 1
IsPosition last n Elsewhere = (n ≢ last + 1) × (n ≡ last → n ≡ 0)

-- What a command with a number comes to, by what a call tells, the last number and the answer that is kept.
module _ {C : Type 0} (calls : C → Command → Answer → C → Type 0) (last : C → ℕ) (kept : C → Option Answer) (c : C)
    (n : ℕ) (command : Command) (d : C) where
  -- it has the next number and is accepted: its answer is kept under it
  pub record IsFresh : Type 0 where
    pub next : n ≡ last c + 1
    pub answer : Answer
    pub call : calls c command answer d
    pub accepted : is_accepted answer ≡ true
    pub numbered : last d ≡ n
    pub told : kept d ≡ Some answer

  -- it has the last number: there is no call, and the answer that is kept is its own, whatever it asks for
  pub record IsRepeated : Type 0 where
    pub again : n ≡ last c
    pub some : n ≢ 0
    pub answer : Answer
    pub told : kept c ≡ Some answer
    pub unchanged : d ≡ c

  -- it has any other number: there is no call
  pub record IsWrong : Type 0 where
    pub not_next : n ≢ last c + 1
    pub not_again : n ≡ last c → n ≡ 0
    pub unchanged : d ≡ c

  -- it has the next number and is refused: the number may come again
  pub record IsRefused (refusal : Refusal) : Type 0 where
    pub next : n ≡ last c + 1
    pub call : calls c command (answers.Refused refusal) d
    pub last_stays : last d ≡ last c
    pub kept_stays : kept d ≡ kept c

  abbrev pub IsNumbered : Told → Type 0
  IsNumbered Fresh = IsFresh
  IsNumbered Kept = IsRepeated
  IsNumbered Wrong = IsWrong
  IsNumbered (Refused refusal) = IsRefused refusal

-- what came of a command with the next number
abbrev pub came_of : Result Unit Refusal → Told
came_of (Ok done) = Fresh
came_of (Err refusal) = Refused refusal
