-- What a command with a number comes to, where its call is answered in one way.
use Rattle.std.specs.Prelude.{◌≡◌, ℕ, Option}
use Rattle.mps_command.specs.declared.answer.Answer.{Answer}
use Rattle.mps_command.specs.declared.command.Command.{Command}
use Rattle.mps_room.specs.declared.numbers.Told.{Told}

-- a call of this command has one answer
abbrev pub HasOneAnswer : {C : Type 0} → (calls : C → Command → Answer → C → Type 0) → C → Command → Type 0
HasOneAnswer {C} calls c command = (x y : Answer) (d e : C) → calls c command x d → calls c command y e → x ≡ y

-- the same is told, and the same last number is left, with the same answer
pub record ComesToTheSame {C : Type 0} (last : C → ℕ) (kept : C → Option Answer) (d : C) (told : Told) (e : C)
    (other : Told) : Type 0 where
  pub same_told : told ≡ other
  pub same_last : last d ≡ last e
  pub same_kept : kept d ≡ kept e
