-- Numbered commands come to one thing, where their calls have one answer.
use Rattle.std.proofs.Common.{arith, ℕ, Option}
use Rattle.mps_command.specs.declared.answer.Answer.{Answer}
use Rattle.mps_command.specs.declared.answer.Answer.TheVariants as answers
use Rattle.mps_command.specs.declared.command.Command.{Command}
use Rattle.mps_room.specs.Numbers.{IsNumbered}
use Rattle.mps_room.specs.OneAnswer.{HasOneAnswer, ComesToTheSame}
use Rattle.mps_room.specs.declared.numbers.Told.{Told}
use Rattle.mps_room.specs.declared.numbers.Told.TheVariants.{Wrong, Refused}

-- what is told of a refused call
told_of : Answer → Told
told_of (answers.Refused refusal) = Refused refusal
told_of answer = Wrong

pub one_outcome : {C : Type 0} (calls : C → Command → Answer → C → Type 0) (last : C → ℕ) (kept : C → Option Answer) (c : C) (n : ℕ) (command : Command) (d e : C) (told other : Told) → HasOneAnswer calls c command → IsNumbered calls last kept c n command d told → IsNumbered calls last kept c n command e other → ComesToTheSame last kept d told e other
unfolding told_of
one_outcome calls last kept c n command d e told other one p q = grind arith
