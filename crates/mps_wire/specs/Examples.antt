-- What a conversation replies to numbered commands, as it was worked out by hand. The caller and the commands are
-- those of the worked journals of mps_room.
use Rattle.std.specs.Prelude.{◌≡◌, ℕ, [], ◌∷◌}
use Rattle.mps_command.specs.declared.answer.Answer.{Answer}
use Rattle.mps_command.specs.declared.answer.Answer.TheVariants.{Undone, Refused}
use Rattle.mps_command.specs.declared.answer.Refusal.TheVariants.{NoStep}
use Rattle.mps_command.specs.declared.command.Command.{Command}
use Rattle.mps_line.specs.declared.write_replies.Reply.{Reply}
use Rattle.mps_line.specs.declared.write_replies.Reply.TheVariants.{Answer as Answered, Number as WrongNumber}
use Rattle.mps_machine.specs.Examples.{done}
use Rattle.mps_room.specs.Examples.{PlainCaller, plain_caller, Tells, send_five, mark_m, mark_k, undo_nine, undo_three}
use Rattle.mps_room.specs.Examples.{at_first, after_one, after_two, after_a_call, after_three}
use Rattle.mps_room.specs.declared.numbers.Told.{Told}
use Rattle.mps_wire.specs.Conversations.{IsToldAs}

-- the reply to a command with this number
abbrev pub GetsReply : PlainCaller → ℕ → Command → PlainCaller → Reply → Type 0
GetsReply x n command y reply = (came : Told) × Tells x n command y came × IsToldAs plain_caller y came reply

-- the reply to a command without a number, which leaves the last number and its answer
abbrev pub GetsAnswer : PlainCaller → Command → PlainCaller → Reply → Type 0
GetsAnswer x command y reply =
    (answer : Answer) × plain_caller.calls x command answer y
    × (plain_caller.last y ≡ plain_caller.last x) × (plain_caller.kept y ≡ plain_caller.kept x)
    × (reply ≡ Answered answer)

-- a number that is neither the last nor the next is wrong, as 0 always is; the last number gets the reply that it had,
-- whatever comes with it; and one whose command is refused may come again
abbrev pub ANumberIsAnsweredOnce : Type 0
ANumberIsAnsweredOnce =
    GetsReply at_first 0 mark_m at_first WrongNumber
    × GetsReply at_first 1 send_five after_one (Answered (done 1))
    × GetsReply after_one 1 send_five after_one (Answered (done 1))
    × GetsReply after_one 3 mark_m after_one WrongNumber
    × GetsReply after_one 2 mark_m after_two (Answered (done 2))
    × GetsReply after_two 1 mark_m after_two WrongNumber
    × GetsReply after_two 0 mark_m after_two WrongNumber
    × GetsReply after_two 2 undo_nine after_two (Answered (done 2))
    × GetsAnswer after_two mark_k after_a_call (Answered (done 3))
    × GetsReply after_a_call 3 undo_nine after_a_call (Answered (Refused NoStep))
    × GetsReply after_a_call 3 undo_three after_three (Answered (Undone (3 ∷ [])))
    × GetsReply after_three 3 undo_three after_three (Answered (Undone (3 ∷ [])))

-- a command with a number gets no other reply
abbrev pub ANumberHasOneReply : Type 0
ANumberHasOneReply =
    (x : PlainCaller) (n : ℕ) (command : Command) (y z : PlainCaller) (reply other : Reply)
    → GetsReply x n command y reply → GetsReply x n command z other → reply ≡ other
