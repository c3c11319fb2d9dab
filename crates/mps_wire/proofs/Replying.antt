-- What came of a numbered command, and the answer that is kept, make the reply.
use Rattle.std.proofs.Common.{◌≡◌, Option, None, Some, sym, ap, ◌∙◌}
use Rattle.mps_command.specs.declared.answer.Answer.{Answer}
use Rattle.mps_command.specs.declared.answer.Answer.TheVariants.{Refused}
use Rattle.mps_line.specs.declared.write_replies.Reply.{Reply}
use Rattle.mps_line.specs.declared.write_replies.Reply.TheVariants.{Answer as Answered, Number as WrongNumber}
use Rattle.mps_room.specs.declared.caller.Caller.{Ghosts}
use Rattle.mps_room.specs.declared.numbers.Told.{Told}
use Rattle.mps_room.specs.declared.numbers.Told.TheVariants.{Fresh, Kept, Wrong, Refused as CalledInVain}
use Rattle.mps_wire.specs.Conversations.{IsToldAs}

-- the reply, by what came of a command and the answer that is kept, if there is one
pub reply_of : Told → Option Answer → Reply
reply_of Wrong kept = WrongNumber
reply_of (CalledInVain refusal) kept = Answered (Refused refusal)
reply_of came None = WrongNumber
reply_of came (Some answer) = Answered answer

pub told_as : {C : Type 0} (caller : Ghosts C) (d : C) (came : Told) (reply : Reply) → IsToldAs caller d came reply → reply ≡ reply_of came (caller.kept d)
unfolding reply_of
told_as caller d Fresh reply t = t.2 ∙ sym (ap (reply_of Fresh) t.1)
told_as caller d Kept reply t = t.2 ∙ sym (ap (reply_of Kept) t.1)
told_as caller d Wrong reply t = t
told_as caller d (CalledInVain refusal) reply t = t
