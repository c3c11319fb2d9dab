-- The codes of replies.
use Rattle.std.specs.Prelude.{◌==◌, ℕ, Bool, false, List, [], ◌∷◌}
use Rattle.mps_command.specs.declared.answer.Violation.{Violation}
use Rattle.mps_command.specs.declared.answer.Violation.TheVariants.{Ended, WrongAct, WrongPeer, WrongSort, NoLabel}
use Rattle.mps_command.specs.declared.answer.Violation.TheVariants.{NothingQueued, Mismatch}
use Rattle.mps_command.specs.declared.answer.Refusal.{Refusal}
use Rattle.mps_command.specs.declared.answer.Refusal.TheVariants.{Violation as Violates, NoStep, NotYours, Final}
use Rattle.mps_command.specs.declared.answer.Refusal.TheVariants.{Needed, NoMark, Full, Memory}
use Rattle.mps_command.specs.declared.answer.Answer.TheVariants.{Refused}
use Rattle.mps_line.specs.declared.write_replies.Reply.{Reply}
use Rattle.mps_line.specs.declared.write_replies.Reply.TheVariants.{Answer as Answered, BadLine, NoSession, NoRole, Taken, Number as WrongNumber}
use Rattle.mps_line.specs.declared.write_replies.Reply.TheVariants.{Busy, Elsewhere, Unkept}

-- what a role's type doesn't allow: 1 to 7
abbrev pub violation_code : Violation → ℕ
violation_code Ended = 1
violation_code WrongAct = 2
violation_code WrongPeer = 3
violation_code WrongSort = 4
violation_code NoLabel = 5
violation_code NothingQueued = 6
violation_code Mismatch = 7

-- why a command was refused: 1 to 13, or 18
abbrev pub refusal_code : Refusal → ℕ
refusal_code (Violates violation) = violation_code violation
refusal_code NoStep = 8
refusal_code NotYours = 9
refusal_code (Final by) = 18
refusal_code (Needed by) = 10
refusal_code NoMark = 11
refusal_code Full = 12
refusal_code Memory = 13

-- 0 where nothing is refused
abbrev pub code_of : Reply → ℕ
code_of (Answered (Refused refusal)) = refusal_code refusal
code_of BadLine = 14
code_of NoSession = 15
code_of NoRole = 16
code_of Taken = 17
code_of WrongNumber = 19
code_of Busy = 20
code_of Unkept = 21
code_of Elsewhere = 22
code_of reply = 0

-- the line begins with an r, as a refusal's does
abbrev pub is_refusal : List ℕ → Bool
is_refusal [] = false
is_refusal (c ∷ line) = c == 114
