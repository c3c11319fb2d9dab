-- How replies are spelled.
use Rattle.std.specs.Prelude.{ℕ, List, [], ◌∷◌, map, codes, Option, Some, None}
use Rattle.mps_base.specs.declared.action.Message.{Message}
use Rattle.mps_base.specs.declared.action.Message.TheVariants.{Value as Plain, Label}
use Rattle.mps_command.specs.declared.answer.Violation.TheVariants.{Ended, WrongAct, WrongPeer, WrongSort, NoLabel}
use Rattle.mps_command.specs.declared.answer.Violation.TheVariants.{NothingQueued, Mismatch}
use Rattle.mps_command.specs.declared.answer.Refusal.{Refusal}
use Rattle.mps_command.specs.declared.answer.Refusal.TheVariants.{Violation as Violates, NoStep, NotYours, Final}
use Rattle.mps_command.specs.declared.answer.Refusal.TheVariants.{Needed, NoMark, Full, Memory}
use Rattle.mps_command.specs.declared.answer.Answer.{Answer}
use Rattle.mps_command.specs.declared.answer.Answer.TheVariants.{Done, Undone, News, Shown, Refused}
use Rattle.mps_line.specs.declared.write_replies.Reply.{Reply}
use Rattle.mps_line.specs.declared.write_replies.Reply.TheVariants.{Answer as Answered, BadLine, Joined, NoSession, NoRole, Taken}
use Rattle.mps_line.specs.declared.write_replies.Reply.TheVariants.{Busy, Elsewhere, Number as WrongNumber, Unkept}
use Rattle.mps_line.specs.Tokens.{Token, Word, Called, Number, Worth, Show, SpellsLine}

-- the word for a refusal
abbrev pub word_of : Refusal → List ℕ
word_of (Violates Ended) = codes "ended"
word_of (Violates WrongAct) = codes "wrongact"
word_of (Violates WrongPeer) = codes "wrongpeer"
word_of (Violates WrongSort) = codes "wrongsort"
word_of (Violates NoLabel) = codes "nolabel"
word_of (Violates NothingQueued) = codes "nothingqueued"
word_of (Violates Mismatch) = codes "mismatch"
word_of NoStep = codes "nostep"
word_of NotYours = codes "notyours"
word_of (Final by) = codes "final"
word_of (Needed by) = codes "needed"
word_of NoMark = codes "nomark"
word_of Full = codes "full"
word_of Memory = codes "memory"

-- a value or a label
abbrev pub message_token : Message → Token
message_token (Plain value) = Worth value
message_token (Label name) = Called name

-- the step's number, and after it the message that was taken, if one was
abbrev pub done_tokens : ℕ → Option Message → List Token
done_tokens id None = Number id ∷ []
done_tokens id (Some message) = Number id ∷ message_token message ∷ []

-- the word, and after `final` or `needed` the step's number
abbrev pub refusal_tokens : Refusal → List Token
refusal_tokens (Final by) = Word (word_of (Final by)) ∷ Number by ∷ []
refusal_tokens (Needed by) = Word (word_of (Needed by)) ∷ Number by ∷ []
refusal_tokens refusal = Word (word_of refusal) ∷ []

-- the word, and after it the number of each step
abbrev pub undone_tokens : List ℕ → List Token
undone_tokens ids = Word (codes "undone") ∷ map Number ids

-- the word, the length of the journal, and after it the number of each step
abbrev pub news_tokens : ℕ → List ℕ → List Token
news_tokens n ids = Word (codes "news") ∷ Number n ∷ map Number ids

-- `done NUMBER`, `done NUMBER MESSAGE`, `undone NUMBER NUMBER ..`, `news NUMBER NUMBER ..`, a shown session,
-- `refused WORD`, `refused final NUMBER` or `refused needed NUMBER`
abbrev pub answer_tokens : Answer → List Token
answer_tokens (Done done) = Word (codes "done") ∷ done_tokens done.id done.got
answer_tokens (Undone ids) = undone_tokens ids
answer_tokens (News n ids) = news_tokens n ids
answer_tokens (Shown text) = Show text ∷ []
answer_tokens (Refused refusal) = Word (codes "refused") ∷ refusal_tokens refusal

-- those of the answer; `joined NUMBER NAME`; or `refused` and why no answer was asked for
abbrev pub reply_tokens : Reply → List Token
reply_tokens (Answered answer) = answer_tokens answer
reply_tokens BadLine = Word (codes "refused") ∷ Word (codes "line") ∷ []
reply_tokens (Joined session name) = Word (codes "joined") ∷ Number session ∷ Called name ∷ []
reply_tokens NoSession = Word (codes "refused") ∷ Word (codes "nosession") ∷ []
reply_tokens NoRole = Word (codes "refused") ∷ Word (codes "norole") ∷ []
reply_tokens Taken = Word (codes "refused") ∷ Word (codes "taken") ∷ []
reply_tokens WrongNumber = Word (codes "refused") ∷ Word (codes "number") ∷ []
reply_tokens Busy = Word (codes "refused") ∷ Word (codes "busy") ∷ []
reply_tokens Unkept = Word (codes "refused") ∷ Word (codes "journal") ∷ []
reply_tokens Elsewhere = Word (codes "refused") ∷ Word (codes "elsewhere") ∷ []

-- a line of these tokens, none of which is a role's name
abbrev pub SpellsReply : List ℕ → Reply → Type 0
SpellsReply bytes reply = SpellsLine [] bytes (reply_tokens reply)

-- `join NUMBER NAME`: the first line of a connection
abbrev pub SpellsJoin : List ℕ → (session : ℕ) → (name : List ℕ) → Type 0
SpellsJoin bytes session name = SpellsLine [] bytes (Word (codes "join") ∷ Number session ∷ Called name ∷ [])
