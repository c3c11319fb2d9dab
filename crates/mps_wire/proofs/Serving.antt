-- What a line is answered, from what the room answers.
use Rattle.std.proofs.Common.{◌≡◌, ℕ, zero, suc, ◌<◌, arith, false, List, [], ◌∷◌, ◌++◌, length, Result, Ok, Err, sym}
use Rattle.std.proofs.lemmas.Bool.{cond-false}
use Rattle.std.specs.Prelude.{OnOk}
use Rattle.std.specs.List.{AllByRecursion}
use Rattle.std.specs.Str.{IsAscii}
use Rattle.std.proofs.lemmas.Option.{slice_get_within}
use Rattle.mps_base.specs.Values.{IsShown}
use Rattle.mps_base.specs.Appends.{AppendsSuch}
use Rattle.mps_local.specs.Local.{LocalType}
use Rattle.mps_command.specs.declared.command.Command.{Command}
use Rattle.mps_line.specs.declared.write_replies.Reply.{Reply}
use Rattle.mps_line.specs.Replies.{SpellsReply}
use Rattle.mps_line.specs.Commands.{SpellsScriptLine, command_tokens}
use Rattle.mps_line.specs.Tokens.{RoleAt, SpellEach}
use Rattle.mps_line.proofs.ShownLines.{shown_line}
use Rattle.mps_room.specs.declared.entry.Entry.{Entry}
use Rattle.mps_room.specs.Journal.{grown, answer_to, is_accepted, MayAnswer}
use Rattle.mps_line.specs.declared.write_replies.Reply.TheVariants.{Answer as Answered}
use Rattle.mps_command.specs.declared.answer.Answer.{Answer}
use Rattle.mps_wire.specs.Script.{IsReadable, RepliesInScript, AnswersLine}
use Rattle.mps_wire.specs.Private.Commands.{IsReplied}

-- the role of a line is one of the names
pub role_within : (names : List (List ℕ)) (line : List ℕ) (role : ℕ) (command : Command) → SpellsScriptLine names line role command → role < length names
role_within names line role command spelled = first spelled.spellings spelled.each
  where
    first : (spellings : List (List ℕ)) → SpellEach names spellings (RoleAt role ∷ command_tokens command) → role < length names
    first [] each = absurd each
    first (bytes ∷ others) each = slice_get_within names role bytes each.0.place

pub shown_ascii : (bytes : List ℕ) → AllByRecursion IsShown bytes → IsAscii bytes
shown_ascii [] h i = omega arith
shown_ascii (c ∷ bytes) h zero = let high = h.0.high in omega arith
shown_ascii (c ∷ bytes) h (suc i) = shown_ascii bytes h.1 i

-- a line that spells a command has bytes below 128 alone
pub spelled_ascii : (names : List (List ℕ)) (line : List ℕ) (role : ℕ) (command : Command) → SpellsScriptLine names line role command → IsAscii line
spelled_ascii names line role command spelled = shown_ascii line (shown_line names line role command spelled)

-- the text of the reply answers the line
pub answers_line : {T E : Type 0} (names : List (List ℕ)) (types : List LocalType) (line : List ℕ) (journal after : List Entry) (reply : Reply) (written : Result T E) (old new : List ℕ) → RepliesInScript names types line journal reply after → OnOk written (AppendsSuch (λ text. SpellsReply text reply) old new) → OnOk written (AppendsSuch (λ text. AnswersLine names types line journal text after) old new)
answers_line names types line journal after reply written old new replies a = grind arith

-- the text of the answer answers the command
pub answered : {T E : Type 0} (names : List (List ℕ)) (types : List LocalType) (journal : List Entry) (role : ℕ) (command : Command) (after : List Entry) (answer : Answer) (written : Result T E) (old new : List ℕ)
    → MayAnswer answer (answer_to names types journal role command)
    → after ≡ grown journal role command answer
    → OnOk written (AppendsSuch (λ text. SpellsReply text (Answered answer)) old new)
    → OnOk written (IsReplied names types journal role command after old new)
answered names types journal role command after answer written old new wanted joined other = grind arith

-- an answer that accepts nothing leaves the journal
pub unchanged : (journal : List Entry) (role : ℕ) (command : Command) (answer : Answer) → is_accepted answer ≡ false → journal ≡ grown journal role command answer
unchanged journal role command answer asked = sym (cond-false (is_accepted answer) (journal ++ record { role = role; command = command; answer = answer } ∷ []) journal asked)

-- the text of the room's answer answers the line of its command
pub answers_command : {T E : Type 0} (names : List (List ℕ)) (types : List LocalType) (line : List ℕ) (journal : List Entry) (role : ℕ) (command : Command) (after : List Entry) (written : Result T E) (old new : List ℕ)
    → IsReadable names line role command
    → OnOk written (IsReplied names types journal role command after old new)
    → OnOk written (AppendsSuch (λ text. AnswersLine names types line journal text after) old new)
answers_command {T} {E} names types line journal role command after (Ok x) old new readable h =
    answers_line {T = T} {E = E} names types line journal after (Answered h.0) (Ok x) old new
    (grind arith)
    h.3
answers_command names types line journal role command after (Err e) old new readable h = tt
