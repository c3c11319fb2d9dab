-- The entries that a conversation makes: its accepted commands, in order.
use Rattle.std.specs.Prelude.{ℕ, zero, suc, Bool, true, List, [], ◌∷◌, ◌++◌, if◌then◌else◌}
use Rattle.mps_command.specs.declared.answer.Answer.{Answer}
use Rattle.mps_command.specs.declared.command.Command.{Command}
use Rattle.mps_line.specs.declared.write_replies.Reply.{Reply}
use Rattle.mps_room.specs.Callers.{entry}
use Rattle.mps_room.specs.Journal.{is_accepted}
use Rattle.mps_room.specs.Numbers.{IsNumbered}
use Rattle.mps_room.specs.declared.caller.Caller.{Ghosts}
use Rattle.mps_room.specs.declared.entry.Entry.{Entry}
use Rattle.mps_room.specs.declared.numbers.Told.{Told}
use Rattle.mps_room.specs.declared.numbers.Told.TheVariants.{Fresh, Kept, Wrong, Refused}
use Rattle.mps_wire.specs.Answers.{AnswersBrokenOff, AnswersLines}
use Rattle.mps_wire.specs.Conversations.{RepliesTo, Unread, Called, Numbered, Starved, LooksInVain, RepliesInTime}
use Rattle.mps_wire.specs.Conversations.{AtOnce, Later, RepliesInText, ConversesLine, ConversesBrokenOff}

-- of one command: its entry, where the answer accepts it
abbrev pub accepted_of : ℕ → Command → Answer → List Entry
accepted_of role command answer = if is_accepted answer then entry role command answer ∷ [] else []

module _ {C : Type 0} (caller : Ghosts C) where
  -- of a command with a number: only one that is called now makes an entry
  abbrev pub accepted_anew : (c : C) (number : ℕ) (command : Command) (d : C) (came : Told)
      → IsNumbered caller.calls caller.last caller.kept c number command d came → List Entry
  accepted_anew c number command d Fresh n = entry (caller.role c) command n.answer ∷ []
  accepted_anew c number command d Kept n = []
  accepted_anew c number command d Wrong n = []
  accepted_anew c number command d (Refused refusal) n = []

  abbrev pub accepted_reply : (waits : Bool) (line : List ℕ) (c : C) (reply : Reply) (d : C)
      → RepliesTo caller waits line c reply d → List Entry
  accepted_reply waits line c reply d (Unread u) = []
  accepted_reply waits line c reply d (Called s) = accepted_of (caller.role c) s.command s.answer
  accepted_reply waits line c reply d (Numbered s) = accepted_anew c s.number s.command d s.came s.numbered
  accepted_reply waits line c reply d (Starved s) = []

  -- of replies one after the other
  abbrev pub accepted_looks : (line : List ℕ) (n : ℕ) (c d : C) → LooksInVain caller line n c d → List Entry
  accepted_looks line zero c d l = []
  accepted_looks line (suc n) c d l = accepted_looks line n c l.0 l.2 ++ accepted_reply true line l.0 l.1 d l.3

  -- What lines make that may wait, or may not.
  module _ (waits : Bool) where
    abbrev pub accepted_in_time : (line : List ℕ) (c : C) (reply : Reply) (d : C)
        → RepliesInTime caller waits line c reply d → List Entry
    accepted_in_time line c reply d (AtOnce none r) = accepted_reply waits line c reply d r
    accepted_in_time line c reply d (Later w) =
        accepted_looks w.rest w.looks c w.mid w.in_vain ++ accepted_reply true w.rest w.mid reply d w.replies

    -- of one line
    abbrev pub accepted_line : (line : List ℕ) (c : C) (text : List ℕ) (d : C) → RepliesInText caller waits line c text d
        → List Entry
    accepted_line line c text d a = accepted_in_time line c a.reply d a.replies

    -- of lines that are answered
    abbrev pub accepted_lines : (lines : List (List ℕ)) (c : C) (out : List ℕ) (d : C)
        → AnswersLines (ConversesLine caller waits) lines c out d → List Entry
    accepted_lines [] c out d a = []
    accepted_lines (l ∷ lines) c out d a = accepted_line l c a.0 a.2 a.4.line_is ++ accepted_lines lines a.2 a.1 d a.5

    -- of lines that are answered, where the last answer breaks off
    abbrev pub accepted_broken_off : (lines : List (List ℕ)) (c : C) (out : List ℕ) (d : C)
        → AnswersBrokenOff (ConversesLine caller waits) (ConversesBrokenOff caller waits) lines c out d → List Entry
    accepted_broken_off [] c out d a = []
    accepted_broken_off (l ∷ []) c out d a = accepted_in_time l c a.reply d a.replies
    accepted_broken_off (l ∷ m ∷ lines) c out d a =
        accepted_line l c a.0 a.2 a.4.line_is ++ accepted_broken_off (m ∷ lines) a.2 a.1 d a.5
