-- A conversation makes just its accepted commands, and leaves what no call changes.
use Rattle.std.proofs.Common.{arith, ◌≡◌, ℕ, zero, suc, Bool, true, List, [], ◌∷◌, ◌++◌, sym, ap, ◌∙◌, append_assoc, append-nil}
use Rattle.mps_command.specs.declared.answer.Answer.{Answer}
use Rattle.mps_command.specs.declared.command.Command.{Command}
use Rattle.mps_line.specs.declared.write_replies.Reply.{Reply}
use Rattle.mps_room.specs.Journal.{grown}
use Rattle.mps_room.specs.declared.caller.Caller.{Ghosts}
use Rattle.mps_room.specs.Numbers.{IsNumbered}
use Rattle.mps_room.specs.declared.entry.Entry.{Entry}
use Rattle.mps_room.specs.declared.numbers.Told.{Told}
use Rattle.mps_wire.specs.Answers.{AnswersBrokenOff, AnswersLines}
use Rattle.mps_wire.specs.Endings.{EndedAs}
use Rattle.mps_wire.specs.Making.{accepted_of, accepted_anew, accepted_reply, accepted_looks, accepted_in_time, accepted_line, accepted_lines, accepted_broken_off}
use Rattle.mps_wire.specs.Streams.{Streams}
use Rattle.mps_wire.specs.declared.conversation.Ending.{Ending}
use Rattle.mps_wire.specs.Conversations.{RepliesTo, LooksInVain, RepliesInTime, AtOnce, Later, RepliesInText, ConversesLine, ConversesBrokenOff}

-- What no call changes stays.
module _ {C F : Type 0} (caller : Ghosts C) (f : C → F) (keeps : (c : C) (x : Command) (a : Answer) (d : C) → caller.calls c x a d → f d ≡ f c) where
  came_keeps : (c : C) (number : ℕ) (command : Command) (d : C) (came : Told) → IsNumbered caller.calls caller.last caller.kept c number command d came → f d ≡ f c
  came_keeps c number command d came n = grind arith

  pub reply_keeps : (waits : Bool) (line : List ℕ) (c : C) (reply : Reply) (d : C) → RepliesTo caller waits line c reply d → f d ≡ f c
  reply_keeps waits line c reply d other = grind (arith, came_keeps)

  looks_keep : (line : List ℕ) (n : ℕ) (c d : C) → LooksInVain caller line n c d → f d ≡ f c
  looks_keep line zero c d l = ap f l
  looks_keep line (suc n) c d l = reply_keeps true line l.0 l.1 d l.3 ∙ looks_keep line n c l.0 l.2

  module _ (waits : Bool) where
    in_time_keeps : (line : List ℕ) (c : C) (reply : Reply) (d : C) → RepliesInTime caller waits line c reply d → f d ≡ f c
    in_time_keeps line c reply d (AtOnce none r) = reply_keeps waits line c reply d r
    in_time_keeps line c reply d (Later w) = reply_keeps true w.rest w.mid reply d w.replies ∙ looks_keep w.rest w.looks c w.mid w.in_vain

    line_keeps : (line : List ℕ) (c : C) (text : List ℕ) (d : C) → RepliesInText caller waits line c text d → f d ≡ f c
    line_keeps line c text d a = in_time_keeps line c a.reply d a.replies

    pub lines_keep : (lines : List (List ℕ)) (c : C) (out : List ℕ) (d : C) → AnswersLines (ConversesLine caller waits) lines c out d → f d ≡ f c
    lines_keep [] c out d a = ap f a.1
    lines_keep (l ∷ lines) c out d a = lines_keep lines a.2 a.1 d a.5 ∙ line_keeps l c a.0 a.2 a.4.line_is

    pub broken_keeps : (lines : List (List ℕ)) (c : C) (out : List ℕ) (d : C) → AnswersBrokenOff (ConversesLine caller waits) (ConversesBrokenOff caller waits) lines c out d → f d ≡ f c
    broken_keeps [] c out d a = ap f a.1
    broken_keeps (l ∷ []) c out d a = in_time_keeps l c a.reply d a.replies
    broken_keeps (l ∷ m ∷ lines) c out d a = broken_keeps (m ∷ lines) a.2 a.1 d a.5 ∙ line_keeps l c a.0 a.2 a.4.line_is

    pub ended_keeps : (first now : Streams) (c d : C) (e : Ending) → EndedAs (ConversesLine caller waits) (ConversesBrokenOff caller waits) c first now d e → f d ≡ f c
    ended_keeps first now c d e h = grind (arith, lines_keep, broken_keeps)

-- What was made grows by the accepted commands.
module _ {C : Type 0} (caller : Ghosts C) (same_role : (c : C) (x : Command) (a : Answer) (d : C) → caller.calls c x a d → caller.role d ≡ caller.role c)
    (grows : (c : C) (x : Command) (a : Answer) (d : C) → caller.calls c x a d → caller.made d ≡ grown (caller.made c) (caller.role c) x a) where
  kept : (c d : C) → d ≡ c → caller.made d ≡ caller.made c ++ []
  kept c d same = ap caller.made same ∙ sym (append-nil (caller.made c))

  called : (c : C) (command : Command) (answer : Answer) (d : C) → caller.calls c command answer d → caller.made d ≡ caller.made c ++ accepted_of (caller.role c) command answer
  called c command answer d call = grind (arith, append-nil)

  came : (c : C) (number : ℕ) (command : Command) (d : C) (t : Told) (n : IsNumbered caller.calls caller.last caller.kept c number command d t) → caller.made d ≡ caller.made c ++ accepted_anew caller c number command d t n
  came c number command d t n = grind (arith, called, kept)

  one : (waits : Bool) (line : List ℕ) (c : C) (d : C) (reply : Reply) (r : RepliesTo caller waits line c reply d) → caller.made d ≡ caller.made c ++ accepted_reply caller waits line c reply d r
  one waits line c d reply r = grind (arith, kept, called, came)

  more : (first others before mid after : List Entry) → mid ≡ before ++ first → after ≡ mid ++ others → after ≡ before ++ (first ++ others)
  more first others before mid after e f = f ∙ ap (λ (l : List Entry). l ++ others) e ∙ append_assoc before first others

  looks_make : (line : List ℕ) (n : ℕ) (c d : C) (l : LooksInVain caller line n c d) → caller.made d ≡ caller.made c ++ accepted_looks caller line n c d l
  looks_make line zero c d l = kept c d l
  looks_make line (suc n) c d l =
      more (accepted_looks caller line n c l.0 l.2) (accepted_reply caller true line l.0 l.1 d l.3) (caller.made c) (caller.made l.0) (caller.made d) (looks_make line n c l.0 l.2) (one true line l.0 d l.1 l.3)

  module _ (waits : Bool) where
    in_time_makes : (line : List ℕ) (c : C) (reply : Reply) (d : C) (r : RepliesInTime caller waits line c reply d) → caller.made d ≡ caller.made c ++ accepted_in_time caller waits line c reply d r
    in_time_makes line c reply d (AtOnce none r) = one waits line c d reply r
    in_time_makes line c reply d (Later w) =
        more (accepted_looks caller w.rest w.looks c w.mid w.in_vain) (accepted_reply caller true w.rest w.mid reply d w.replies) (caller.made c) (caller.made w.mid) (caller.made d) (looks_make w.rest w.looks c w.mid w.in_vain) (one true w.rest w.mid d reply w.replies)

    line_makes : (line : List ℕ) (c : C) (text : List ℕ) (d : C) (a : RepliesInText caller waits line c text d) → caller.made d ≡ caller.made c ++ accepted_line caller waits line c text d a
    line_makes line c text d a = in_time_makes line c a.reply d a.replies

    pub lines_make : (lines : List (List ℕ)) (c : C) (out : List ℕ) (d : C) (a : AnswersLines (ConversesLine caller waits) lines c out d) → caller.made d ≡ caller.made c ++ accepted_lines caller waits lines c out d a
    lines_make [] c out d a = ap caller.made a.1 ∙ sym (append-nil (caller.made c))
    lines_make (l ∷ lines) c out d a =
        more (accepted_line caller waits l c a.0 a.2 a.4.line_is) (accepted_lines caller waits lines a.2 a.1 d a.5) (caller.made c) (caller.made a.2) (caller.made d) (line_makes l c a.0 a.2 a.4.line_is) (lines_make lines a.2 a.1 d a.5)

    pub broken_makes : (lines : List (List ℕ)) (c : C) (out : List ℕ) (d : C) (a : AnswersBrokenOff (ConversesLine caller waits) (ConversesBrokenOff caller waits) lines c out d) → caller.made d ≡ caller.made c ++ accepted_broken_off caller waits lines c out d a
    broken_makes [] c out d a = ap caller.made a.1 ∙ sym (append-nil (caller.made c))
    broken_makes (l ∷ []) c out d a = in_time_makes l c a.reply d a.replies
    broken_makes (l ∷ m ∷ lines) c out d a =
        more (accepted_line caller waits l c a.0 a.2 a.4.line_is) (accepted_broken_off caller waits (m ∷ lines) a.2 a.1 d a.5) (caller.made c) (caller.made a.2) (caller.made d) (line_makes l c a.0 a.2 a.4.line_is) (broken_makes (m ∷ lines) a.2 a.1 d a.5)
