-- What a caller's line does, from what its front does.
use Rattle.std.proofs.Common.{Bool, true, ◌≡◌, ℕ, ◌<◌, ◌≤◌, List, [], Option, length, min, refl, sym, subst, ◌∙◌, arith, ⊎_elim, inl, append-nil, length-take}
use Rattle.std.specs.Io.KnownBytes.{Appends}
use Rattle.std.proofs.lemmas.Bool.{cases_lt}
use Rattle.std.proofs.lemmas.List.{take-append-drop}
use Rattle.std.specs.List.{AllByRecursion}
use Rattle.mps_base.specs.RoleLists.{AreDistinct}
use Rattle.mps_base.specs.Values.{IsShown}
use Rattle.mps_command.specs.declared.command.Command.{Command}
use Rattle.mps_line.specs.Commands.{MayHaveNumber, SpellsNumbered}
use Rattle.mps_line.specs.Replies.{SpellsReply}
use Rattle.mps_line.specs.declared.write_replies.Reply.{Reply}
use Rattle.mps_lines.specs.Lines.{ended, max_line, most_kept, front}
use Rattle.mps_lines.proofs.Splitting.{front_short}
use Rattle.mps_room.specs.declared.caller.Caller.{Ghosts}
use Rattle.mps_wire.specs.Sending.{TookFront}
use Rattle.mps_wire.specs.Conversations.{IsRequest, RepliesTo, Unread, Called, Numbered, Starved, RepliesInTime, AtOnce, Later, RepliesInText, ConversesLine, ConversesBrokenOff}
use Rattle.mps_wire.specs.Uncalled.{MayAsk}
use Rattle.mps_wire.specs.Private.Endings.{IsWholly, IsBrokenOff}
use Rattle.mps_wire.proofs.Answering.{GoesByFront}
use Rattle.mps_wire.proofs.Bytes.{Appends-none}
use Rattle.mps_wire.proofs.Serving.{shown_ascii}
use Rattle.mps_wire.proofs.Taking.{IsWholeBroken}

-- a line that spells `stand`, where that may not be asked, spells no other command
pub only_stand : (one : (names : List (List ℕ)) (a : List ℕ) (m n : Option ℕ) (c d : Command) → AreDistinct names → SpellsNumbered names a m c → SpellsNumbered names a n d → c ≡ d) (waits : Bool) (names known : List (List ℕ)) (line : List ℕ) (given : Option ℕ) (command : Command) → known ≡ names → AreDistinct known → SpellsNumbered known line given command → (MayAsk waits command → ⊥) → (number : Option ℕ) (other : Command) → IsRequest waits names line number other → ⊥
only_stand one waits names known line given command same distinct read denied number other r =
    let spelled = subst (λ (n : List (List ℕ)). SpellsNumbered n line number other) (sym same) r.spelled in
    denied (subst (MayAsk waits) (one known line number given other command distinct spelled read) r.allowed)

-- what may have a number may be asked anywhere
pub change_may : (waits : Bool) (command : Command) → MayHaveNumber command → MayAsk waits command
change_may waits command asks = grind arith

-- a line that was read, by the names that are known, is a request
pub request : (waits : Bool) (names known : List (List ℕ)) (line : List ℕ) (number given : Option ℕ) (command : Command) → length line ≤ max_line → known ≡ names → given ≡ number → (SpellsNumbered names line number command → AllByRecursion IsShown line) → SpellsNumbered known line given command → MayAsk waits command → IsRequest waits names line number command
request waits names known line number given command short e f shown read allowed = grind (arith, shown_ascii)

module _ {C : Type 0} (caller : Ghosts C) where
  -- of a line that is too long the front says enough
  long_line : (waits : Bool) (line : List ℕ) (c d : C) (reply : Reply) → most_kept < length line → RepliesTo caller waits (front line) c reply d → RepliesTo caller waits line c reply d
  long_line waits line c d reply long r = by_case r
    where
      n : length (front line) ≡ most_kept
      n = length-take most_kept line ∙ (let m : min most_kept (length line) ≡ most_kept = omega arith in m)

      by_case : RepliesTo caller waits (front line) c reply d → RepliesTo caller waits line c reply d
      by_case (Unread u) = Unread (record { unreadable = λ number command readable. let s = readable.short in absurd (omega arith); bad = u.bad; unchanged = u.unchanged })
      by_case (Called s) = let short = s.readable.short in absurd (omega (arith, n))
      by_case (Numbered s) = let short = s.readable.short in absurd (omega (arith, n))
      by_case (Starved s) = let short = s.readable.short in absurd (omega (arith, n))

  -- a long line's front is not read either
  long_front : (waits : Bool) (line : List ℕ) (c d : C) (reply : Reply) → most_kept < length line → RepliesTo caller waits line c reply d → RepliesTo caller waits (front line) c reply d
  long_front waits line c d reply long r = by_case r
    where
      n : length (front line) ≡ most_kept
      n = length-take most_kept line ∙ (let m : min most_kept (length line) ≡ most_kept = omega arith in m)

      by_case : RepliesTo caller waits line c reply d → RepliesTo caller waits (front line) c reply d
      by_case (Unread u) = Unread (record { unreadable = λ number command readable. let s = readable.short in absurd (omega (arith, n)); bad = u.bad; unchanged = u.unchanged })
      by_case (Called s) = let short = s.readable.short in absurd (omega arith)
      by_case (Numbered s) = let short = s.readable.short in absurd (omega arith)
      by_case (Starved s) = let short = s.readable.short in absurd (omega arith)

  -- Lines that may wait, or may not.
  module _ (waits : Bool) where
    -- one that is too long doesn't wait
    long_front_in_time : (line : List ℕ) (c d : C) (reply : Reply) → most_kept < length line → RepliesInTime caller waits line c reply d → RepliesInTime caller waits (front line) c reply d
    long_front_in_time line c d reply long r = by_case r
      where
        n : length (front line) ≡ most_kept
        n = length-take most_kept line ∙ (let m : min most_kept (length line) ≡ most_kept = omega arith in m)

        by_case : RepliesInTime caller waits line c reply d → RepliesInTime caller waits (front line) c reply d
        by_case (AtOnce none at_once) = AtOnce (λ limit rest waiting. let short = waiting.short in absurd (omega (arith, n))) (long_front waits line c d reply long at_once)
        by_case (Later w) = let short = w.waiting.short in absurd (omega arith)

    long_line_in_time : (line : List ℕ) (c d : C) (reply : Reply) → most_kept < length line → RepliesInTime caller waits (front line) c reply d → RepliesInTime caller waits line c reply d
    long_line_in_time line c d reply long r = by_case r
      where
        n : length (front line) ≡ most_kept
        n = length-take most_kept line ∙ (let m : min most_kept (length line) ≡ most_kept = omega arith in m)

        by_case : RepliesInTime caller waits (front line) c reply d → RepliesInTime caller waits line c reply d
        by_case (AtOnce none at_once) = AtOnce (λ limit rest waiting. let short = waiting.short in absurd (omega arith)) (long_line waits line c d reply long at_once)
        by_case (Later w) = let short = w.waiting.short in absurd (omega (arith, n))

    -- what a line does, its front does
    front_reply : (line : List ℕ) (c d : C) (reply : Reply) → RepliesInTime caller waits line c reply d → RepliesInTime caller waits (front line) c reply d
    front_reply line c d reply r =
        ⊎_elim
        (λ (long : most_kept < length line). long_front_in_time line c d reply long r)
        (λ (short : length line ≤ most_kept). subst (λ (l : List ℕ). RepliesInTime caller waits l c reply d) (sym (front_short line short)) r)
        (cases_lt most_kept (length line))

    -- the same, of a front that is known
    pub front_replies : (line kept : List ℕ) → front line ≡ kept → (c d : C) (reply : Reply) → RepliesInTime caller waits line c reply d → RepliesInTime caller waits kept c reply d
    front_replies line kept is c d reply r = subst (λ (l : List ℕ). RepliesInTime caller waits l c reply d) is (front_reply line c d reply r)

    whole_reply : (line : List ℕ) (c d : C) (reply : Reply) → RepliesInTime caller waits (front line) c reply d → RepliesInTime caller waits line c reply d
    whole_reply line c d reply r =
        ⊎_elim
        (λ (long : most_kept < length line). long_line_in_time line c d reply long r)
        (λ (short : length line ≤ most_kept). subst (λ (l : List ℕ). RepliesInTime caller waits l c reply d) (front_short line short) r)
        (cases_lt most_kept (length line))

    whole_line : (line : List ℕ) (c : C) (text : List ℕ) (d : C) → RepliesInText caller waits (front line) c text d → RepliesInText caller waits line c text d
    whole_line line c text d a = record { reply = a.reply; replies = whole_reply line c d a.reply a.replies; spelled = a.spelled }

    -- a caller's lines go by their fronts
    pub converses_by_front : GoesByFront (ConversesLine caller waits)
    converses_by_front line c text d a = record { line_is = whole_line line c text d a.line_is; aloud = a.aloud }

    pub broken_by_front : GoesByFront (ConversesBrokenOff caller waits)
    broken_by_front line c written d a = record { reply = a.reply; replies = whole_reply line c d a.reply a.replies; begun = a.begun; silent = a.silent }

    pub whole_is_broken : IsWholeBroken (ConversesLine caller waits) (ConversesBrokenOff caller waits)
    whole_is_broken line c text d a = grind (arith, append-nil)

    module _ (line : List ℕ) (c d : C) (reply : Reply) (replies : RepliesInTime caller waits line c reply d) where
      -- there was no memory for the text, or it may not be told
      pub unwritten_line : (taken : Option (List ℕ)) → IsBrokenOff (ConversesBrokenOff caller waits) line c d taken taken
      unwritten_line taken = record { written = []; line_is = record { reply = reply; replies = replies; begun = inl refl; silent = λ off. refl }; sent = Appends-none taken }

      module _ (text : List ℕ) (spelled : SpellsReply text reply) (aloud : caller.may_tell d ≡ true) (taken taken' : Option (List ℕ)) (bytes : List ℕ) (is : bytes ≡ ended text) where
        -- the sink failed
        pub broken_line : TookFront taken taken' bytes → IsBrokenOff (ConversesBrokenOff caller waits) line c d taken taken'
        broken_line took = grind (arith, take-append-drop took.count bytes)

        -- the sink took it all
        pub sent_line : Appends taken taken' bytes → IsWholly (ConversesLine caller waits) line c d taken taken'
        sent_line sent = grind arith
