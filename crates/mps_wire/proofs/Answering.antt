-- How the answers go on with more bytes.
use Rattle.std.proofs.Common.{◌≡◌, ℕ, ◌<◌, ◌≤◌, List, [], ◌∷◌, ◌++◌, length, refl, sym, ap, ◌∙◌, subst, arith, ⊎_elim, append_assoc, append-nil, length-take}
use Rattle.std.proofs.lemmas.Bool.{cases_lt}
use Rattle.mps_local.specs.Local.{LocalType}
use Rattle.mps_line.specs.declared.write_replies.Reply.{Reply}
use Rattle.mps_room.specs.declared.entry.Entry.{Entry}
use Rattle.mps_wire.specs.Answers.{Answering, AnswersLines, AnswersBytes, OfAllLines}
use Rattle.mps_lines.specs.Lines.{HasNoBreak, ended, most_kept, front}
use Rattle.mps_wire.specs.Script.{RepliesInScript, AnswersLine}
use Rattle.mps_lines.proofs.Splitting.{split_nothing, split_more, split_ended, front_front, front_short}

-- what the front of a line does, the line does
abbrev pub GoesByFront : {S : Type 0} → Answering S → Type 0
GoesByFront {S} answers = (line : List ℕ) (st : S) (text : List ℕ) (after : S) → answers (front line) st text after → answers line st text after

module _ (names : List (List ℕ)) (types : List LocalType) where
  -- of a line that is too long the front says enough
  long_line : (line : List ℕ) (st after : List Entry) (reply : Reply) → most_kept < length line → RepliesInScript names types (front line) st reply after → RepliesInScript names types line st reply after
  long_line line st after reply long r = grind (arith, length-take most_kept line)

  -- a long line's front is not read either
  long_front : (line : List ℕ) (st after : List Entry) (reply : Reply) → most_kept < length line → RepliesInScript names types line st reply after → RepliesInScript names types (front line) st reply after
  long_front line st after reply long r = grind (arith, length-take most_kept line)

  -- a script's lines go by their fronts
  pub by_front : GoesByFront (AnswersLine names types)
  by_front line st text after a =
      ⊎_elim
      (λ (long : most_kept < length line). record { reply = a.reply; replies = long_line line st after a.reply long a.replies; spelled = a.spelled })
      (λ (short : length line ≤ most_kept). subst (λ (l : List ℕ). AnswersLine names types l st text after) (front_short line short) a)
      (cases_lt most_kept (length line))

  -- what a line does, its front does
  pub to_front : (line : List ℕ) (st : List Entry) (text : List ℕ) (after : List Entry) → AnswersLine names types line st text after → AnswersLine names types (front line) st text after
  to_front line st text after a =
      ⊎_elim
      (λ (long : most_kept < length line). record { reply = a.reply; replies = long_front line st after a.reply long a.replies; spelled = a.spelled })
      (λ (short : length line ≤ most_kept). subst (λ (l : List ℕ). AnswersLine names types l st text after) (sym (front_short line short)) a)
      (cases_lt most_kept (length line))

-- Lines answered by a relation, from a state on.
module _ {S : Type 0} (answers : Answering S) (start : S) where
  pub lines_push : (lines : List (List ℕ)) (line : List ℕ) (st mid after : S) (out text : List ℕ) → AnswersLines answers lines st out mid → answers line mid text after → AnswersLines answers (lines ++ line ∷ []) st (out ++ ended text) after
  lines_push [] line st mid after out text a b = grind (arith, append-nil)
  lines_push (l ∷ lines) line st mid after out text a b =
      (a.0, a.1 ++ ended text, a.2, ap (λ (x : List ℕ). x ++ ended text) a.3 ∙ append_assoc (ended a.0) a.1 (ended text), a.4, lines_push lines line a.2 mid after a.1 text a.5 b)

  pub answered_nothing : AnswersBytes answers start [] [] [] start
  answered_nothing = record { lines = []; rest = []; split = split_nothing; front_kept = refl; answers_lines = (refl, refl) }

  -- more of the line that comes
  pub answered_more : (mid : S) (bytes kept out piece : List ℕ) → AnswersBytes answers start bytes kept out mid → HasNoBreak piece → AnswersBytes answers start (bytes ++ piece) (front (kept ++ piece)) out mid
  answered_more mid bytes kept out piece a h = grind (arith, split_more bytes a.lines a.rest piece a.split h, front_front a.rest piece)

  module _ (by_front : GoesByFront answers) where
    -- what the kept front of the last line does, the line does
    last_line : (kept rest text : List ℕ) (mid after : S) → kept ≡ front rest → answers kept mid text after → answers rest mid text after
    last_line kept rest text mid after e b = by_front rest mid text after (subst (λ (l : List ℕ). answers l mid text after) e b)

    -- the line is ended and answered
    pub answered_line : (mid after : S) (bytes kept out text : List ℕ) → AnswersBytes answers start bytes kept out mid → answers kept mid text after → AnswersBytes answers start (bytes ++ 10 ∷ []) [] (out ++ ended text) after
    answered_line mid after bytes kept out text a b = record {
      lines = a.lines ++ a.rest ∷ [];
      rest = [];
      split = split_ended bytes a.lines a.rest a.split;
      front_kept = refl;
      answers_lines = lines_push a.lines a.rest start mid after out text a.answers_lines (last_line kept a.rest text mid after a.front_kept b);
    }

    -- the end of the bytes, with a rest
    pub all_with_rest : (bytes kept out text : List ℕ) (mid after : S) → AnswersBytes answers start bytes kept out mid → (kept ≡ [] → ⊥) → answers kept mid text after → OfAllLines bytes (λ lines. AnswersLines answers lines start (out ++ ended text) after)
    all_with_rest bytes kept out text mid after a ne b = grind (arith, lines_push, by_front)
