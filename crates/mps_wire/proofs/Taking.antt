-- How answers break off, and how a block of bytes is taken line by line.
use Rattle.std.proofs.Common.{◌≡◌, ℕ, ◌+◌, ◌-◌, ◌<◌, ◌≤◌, List, [], ◌∷◌, ◌++◌, Option, length, take, drop, get_or, sym, ap, ◌∙◌, subst, arith, append_assoc, append-nil, length-drop}
use Rattle.std.proofs.Math.Seq.{take-add}
use Rattle.std.proofs.lemmas.List.{take_rest, take_more, drop-drop, take-append-drop}
use Rattle.mps_lines.specs.Lines.{HasNoBreak, ended, front}
use Rattle.mps_lines.proofs.Splitting.{split_ended}
use Rattle.mps_wire.specs.Answers.{Answering, AnswersBytes, AnswersBrokenOff, AnswersLines, BreaksOffInLast, OfWholeLines}
use Rattle.mps_wire.specs.Private.Endings.{IsWholly, IsBrokenOff, TakesOn, TakesBrokenOff}
use Rattle.mps_wire.proofs.Answering.{GoesByFront, answered_more, answered_line}
use Rattle.mps_wire.proofs.Bytes.{Appends-trans, Appends-none}
use Rattle.mps_wire.proofs.Turning.{split_on}

-- a whole answer is one that breaks off at its end
abbrev pub IsWholeBroken : {S : Type 0} → Answering S → Answering S → Type 0
IsWholeBroken {S} answers broken = (line : List ℕ) (st : S) (text : List ℕ) (after : S) → answers line st text after → broken line st (ended text) after

module _ {S : Type 0} (answers broken : Answering S) where
  -- one line more, whose answer breaks off
  pub broken_push : (lines : List (List ℕ)) (line : List ℕ) (st mid after : S) (out written : List ℕ) → AnswersLines answers lines st out mid → broken line mid written after → AnswersBrokenOff answers broken (lines ++ line ∷ []) st (out ++ written) after
  broken_push [] line st mid after out written a b = grind arith
  broken_push (l ∷ []) line st mid after out written a b = grind (arith, append_assoc)
  broken_push (l ∷ m ∷ lines) line st mid after out written a b =
      (a.0, a.1 ++ written, a.2, ap (λ (x : List ℕ). x ++ written) a.3 ∙ append_assoc (ended a.0) a.1 written, a.4, broken_push (m ∷ lines) line a.2 mid after a.1 written a.5 b)

  module _ (whole : IsWholeBroken answers broken) where
    -- whole answers, the last of them too
    pub whole_broken : (lines : List (List ℕ)) (st after : S) (out : List ℕ) → AnswersLines answers lines st out after → AnswersBrokenOff answers broken lines st out after
    whole_broken [] st after out a = a
    whole_broken (l ∷ []) st after out a = grind (arith, append-nil)
    whole_broken (l ∷ m ∷ lines) st after out a = (a.0, a.1, a.2, a.3, a.4, whole_broken (m ∷ lines) a.2 after a.1 a.5)

    -- no more lines are answered, whatever else was read
    pub stops : (start st : S) (bytes kept out more : List ℕ) → AnswersBytes answers start bytes kept out st → OfWholeLines (bytes ++ more) (λ lines. BreaksOffInLast answers start broken lines out st)
    stops start st bytes kept out more a = grind (arith, split_on more bytes a.lines a.rest a.split, whole_broken a.lines start st out a.answers_lines)

  -- the line is ended, and its answer breaks off; whatever else was read
  pub breaks : GoesByFront broken → (start mid after : S) (bytes kept out written more : List ℕ) → AnswersBytes answers start bytes kept out mid → broken kept mid written after → OfWholeLines ((bytes ++ 10 ∷ []) ++ more) (λ lines. BreaksOffInLast answers start broken lines (out ++ written) after)
  breaks by_front start mid after bytes kept out written more a b =
      let s = split_on more (bytes ++ 10 ∷ []) (a.lines ++ a.rest ∷ []) [] (split_ended bytes a.lines a.rest a.split) in
      grind (arith, broken_push)

-- what was made of the bytes up to the rest
pub record Taking {S : Type 0} (answers : Answering S) (kept0 : List ℕ) (c0 : S) (took : Option (List ℕ)) (bytes rest kept : List ℕ) (c : S) (taken : Option (List ℕ)) : Type 0 where
  pub within : length rest ≤ length bytes
  pub left : rest ≡ drop (length bytes - length rest) bytes
  pub on : TakesOn answers (take (length bytes - length rest) bytes) kept0 c0 took kept c taken

module _ {S : Type 0} (answers broken : Answering S) (kept0 : List ℕ) (c0 : S) (took : Option (List ℕ)) (bytes : List ℕ) where
  pub taking_begins : Taking answers kept0 c0 took bytes bytes kept0 c0 took
  taking_begins = grind (arith, Appends-none, append-nil)

  module _ (rest kept kept1 : List ℕ) (c : S) (taken : Option (List ℕ)) (k : ℕ) (f : Taking answers kept0 c0 took bytes rest kept c taken) (less : k < length rest) (is : get_or rest k 0 ≡ 10) (none : HasNoBreak (take k rest)) (kept_is : kept1 ≡ front (kept ++ take k rest)) where
    passed : ℕ
    passed = length bytes - length rest

    -- up to the end of this line
    up_to : take (passed + (k + 1)) bytes ≡ take passed bytes ++ (take k rest ++ 10 ∷ [])
    unfolding passed
    up_to = grind (arith, take-add, passed, take_more)

    line_so_far : (first : S) (before out : List ℕ) → AnswersBytes answers first (before ++ take passed bytes) kept out c → AnswersBytes answers first (before ++ (take passed bytes ++ take k rest)) kept1 out c
    line_so_far first before out a = grind (arith, append_assoc, passed, answered_more)

    whole_of : (before : List ℕ) → (before ++ (take passed bytes ++ take k rest)) ++ 10 ∷ [] ≡ before ++ take (passed + (k + 1)) bytes
    whole_of before = append_assoc before (take passed bytes ++ take k rest) (10 ∷ []) ∙ ap (λ (l : List ℕ). before ++ l) (append_assoc (take passed bytes) (take k rest) (10 ∷ []) ∙ sym up_to)

    pub takes_on : GoesByFront answers → (kept2 : List ℕ) (d : S) (taken1 : Option (List ℕ)) → IsWholly answers kept1 c d taken taken1 → kept2 ≡ [] → Taking answers kept0 c0 took bytes (take (length rest - (k + 1)) (drop (k + 1) rest)) kept2 d taken1
    unfolding passed
    takes_on by_front kept2 d taken1 line empty =
        let tail : take (length rest - (k + 1)) (drop (k + 1) rest) ≡ drop (k + 1) rest = take_rest rest (k + 1) in
        let long : length (drop (k + 1) rest) ≡ length rest - (k + 1) = length-drop (k + 1) rest in
        let past : length bytes - length (drop (k + 1) rest) ≡ passed + (k + 1) = omega (arith, f.within, long, less) in
        let goal : Taking answers kept0 c0 took bytes (drop (k + 1) rest) kept2 d taken1 = record {
          within = omega (arith, f.within, long);
          left = ap (drop (k + 1)) f.left ∙ drop-drop (k + 1) passed bytes ∙ ap (λ (j : ℕ). drop j bytes) (sym past);
          on = λ first before out a.
              let had = f.on first before out a in
              let next = answered_line answers first by_front c d (before ++ (take passed bytes ++ take k rest)) kept1 (out ++ had.0) line.text (line_so_far first before (out ++ had.0) had.2) line.line_is in grind (arith, Appends-trans, append_assoc, whole_of);
        } in
        subst (λ (r : List ℕ). Taking answers kept0 c0 took bytes r kept2 d taken1) (sym tail) goal

    -- the answer to this line breaks off
    pub taking_breaks : GoesByFront broken → (d : S) (taken1 : Option (List ℕ)) → IsBrokenOff broken kept1 c d taken taken1 → TakesBrokenOff answers broken bytes kept0 c0 took d taken1
    unfolding passed
    taking_breaks by_front d taken1 line first before out a =
        let had = f.on first before out a in
        let n = passed + (k + 1) in
        let whole : ((before ++ (take passed bytes ++ take k rest)) ++ 10 ∷ []) ++ drop n bytes ≡ before ++ bytes =
        ap (λ (l : List ℕ). l ++ drop n bytes) (whole_of before) ∙ append_assoc before (take n bytes) (drop n bytes) ∙ ap (λ (l : List ℕ). before ++ l) (take-append-drop n bytes) in (
          had.0 ++ line.written,
          Appends-trans took taken taken1 had.0 line.written had.1 line.sent,
          subst (λ (o : List ℕ). OfWholeLines (before ++ bytes) (λ lines. BreaksOffInLast answers first broken lines o d)) (append_assoc out had.0 line.written)
              (subst (λ (b : List ℕ). OfWholeLines b (λ lines. BreaksOffInLast answers first broken lines ((out ++ had.0) ++ line.written) d)) whole
              (breaks answers broken by_front first c d (before ++ (take passed bytes ++ take k rest)) kept1 (out ++ had.0) line.written (drop n bytes) (line_so_far first before (out ++ had.0) had.2) line.line_is)),
        )

  module _ (rest kept : List ℕ) (c : S) (taken : Option (List ℕ)) (f : Taking answers kept0 c0 took bytes rest kept c taken) where
    -- the rest has no LF: its front is kept
    pub taking_ends : (kept1 : List ℕ) → HasNoBreak rest → kept1 ≡ front (kept ++ rest) → TakesOn answers bytes kept0 c0 took kept1 c taken
    taking_ends kept1 none kept_is first before out a =
        let n = length bytes - length rest in
        let had = f.on first before out a in
        grind (arith, answered_more answers first c (before ++ take n bytes) kept (out ++ had.0) rest had.2 none, append_assoc before (take n bytes) rest, take-append-drop n bytes)

    -- there is no memory for what comes of the line
    pub taking_stops : IsWholeBroken answers broken → TakesBrokenOff answers broken bytes kept0 c0 took c taken
    taking_stops whole first before out a =
        let n = length bytes - length rest in
        let had = f.on first before out a in
        let all : (before ++ take n bytes) ++ drop n bytes ≡ before ++ bytes =
        append_assoc before (take n bytes) (drop n bytes) ∙ ap (λ (l : List ℕ). before ++ l) (take-append-drop n bytes) in
        (had.0, had.1, subst (λ (b : List ℕ). OfWholeLines b (λ lines. BreaksOffInLast answers first broken lines (out ++ had.0) c)) all (stops answers broken whole first c (before ++ take n bytes) kept (out ++ had.0) (drop n bytes) had.2))
