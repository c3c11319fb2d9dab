-- How lines are answered, whatever they do to what state.
use Rattle.std.specs.Prelude.{◌≡◌, ℕ, List, [], ◌∷◌, ◌++◌}
use Rattle.mps_lines.specs.Lines.{IsSplit, with_last, ended, front}

-- what a line does: the line, the state before it, the text that answers it, the state after it
abbrev pub Answering : Type 0 → Type 1
Answering S = List ℕ → S → List ℕ → S → Type 0

-- the texts that answer lines in order, each with an LF, and the state after them
abbrev pub AnswersLines : {S : Type 0} → Answering S → List (List ℕ) → S → List ℕ → S → Type 0
AnswersLines answers [] st out after = (out ≡ []) × (after ≡ st)
AnswersLines {S} answers (line ∷ lines) st out after =
    (text : List ℕ) × (others : List ℕ) × (mid : S) × (out ≡ ended text ++ others)
    × answers line st text mid × AnswersLines answers lines mid others after

-- the same, where the last text breaks off: as `broken` says
abbrev pub AnswersBrokenOff : {S : Type 0} → (answers broken : Answering S) → List (List ℕ) → S → List ℕ → S → Type 0
AnswersBrokenOff answers broken [] st out after = (out ≡ []) × (after ≡ st)
AnswersBrokenOff answers broken (line ∷ []) st out after = broken line st out after
AnswersBrokenOff {S} answers broken (line ∷ other ∷ lines) st out after =
    (text : List ℕ) × (others : List ℕ) × (mid : S) × (out ≡ ended text ++ others)
    × answers line st text mid × AnswersBrokenOff answers broken (other ∷ lines) mid others after

-- Two ways in which answers break off.
module _ {S : Type 0} (answers : Answering S) (start : S) where
  -- anywhere: what is written are answers to the first of the lines, up to some place in them; no more is known of the
  -- state
  pub record BreaksOffAnywhere (lines : List (List ℕ)) (written : List ℕ) : Type 0 where
    pub answered : List (List ℕ)
    pub others : List (List ℕ)
    pub first : lines ≡ answered ++ others
    pub out : List ℕ
    pub after : S
    pub answers_lines : AnswersLines answers answered start out after
    pub unwritten : List ℕ
    pub broken : out ≡ written ++ unwritten

  -- in the last answer: the first of the lines are answered, the last of these broken off, and the state is the one
  -- after them
  pub record BreaksOffInLast (broken : Answering S) (lines : List (List ℕ)) (written : List ℕ) (after : S)
      : Type 0 where
    pub answered : List (List ℕ)
    pub others : List (List ℕ)
    pub first : lines ≡ answered ++ others
    pub answers_lines : AnswersBrokenOff answers broken answered start written after

-- Of the lines of bytes this holds.
module _ (bytes : List ℕ) (Holds : List (List ℕ) → Type 0) where
  -- of those that an LF ends
  pub record OfWholeLines : Type 0 where
    pub lines : List (List ℕ)
    pub rest : List ℕ
    pub split : IsSplit bytes lines rest
    pub holds : Holds lines

  -- of these and of a rest that no LF ends
  pub record OfAllLines : Type 0 where
    pub lines : List (List ℕ)
    pub rest : List ℕ
    pub split : IsSplit bytes lines rest
    pub holds : Holds (with_last lines rest)

-- each whole line of the bytes is answered, and of the rest the front is kept
pub record AnswersBytes {S : Type 0} (answers : Answering S) (start : S) (bytes kept out : List ℕ) (after : S)
    : Type 0 where
  pub lines : List (List ℕ)
  pub rest : List ℕ
  pub split : IsSplit bytes lines rest
  pub front_kept : kept ≡ front rest
  pub answers_lines : AnswersLines answers lines start out after
