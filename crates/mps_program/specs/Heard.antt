-- What was heard of the answers to a script, and what a clause reads of a strict sink.
use Rattle.std.specs.Prelude.{◌≡◌, ◌+◌, ◌%◌, ◌^◌, ◌<◌, ◌↔◌, ℕ, if◌then◌else◌, IsTrue, Option, Some, None, Result, Ok, Err, IfOk, List, [], ◌∷◌, length, take}
use Rattle.std.specs.List.{filter}
use Rattle.mps_line.specs.Codes.{is_refusal}
use Rattle.mps_lines.specs.Lines.{with_last}
use Rattle.mps_lines.specs.Cuts.{cut}
use Rattle.mps_program.specs.declared.faults.ToolFault.{ToolFault}
use Rattle.mps_program.specs.declared.tally.Tally.{Tally}
use Rattle.mps_program.specs.declared.tally.Strict.{Strict}

-- how many of the lines are refusals
abbrev pub refusals : List (List ℕ) → ℕ
refusals lines = length (filter is_refusal lines)

-- the lines that have ended, and one that has begun as a last one
abbrev pub begun : List ℕ → List (List ℕ)
begun heard = with_last (cut heard).lines (cut heard).rest

-- what the tally counts is what these bytes have, as numbers of 64 bits
pub record HasHeard (t : Tally) (heard : List ℕ) : Type 0 where
  pub lines : t.lines ≡ length (cut heard).lines % 2 ^ 64
  pub refused : t.refused ≡ refusals (begun heard) % 2 ^ 64
  pub within : IsTrue t.within ↔ 0 < length (cut heard).rest

-- the sink to which answers are passed on
abbrev pub inner_of : {W : Type 0} → Strict W → W
inner_of s = s.inner

-- how often more was to be taken after a refusal
abbrev pub late_of : {W : Type 0} → Strict W → ℕ
late_of s = s.late

-- no line comes after a refusal
abbrev pub EndsAtRefusal : List (List ℕ) → Type 0
EndsAtRefusal [] = Unit {0}
EndsAtRefusal (line ∷ lines) = (IsTrue (is_refusal line) → lines ≡ []) × EndsAtRefusal lines

-- these bytes were passed on, and were heard; no line came after a refusal
pub record HasPassed {W : Type 0} (s : Strict W) (passed : List ℕ) : Type 0 where
  pub heard : HasHeard s.tally passed
  pub ends : EndsAtRefusal (begun passed)

-- the line after that one
abbrev pub next_line : Option ℕ → Option ℕ
next_line None = None
next_line (Some k) = Some (k + 1)

-- the number of the first refusal among the lines, counted from 1
abbrev pub first_refusal : List (List ℕ) → Option ℕ
first_refusal [] = None
first_refusal (line ∷ lines) = if is_refusal line then Some 1 else next_line (first_refusal lines)

-- as a number of 64 bits
abbrev pub wrapped : Option ℕ → Option ℕ
wrapped None = None
wrapped (Some k) = Some (k % 2 ^ 64)

-- the bytes that a call took
abbrev pub taken_by : {E : Type 0} → Result ℕ E → List ℕ → List ℕ
taken_by (Ok n) bytes = take n bytes
taken_by (Err e) bytes = []

-- one more call that was too late, where a refusal had been taken whole
abbrev pub late_after : Option ℕ → ℕ → ℕ
late_after None late = late
late_after (Some k) late = late + 1

-- what comes of a strict run: the status 1 where this line was refused, and else 0, where the script ran to its end
abbrev pub after_strict : {A : Type 0} → Option ℕ → Result A ToolFault → Result ℕ ToolFault
after_strict (Some line) ran = Ok 1
after_strict None (Ok x) = Ok 0
after_strict None (Err fault) = Err fault

-- a strict run ends with 1 where this line was refused, and else with 0, or a fault
abbrev pub EndsStrictly : Option ℕ → Result ℕ ToolFault → Type 0
EndsStrictly (Some line) done = done ≡ Ok 1
EndsStrictly None done = IfOk done (λ status. status ≡ 0)
