-- Lines that wait, from bytes that come in pieces.
use Rattle.std.specs.Prelude.{ℕ, ◌==◌, nat_lt, if◌then◌else◌, Option, Some, None, List, [], ◌∷◌, ◌++◌, length, map}
use Rattle.std.specs.Char.{is_ascii}
use Rattle.std.specs.List.{list_all}
use Rattle.mps_lines.specs.Lines.{front, max_line}
use Rattle.mps_lines.specs.declared.line.Line.{Line}
use Rattle.mps_lines.specs.declared.line.Line.TheVariants.{Text, TooLong, NotAscii}

-- the lines that an LF ends, each without it, and the rest after the last LF
pub record Cut : Type 0 where
  pub lines : List (List ℕ)
  pub rest : List ℕ

-- with a byte in front that ends no line: it is of the first line, or of the rest where there is none
abbrev pub led_by : ℕ → List (List ℕ) → List ℕ → Cut
led_by c [] rest = record { lines = []; rest = c ∷ rest }
led_by c (line ∷ lines) rest = record { lines = (c ∷ line) ∷ lines; rest = rest }

-- the bytes, cut into lines and a rest
abbrev pub cut : List ℕ → Cut
cut [] = record { lines = []; rest = [] }
cut (c ∷ bytes) =
    if c == 10 then record { lines = [] ∷ (cut bytes).lines; rest = (cut bytes).rest }
    else led_by c (cut bytes).lines (cut bytes).rest

-- what a line is reported as: too long above 512 bytes, else no text where a byte is 128 or more
abbrev pub line_of : List ℕ → Line
line_of line = if nat_lt max_line (length line) then TooLong else if list_all is_ascii line then Text line else NotAscii

-- the lines that wait, and the rest, of which 513 bytes stand for all
pub record Pending : Type 0 where
  pub waiting : List Line
  pub rest : List ℕ

-- what bytes come to
abbrev pub pending_of : List ℕ → Pending
pending_of bytes = record { waiting = map line_of (cut bytes).lines; rest = front (cut bytes).rest }

-- where no byte came
abbrev pub nothing : Pending
nothing = record { waiting = []; rest = [] }

-- after one more piece: the lines of the rest and the piece wait after the others
abbrev pub fed : Pending → List ℕ → Pending
fed s piece =
    let more = pending_of (s.rest ++ piece) in
    record { waiting = s.waiting ++ more.waiting; rest = more.rest }

-- a rest that isn't empty, as a last line
abbrev pub last_of : List ℕ → Option Line
last_of [] = None
last_of (c ∷ rest) = Some (line_of (c ∷ rest))
