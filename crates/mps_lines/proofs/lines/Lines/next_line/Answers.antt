-- `Lines::next_line` meets its clauses `first`, `others` and `rest`, keeps the invariant of its type, and overflows no number, by the lemmas of Cutting.
use Rattle.std.proofs.Common.{◌≡◌, ◌∷◌, take, map, slice_get, arith}
use Rattle.mps_lines.specs.Cuts.{cut, line_of}
use Rattle.mps_lines.proofs.Cutting.{next_whole, no_line, rest_within}
use Rattle.mps_lines.proofs.lines.Lines.next_line.Goals as goal
use Rattle.mps_lines.proofs.lines.Lines.next_line.Goals.{After-advance}

pub overflow_sub-whole : goal.overflow_sub-whole
overflow_sub-whole c = omega (arith, rest_within c.self.inside.bytes.items, c.self.invariant.0, c.len.ensures.value)

pub returns-in_default-clause-first : goal.returns-in_default-clause-first
returns-in_default-clause-first c = grind (arith, slice_get, no_line)

pub returns-in_default-clause-others : goal.returns-in_default-clause-others
returns-in_default-clause-others c = grind (arith, no_line)

-- the line is the first one, and after it and its LF stands what is left
cut_now : (c : After-advance) → cut c.self.inside.bytes.items ≡ record { lines = take c.in-Some.k c.self.inside.bytes.items ∷ (cut c.advance.new.self.items).lines; rest = (cut c.advance.new.self.items).rest }
cut_now c = grind (arith, next_whole)

pub invariant_of-self-2 : goal.invariant_of-self-2
invariant_of-self-2 c = grind (arith, cut_now)

-- the lines that waited
waited : (c : After-advance) → c.args.self.now.waiting ≡ c.in_ok-line.line ∷ map line_of (cut c.advance.new.self.items).lines
waited c = grind (arith, cut_now)

pub returns-clause-first : goal.returns-clause-first
returns-clause-first c = grind (arith, slice_get, cut_now)

pub returns-clause-others : goal.returns-clause-others
returns-clause-others c = grind (arith, cut_now)

pub returns-clause-rest : goal.returns-clause-rest
returns-clause-rest c = grind (arith, cut_now)
