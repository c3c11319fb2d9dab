-- `read_role_and_value` meets its clauses `bad` and `memory`, by the lemmas of CommandLines.
use Rattle.mps_line.proofs.CommandLines.{role_in_front, none_of_these, no_role_in_front}
use Rattle.mps_line.proofs.read_commands.read_role_and_value.Goals as goal

pub returns-in_default-clause-bad : goal.returns-in_default-clause-bad
returns-in_default-clause-bad c = λ e to value h. no_role_in_front _ _ _ _ c.in_default.ensures.none to h

pub returns-in-Err-Bad-clause-bad : goal.returns-in-Err-Bad-clause-bad
returns-in-Err-Bad-clause-bad c = λ e to value h.
    none_of_these _ _ _ _ c.in-Some.ensures.rest (c.in-Err-Bad.ensures.bad (cc) value) to h

pub returns-in-Err-Memory-clause-memory : goal.returns-in-Err-Memory-clause-memory
returns-in-Err-Memory-clause-memory c = λ e.
    let k = c.in-Err-Memory.ensures.memory (cc) in
    (c.in-Some.parts.0, k.0, role_in_front _ _ _ _ _ c.in-Some.ensures.read k.1)
