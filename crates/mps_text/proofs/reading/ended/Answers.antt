-- `ended` meets its clauses `runs` and `tokens`, by the lemmas of Steps and Propagated.
use Rattle.std.proofs.Common.{arith}
use Rattle.std.proofs.lemmas.Bool.Decides.{nat_tests}
use Rattle.mps_text.proofs.Steps.{blanks_end, token_behind}
use Rattle.mps_text.proofs.Propagated.{end_fails}
use Rattle.mps_text.proofs.reading.ended.Goals as goal

pub returns-then-is_empty-clause-runs : goal.returns-then-is_empty-clause-runs
returns-then-is_empty-clause-runs c = grind (arith, nat_tests, blanks_end)

pub returns-then-is_empty-clause-tokens : goal.returns-then-is_empty-clause-tokens
returns-then-is_empty-clause-tokens c = grind (arith, nat_tests, blanks_end)

pub returns-in_err-next-clause-runs : goal.returns-in_err-next-clause-runs
returns-in_err-next-clause-runs c = grind (arith, nat_tests, end_fails)

pub returns-clause-runs : goal.returns-clause-runs
returns-clause-runs c =
    rw c.fault.ensures (token_behind c.args.cursor.now.nodes c.args.cursor.now.rest.now _ c.in_ok-next.ensures)
