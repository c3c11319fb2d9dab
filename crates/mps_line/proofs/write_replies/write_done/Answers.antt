-- `write_done` meets its clauses `ok` and `err`, by the lemmas of Splitting and Writing.
use Rattle.std.specs.Prelude.{[]}
use Rattle.mps_line.specs.Tokens.{Number}
use Rattle.mps_line.proofs.Splitting.{line_of_one}
use Rattle.mps_line.proofs.Writing.{token_written, token_alone, still_in_front}
use Rattle.mps_line.proofs.write_replies.write_done.Goals as goal

pub returns-in_ok-push-in-Some-clause-ok : goal.returns-in_ok-push-in-Some-clause-ok
returns-in_ok-push-in-Some-clause-ok c =
    rw c.in-Some.is (token_written [] _ _ _ _ _ (Number c.args.done.now.id) _ [] c.in_ok-write_step.ensures.ok c.in_ok-push-in-Some.ensures.items (token_alone [] _ _ _ _ c.write_message.ensures.ok))

pub returns-in_ok-push-in-Some-clause-err : goal.returns-in_ok-push-in-Some-clause-err
returns-in_ok-push-in-Some-clause-err c =
    still_in_front _ _ _ _ _ _ _ c.in_ok-write_step.ensures.ok.1 c.in_ok-push-in-Some.ensures.items c.write_message.ensures.err

pub returns-in-None-clause-ok : goal.returns-in-None-clause-ok
returns-in-None-clause-ok c =
    let a = c.in_ok-write_step.ensures.ok in
    (a.0, a.1, rw c.in-None.is (line_of_one [] a.0 (Number c.args.done.now.id) a.2))
