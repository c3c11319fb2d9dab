-- `push_command` meets its clauses `ok` and `err`, by the lemmas of CommandLines and Writing.
use Rattle.std.proofs.Common.{ℕ, List, sym, ap, ◌∙◌, ◌++◌}
use Rattle.std.proofs.lemmas.Bool.{false≢true}
use Rattle.mps_line.specs.Commands.{verb_word, verb_of, arguments}
use Rattle.mps_line.proofs.CommandLines.{lone_read, takes_none}
use Rattle.mps_line.proofs.Writing.{word_written, still_in_front}
use Rattle.mps_line.proofs.write_commands.push_command.Goals as goal

pub returns-then-not-takes_arguments-clause-ok : goal.returns-then-not-takes_arguments-clause-ok
returns-then-not-takes_arguments-clause-ok c =
    (c.verb_word.result.now, c.in_ok-extend_from_slice.ensures.items, lone_read _ _ c.args.command.now (takes_none _ (λ more. false≢true (sym c.if-not-takes_arguments.true ∙ c.takes_arguments.ensures.1 more))) c.verb_word.ensures)

pub returns-clause-ok : goal.returns-clause-ok
returns-clause-ok c =
    word_written _ _ _ _ _ _ (verb_word (verb_of c.args.command.now)) (arguments c.args.command.now) (c.takes_arguments.ensures.0 c.if-not-takes_arguments.false)
    (c.in_ok-extend_from_slice.ensures.items ∙ ap (λ (l : List ℕ). c.args.out.now.items ++ l) c.verb_word.ensures)
    c.in_ok-push.ensures.items c.write_arguments.ensures.ok

pub returns-clause-err : goal.returns-clause-err
returns-clause-err c =
    still_in_front _ _ _ _ _ _ _ c.in_ok-extend_from_slice.ensures.items c.in_ok-push.ensures.items c.write_arguments.ensures.err
