-- `read_join` meets its clauses `bad` and `read`, by the lemmas of ReplyLines.
use Rattle.std.proofs.Common.{rules, arith}
use Rattle.std.specs.Prelude.{[], ◌∷◌, codes}
use Rattle.mps_line.specs.Tokens.{Number, Called}
use Rattle.mps_line.proofs.ReplyLines.{word_in_front, rest_of_word, no_word_in_front}
use Rattle.mps_line.proofs.read_replies.read_join.Goals as goal

pub returns-in_default-clause-bad : goal.returns-in_default-clause-bad
returns-in_default-clause-bad c = λ e session name h. no_word_in_front _ (codes "join") (Number session ∷ Called name ∷ []) (omega arith) c.in_default.ensures.none h

pub returns-in-None-clause-bad : goal.returns-in-None-clause-bad
returns-in-None-clause-bad c = λ e session name h.
    c.in-None.ensures.none session name (rest_of_word _ (codes "join") _ (Number session ∷ Called name ∷ []) (omega arith) (search rules) c.in-Some.ensures.read h)

pub returns-in-Some-read_number_and_name-clause-read : goal.returns-in-Some-read_number_and_name-clause-read
returns-in-Some-read_number_and_name-clause-read c = word_in_front _ (codes "join") _ (Number _ ∷ Called _ ∷ []) (omega arith) c.in-Some.ensures.read c.in-Some-read_number_and_name.ensures.read
