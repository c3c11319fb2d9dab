-- `joined_reply` meets its clauses `bad` and `read`, by the lemmas of ReplyLines.
use Rattle.std.proofs.Common.{rules, arith}
use Rattle.std.specs.Prelude.{[], ◌∷◌, codes}
use Rattle.mps_line.specs.Tokens.{Number, Called}
use Rattle.mps_line.proofs.ReplyLines.{word_in_front, rest_of_word, no_word_in_front}
use Rattle.mps_line.proofs.read_replies.joined_reply.Goals as goal

pub returns-in_default-clause-bad : goal.returns-in_default-clause-bad
returns-in_default-clause-bad c = λ e session name h. no_word_in_front _ (codes "joined") (Number session ∷ Called name ∷ []) (omega arith) c.in_default.ensures.none h

pub returns-in_default-read_number_and_name-clause-bad : goal.returns-in_default-read_number_and_name-clause-bad
returns-in_default-read_number_and_name-clause-bad c = λ e session name h.
    c.in_default-read_number_and_name.ensures.none session name (rest_of_word _ (codes "joined") _ (Number session ∷ Called name ∷ []) (omega arith) (search rules) c.in-Some.ensures.read h)

pub returns-clause-read : goal.returns-clause-read
returns-clause-read c = word_in_front _ (codes "joined") _ (Number _ ∷ Called _ ∷ []) (omega arith) c.in-Some.ensures.read c.in-Some-read_number_and_name.ensures.read
