-- `write_joined` meets its clause `ok`, by the lemmas of Writing.
use Rattle.std.proofs.Common.{arith}
use Rattle.std.specs.Prelude.{[], ◌∷◌, codes}
use Rattle.mps_line.specs.Tokens.{Number, Called}
use Rattle.mps_line.proofs.Writing.{word_before, token_written, token_alone}
use Rattle.mps_line.proofs.write_replies.write_joined.Goals as goal

pub returns-clause-ok : goal.returns-clause-ok
returns-clause-ok c =
    word_before [] _ _ _ _ (codes "joined") (Number c.args.session ∷ Called c.args.name.now ∷ []) (omega arith) c.in_ok-extend_from_slice.ensures.items
    (token_written [] _ _ _ _ _ (Number c.args.session) (Called c.args.name.now) [] c.in_ok-write_count.ensures.ok c.in_ok-push.ensures.items (token_alone [] _ _ _ (Called c.args.name.now) c.write_name.ensures.ok))
