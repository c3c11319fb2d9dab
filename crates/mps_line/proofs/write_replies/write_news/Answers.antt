-- `write_news` meets its clause `ok`, by the lemmas of Writing.
use Rattle.std.specs.Prelude.{[], ◌∷◌, codes}
use Rattle.mps_line.specs.Tokens.{Word, Number}
use Rattle.mps_line.proofs.Writing.{news_before, numbers_after}
use Rattle.mps_line.proofs.write_replies.write_news.Goals as goal

pub returns-clause-ok : goal.returns-clause-ok
returns-clause-ok c =
    numbers_after _ _ (Word (codes "news")) (Number c.args.length ∷ []) _ _ _ c.write_ids.ensures.ok (news_before _ _ _ _ c.in_ok-extend_from_slice.ensures.items c.in_ok-write_count.ensures.ok)
