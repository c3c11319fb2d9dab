-- `news_reply` meets its clauses `bad`, `read` and `memory`, by the lemmas of ReplyLines.
use Rattle.std.specs.Prelude.{◌≡◌, [], ◌∷◌, map, codes}
use Rattle.std.proofs.Common.{arith, rules, sym, ap, Err}
use Rattle.mps_command.specs.declared.answer.Answer.TheVariants.{News}
use Rattle.mps_line.specs.declared.write_replies.Reply.TheVariants.{Answer as Answered}
use Rattle.mps_line.specs.Tokens.{Number}
use Rattle.mps_line.proofs.ReplyLines.{rest_of_word, no_word_in_front, news_none, news_some, no_news_alone, parted_news}
use Rattle.mps_line.proofs.read_replies.news_reply.Goals as goal

pub returns-in_default-clause-bad : goal.returns-in_default-clause-bad
returns-in_default-clause-bad c = λ e n ids h. no_word_in_front _ (codes "news") (Number n ∷ map Number ids) (omega arith) c.in_default.ensures.none h

pub returns-in-None-clause-bad : goal.returns-in-None-clause-bad
returns-in-None-clause-bad c = λ e n ids h.
    no_news_alone _ n ids c.in_default-split_at_space.ensures.none c.in-None.ensures.none (rest_of_word _ (codes "news") _ (Number n ∷ map Number ids) (omega arith) (search rules) c.in-Some.ensures.read h)

pub returns-in-Some-read_count-clause-read : goal.returns-in-Some-read_count-clause-read
returns-in-Some-read_count-clause-read c =
    let is : c.news_of.result ≡ Answered (News c.in-Some-read_count.length []) = search rules in
    rw is (news_none _ _ _ c.in-Some.ensures.read c.in-Some-read_count.ensures.read)

pub returns-in_default-read_count-clause-bad : goal.returns-in_default-read_count-clause-bad
returns-in_default-read_count-clause-bad c = λ e n ids h.
    c.in_default-read_count.ensures.none n (parted_news _ _ _ n ids c.in-Some-split_at_space.ensures.parts c.in-Some-split_at_space.ensures.first (rest_of_word _ (codes "news") _ (Number n ∷ map Number ids) (omega arith) (search rules) c.in-Some.ensures.read h)).0

pub returns-in_err-ids-clause-bad : goal.returns-in_err-ids-clause-bad
returns-in_err-ids-clause-bad c = λ e n ids h.
    c.in_err-ids.ensures.bad (ap Err (sym (rw e at c.from_residual.ensures.1))) ids (parted_news _ _ _ n ids c.in-Some-split_at_space.ensures.parts c.in-Some-split_at_space.ensures.first (rest_of_word _ (codes "news") _ (Number n ∷ map Number ids) (omega arith) (search rules) c.in-Some.ensures.read h)).1

pub returns-clause-read : goal.returns-clause-read
returns-clause-read c =
    rw c.news_of-2.ensures (news_some _ _ _ _ _ _ c.in-Some.ensures.read c.in-Some-split_at_space.ensures.parts c.in-Some-read_count-2.ensures.read c.in_ok-ids.ensures.read)

pub returns-in_err-ids-clause-memory : goal.returns-in_err-ids-clause-memory
returns-in_err-ids-clause-memory c = λ e.
    let ids = c.in_err-ids.ensures.memory (ap Err (sym (rw e at c.from_residual.ensures.1))) in
    (Answered (News _ ids.0), news_some _ _ _ _ _ _ c.in-Some.ensures.read c.in-Some-split_at_space.ensures.parts c.in-Some-read_count-2.ensures.read ids.1)
