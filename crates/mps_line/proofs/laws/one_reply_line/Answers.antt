-- `one_reply_line` meets its clauses `spelling`, `shown`, `no_line_feed`, `reply` and `some`, by the lemmas of OneSpelling, ShownLines and OneReply.
use Rattle.std.specs.Prelude.{[]}
use Rattle.mps_line.specs.Replies.{reply_tokens}
use Rattle.mps_line.proofs.OneSpelling.{line_spelling}
use Rattle.mps_line.proofs.ShownLines.{shown_reply, some_reply, no_line_feed}
use Rattle.mps_line.proofs.OneReply.{one_reply, told_by_letter}
use Rattle.mps_line.proofs.laws.one_reply_line.Goals as goal

pub returns-clause-spelling : goal.returns-clause-spelling
returns-clause-spelling c = λ a b r. line_spelling [] a b (reply_tokens r)

pub returns-clause-shown : goal.returns-clause-shown
returns-clause-shown c = shown_reply

pub returns-clause-no_line_feed : goal.returns-clause-no_line_feed
returns-clause-no_line_feed c = no_line_feed

pub returns-clause-reply : goal.returns-clause-reply
returns-clause-reply c = one_reply c.one_spelling.ensures.value c.one_spelling.ensures.no_name

pub returns-clause-some : goal.returns-clause-some
returns-clause-some c = some_reply

pub returns-clause-refusal : goal.returns-clause-refusal
returns-clause-refusal c = told_by_letter
