-- `shown_reply` meets its clauses `bad`, `read` and `memory`, by the lemmas of Splitting and ReplyLines.
use Rattle.std.proofs.Common.{◌∙◌, sym, refl}
use Rattle.std.proofs.lemmas.Bool.{false≢true}
use Rattle.std.specs.Prelude.{[]}
use Rattle.mps_command.specs.declared.answer.Answer.TheVariants.{Shown}
use Rattle.mps_line.specs.declared.write_replies.Reply.TheVariants.{Answer as Answered}
use Rattle.mps_line.specs.Tokens.{Show}
use Rattle.mps_line.proofs.Splitting.{alone}
use Rattle.mps_line.proofs.ReplyLines.{shown_read}
use Rattle.mps_line.proofs.read_replies.shown_reply.Goals as goal

pub returns-then-not-is_shown_text-clause-bad : goal.returns-then-not-is_shown_text-clause-bad
returns-then-not-is_shown_text-clause-bad c = λ e text h. false≢true (sym c.if-not-is_shown_text.true ∙ c.is_shown_text.ensures.1 (alone [] _ (Show text) h).allowed)

pub returns-in-Ok-clause-read : goal.returns-in-Ok-clause-read
returns-in-Ok-clause-read c = shown_read _ _ (c.of.ensures ∙ c.in-Ok.ensures.items) (c.is_shown_text.ensures.0 c.if-not-is_shown_text.false)

pub returns-in-Err-clause-memory : goal.returns-in-Err-clause-memory
returns-in-Err-clause-memory c = λ e. (Answered (Shown c.args.bytes.now), shown_read _ _ refl (c.is_shown_text.ensures.0 c.if-not-is_shown_text.false))
