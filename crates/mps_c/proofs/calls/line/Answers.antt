-- `line` meets its clause `known`.
use Rattle.std.proofs.Common.{sym, subst}
use Rattle.mps_embed.specs.Embedded.{EmbeddedState, IsAnswered}
use Rattle.mps_c.proofs.calls.line.Goals as goal

pub returns-clause-known : goal.returns-clause-known
returns-clause-known c place named = λ whole.
    subst (λ (e : EmbeddedState). IsAnswered c.args.room.now place c.args.line.now e) (sym c.answer_into.ensures.same) (c.line.ensures.known place named whole)
