-- `Embedded::foresee` meets its clause `foretold` where the room isn't lost.
use Rattle.std.proofs.Common.{sym, ap, ◌∙◌}
use Rattle.mps_embed.specs.Embedded.{EmbeddedState, Whole}
use Rattle.mps_embed.proofs.embedded.Embedded.foresee.Goals as goal

pub returns-clause-foretold : goal.returns-clause-foretold
returns-clause-foretold g c = Whole (ap (λ (e : EmbeddedState). e.whole) (sym c.self.view_is) ∙ sym c.may_tell.ensures ∙ c.if-not-may_tell.false) c.foresee_whole.ensures.foretold
