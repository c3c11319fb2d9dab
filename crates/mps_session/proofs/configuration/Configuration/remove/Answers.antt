-- `Configuration::remove` meets its clause `left`, by the lemmas of HoldsAfterRemoval.
use Rattle.std.proofs.Common.{ap, sym, subst, ◌∙◌}
use Rattle.mps_arena.specs.KeyedSteps.{AreSound}
use Rattle.mps_log.specs.Logged.{Logged}
use Rattle.mps_session.specs.Private.Configurations.{lists_of}
use Rattle.mps_session.proofs.HoldsAfterRemoval.{has_left}
use Rattle.mps_session.proofs.configuration.Configuration.remove.Goals as goal

pub returns-clause-left : goal.returns-clause-left
returns-clause-left c =
    has_left c.args.key (lists_of c.args.self.now) _ c.get.result.now c.before-2.result
    c.get.ensures c.before-2.ensures
    (rw (← c.new-node.ensures) c.stand_at.ensures.cursors)
    (ap (λ (l : Logged). l.keyed_steps) c.stand_at.ensures.log ∙ c.remove-id.ensures.keyed_steps)
    (ap (λ (l : Logged). l.issued) c.stand_at.ensures.log ∙ c.remove-id.ensures.issued)
    (subst (λ (l : Logged). AreSound l.keyed_steps) (sym c.stand_at.ensures.log) c.remove-id.ensures.sound)
