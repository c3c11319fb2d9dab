-- `Log::least_final` meets its contract, by the lemmas of Settled.
use Rattle.std.proofs.Common.{sym, ap, ◌∙◌}
use Rattle.mps_history.specs.Dependence.{least}
use Rattle.mps_links.specs.Marks.{marked_commits}
use Rattle.mps_log.specs.Logged.{Logged}
use Rattle.mps_log.proofs.Settled.{none_marked}
use Rattle.mps_log.proofs.log.Log.least_final.Goals as goal

pub returns-then-not-self : goal.returns-then-not-self
returns-then-not-self c = record {
  least =
      ap least (sym (none_marked c.self.inside.arena.keyed_steps (c.self.invariant.settled c.if-not-self.true)))
      ∙ ap (λ (l : Logged). least (marked_commits l.keyed_steps)) c.self.view_is;
}
