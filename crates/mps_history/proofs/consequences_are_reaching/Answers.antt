-- Proves the law `consequences_are_reaching`, clauses `members` and `closed`, by the lemmas of Reaching.
use Rattle.std.proofs.Common.{◌≡◌, ⊎_elim, ap, ◌∙◌}
use Rattle.mps_base.specs.declared.action.Step.{Step}
use Rattle.mps_history.specs.Dependence.{DependsOn, consequences}
use Rattle.mps_history.proofs.Reaching.{consequences_closed, consequences_only, consequences_all, consequences_self}
use Rattle.mps_history.proofs.consequences_are_reaching.Goals as goal

pub returns-clause-members : goal.returns-clause-members
returns-clause-members c h s t r is it = (
  consequences_only h s t r is it,
  ⊎_elim (λ (e : t ≡ s). ap (λ (y : Step). consequences h s.id y.id) e ∙ consequences_self h s.id)
      (λ (d : DependsOn h t s). consequences_all h r is it d),
)

pub returns-clause-closed : goal.returns-clause-closed
returns-clause-closed c = consequences_closed
