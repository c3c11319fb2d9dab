-- The message that a receipt or a pick takes is the first that waits from its peer.
use Rattle.std.proofs.Common.{arith, ◌≡◌, ℕ, Option, Some, ap, ◌∙◌}
use Rattle.std.specs.Prelude.{slice_get}
use Rattle.mps_base.specs.declared.action.Message.{Message}
use Rattle.mps_command.specs.Acts.{act_of}
use Rattle.mps_command.specs.declared.command.Forward.{Forward}
use Rattle.mps_history.specs.Steps.{unreceived}
use Rattle.mps_machine.specs.Machine.{taken}
use Rattle.mps_arena.specs.KeyedSteps.{steps}
use Rattle.mps_session.specs.Private.Configurations.{Lists, moved_in, taken_from}

module _ (c : Lists) (p from : ℕ) (first : Option Message) (is : first ≡ slice_get (unreceived from p (steps c.keyed_steps)) 0) where
  from_peer : (q : ℕ) → Some q ≡ Some from → first ≡ slice_get (unreceived q p (steps c.keyed_steps)) 0
  from_peer q same = let peer : from ≡ q = cc in is ∙ ap (λ (r : ℕ). slice_get (unreceived r p (steps c.keyed_steps)) 0) peer

  pub taken_first : (command : Forward) → taken_from command ≡ Some from → first ≡ taken (act_of command) (moved_in c p (act_of command))
  taken_first command same = grind (arith, from_peer)
