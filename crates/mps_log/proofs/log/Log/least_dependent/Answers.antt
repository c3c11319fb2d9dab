-- `Log::least_dependent` meets its clause `free`.
use Rattle.std.proofs.Common.{◌≡◌, ℕ, None, Some, subst}
use Rattle.std.specs.Prelude.{◌==◌}
use Rattle.std.specs.List.{find}
use Rattle.std.specs.Option.{option_map}
use Rattle.mps_arena.specs.Neighbours.{CanGo}
use Rattle.mps_log.specs.Logged.{Logged}
use Rattle.mps_log.proofs.log.Log.least_dependent.Goals as goal

pub returns-clause-free : goal.returns-clause-free
returns-clause-free c =
    subst (λ (l : Logged). c.least_dependent.result ≡ None → (k : ℕ) → option_map (λ e. e.key) (find (λ e. e.step.id == c.args.id) l.keyed_steps) ≡ Some k → CanGo l.keyed_steps k) c.self.view_is c.least_dependent.ensures.free
