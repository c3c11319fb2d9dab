-- `present` meets its contract.
use Rattle.std.proofs.Common.{sym, ◌∙◌}
use Rattle.mps_links.proofs.Numbers.{step_there}
use Rattle.mps_test_sessions.proofs.dependents.present.Goals as goal

pub returns : goal.returns
returns g c = step_there c.args.arena.now.keyed_steps c.new-id.result _ (sym c.by_id.ensures ∙ c.expect.ensures)
