-- `present` meets its contract.
use Rattle.std.proofs.Common.{sym, ◌∙◌}
use Rattle.mps_links.proofs.Numbers.{step_there}
use Rattle.mps_test_memory.proofs.calls.present.Goals as goal

pub returns-in-Some : goal.returns-in-Some
returns-in-Some c = step_there c.args.arena.now.keyed_steps c.new-id.result _ (sym c.by_id.ensures ∙ c.in-Some.is)
