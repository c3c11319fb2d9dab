-- In each turn of the loop of `same` each role so far did the same in both sessions.
use Rattle.std.proofs.Common.{◌≡◌, ◌<◌, ℕ}
use Rattle.mps_session.specs.Private.Pasts.{past_in}
use Rattle.mps_session.proofs.alike.same.Given as goal

abbrev pub invariant-loop-role : goal.invariant-loop-role
invariant-loop-role l = (p : ℕ) → p < l.role → past_in p l.ours.keyed_steps ≡ past_in p l.theirs.keyed_steps
