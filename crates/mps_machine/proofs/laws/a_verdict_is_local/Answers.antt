-- Proves the law `a_verdict_is_local`: a verdict reads a place and what waits for the role alone.
use Rattle.mps_command.specs.Acts.{act_of}
use Rattle.mps_machine.proofs.Local.{violation_alike, allowed_alike, moved_alike, alike_after, alike_unseen, answered_alike}
use Rattle.mps_machine.proofs.laws.a_verdict_is_local.Goals as goal

pub returns : goal.returns
returns c = record {
  violation = violation_alike;
  allowed = allowed_alike;
  taken = moved_alike;
  kept = alike_after;
  unseen = alike_unseen;
  answered = λ types others st other p step. answered_alike types others st other p (act_of step);
}
