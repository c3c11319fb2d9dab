-- Proves the law `a_return_goes_to_the_last_mark`, by the lemmas of Marks.
use Rattle.mps_machine.proofs.Marks.{returns_to_marks}
use Rattle.mps_machine.proofs.laws.a_return_goes_to_the_last_mark.Goals as goal

pub returns : goal.returns
returns c = returns_to_marks
