-- Proves the law `a_receipt_follows_its_send`, by the lemmas of Lawful.
use Rattle.mps_machine.proofs.Lawful.{matched_later}
use Rattle.mps_machine.proofs.laws.a_receipt_follows_its_send.Goals as goal

pub returns : goal.returns
returns c = matched_later
