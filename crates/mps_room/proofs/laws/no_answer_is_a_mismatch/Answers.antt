-- Proves the law `no_answer_is_a_mismatch`, by the lemmas of Faithful.
use Rattle.mps_room.proofs.Faithful.{answer_other}
use Rattle.mps_room.proofs.laws.no_answer_is_a_mismatch.Goals as goal

pub returns : goal.returns
returns c names types j role command answer own says = answer_other names types own j role command answer says
