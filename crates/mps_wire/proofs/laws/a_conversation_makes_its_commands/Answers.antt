-- Proves the law `a_conversation_makes_its_commands`, clauses `whole` and `broken_off`, by the lemmas of Making.
use Rattle.mps_wire.proofs.Making.{lines_make, broken_makes}
use Rattle.mps_wire.proofs.laws.a_conversation_makes_its_commands.Goals as goal

pub returns-clause-whole : goal.returns-clause-whole
returns-clause-whole g c = λ waits lines a out d t. lines_make g.C.Caller g.met.C.Caller.same_role g.met.C.Caller.grows waits lines a out d t

pub returns-clause-broken_off : goal.returns-clause-broken_off
returns-clause-broken_off g c = λ waits lines a out d t. broken_makes g.C.Caller g.met.C.Caller.same_role g.met.C.Caller.grows waits lines a out d t
