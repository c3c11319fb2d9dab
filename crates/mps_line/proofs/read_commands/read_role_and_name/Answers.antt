-- `read_role_and_name` meets its clauses `bad` and `read`, by the lemmas of CommandLines.
use Rattle.std.proofs.Common.{refl}
use Rattle.std.proofs.lemmas.Bool.{false≢true}
use Rattle.mps_line.proofs.CommandLines.{role_in_front, none_of_names, no_role_in_front, name_read}
use Rattle.mps_line.proofs.read_commands.read_role_and_name.Goals as goal

pub returns-in_default-clause-bad : goal.returns-in_default-clause-bad
returns-in_default-clause-bad c = λ e role name h. no_role_in_front _ _ _ _ c.in_default.ensures.none role h

pub returns-in-Some-read-clause-read : goal.returns-in-Some-read-clause-read
returns-in-Some-read-clause-read c = role_in_front _ _ _ _ _ c.in-Some.ensures.read (name_read _ _ (c.in-Some-read.ensures.some.0 refl) c.in-Some-read.ensures.name)

pub returns-in-None-clause-bad : goal.returns-in-None-clause-bad
returns-in-None-clause-bad c = λ e. none_of_names _ _ _ c.in-Some.ensures.rest (λ h. false≢true (c.in-None.ensures.some.1 h))
