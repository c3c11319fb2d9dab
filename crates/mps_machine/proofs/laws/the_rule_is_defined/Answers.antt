-- Proves the law `the_rule_is_defined`, by the lemmas of Defined.
use Rattle.std.proofs.Common.{sym, ap, ◌∙◌}
use Rattle.std.specs.Prelude.{is_some}
use Rattle.mps_machine.specs.Violations.{violation}
use Rattle.mps_machine.proofs.Defined.{rule_defined, none_of, allowed_step}
use Rattle.mps_machine.proofs.laws.the_rule_is_defined.Goals as goal

pub returns : goal.returns
returns c v s = (
  λ some. none_of (violation v s.role s.act) (sym (rule_defined v s) ∙ some),
  λ none. ap is_some (allowed_step v s none).1,
)
