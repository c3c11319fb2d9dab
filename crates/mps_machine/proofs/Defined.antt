-- The rule allows an act just where it has no violation.
use Rattle.std.proofs.Common.{arith, ◌≡◌, true, Option, Some, None, ap, ◌∙◌}
use Rattle.std.specs.Prelude.{is_some, is_none}
use Rattle.mps_base.specs.declared.action.Step.{Step}
use Rattle.mps_machine.specs.View.{View}
use Rattle.mps_machine.specs.Rule.{rule}
use Rattle.mps_machine.specs.Violations.{violation}

pub rule_defined : (v : View) (s : Step) → is_some (rule v s) ≡ is_none (violation v s.role s.act)
rule_defined v s = grind arith

pub some_of : {A : Type 0} (o : Option A) → is_some o ≡ true → (x : A) × (o ≡ Some x)
some_of o e = grind arith

pub none_of : {A : Type 0} (o : Option A) → is_none o ≡ true → o ≡ None
none_of o e = grind arith

pub allowed_step : (v : View) (s : Step) → violation v s.role s.act ≡ None → (w : View) × (rule v s ≡ Some w)
allowed_step v s e = some_of (rule v s) (rule_defined v s ∙ ap is_none e)
