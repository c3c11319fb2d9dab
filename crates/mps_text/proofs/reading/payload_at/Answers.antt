-- `payload_at` meets its clause `tokens`, by the lemmas of Tokens.
use Rattle.std.proofs.Common.{arith, Some, ap, sym, ◌∙◌}
use Rattle.std.specs.Prelude.{codes}
use Rattle.mps_text.proofs.Tokens.{which_is}
use Rattle.mps_text.proofs.reading.payload_at.Goals as goal

pub returns-in_ok-expect-in-Some-true-clause-tokens : goal.returns-in_ok-expect-in-Some-true-clause-tokens
returns-in_ok-expect-in-Some-true-clause-tokens c = grind (arith, which_is (codes ":") (codes "{") _ _ (sym c.which.ensures ∙ c.in-Some-true.is ∙ ap Some c.in-Some-true.field-0-test))

pub returns-in-Some-false-clause-tokens : goal.returns-in-Some-false-clause-tokens
returns-in-Some-false-clause-tokens c = grind (arith, which_is (codes ":") (codes "{") _ _ (sym c.which.ensures ∙ c.in-Some-false.is ∙ ap Some c.in-Some-false.field-0-test))
