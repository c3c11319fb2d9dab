-- `after_word` meets its clauses `none` and `read`, by the lemmas of Splitting.
use Rattle.std.proofs.Common.{◌≢◌, List, ℕ, ◌∷◌, ◌++◌, ap, ◌∙◌}
use Rattle.mps_line.proofs.Splitting.{if_none, in_front, not_in_front}
use Rattle.mps_line.proofs.line_parts.after_word.Goals as goal

pub returns-in_err-strip_prefix-clause-none : goal.returns-in_err-strip_prefix-clause-none
returns-in_err-strip_prefix-clause-none c =
    if_none {P = (rest : List ℕ) → c.args.bytes.now ≢ c.args.word.now ++ 32 ∷ rest} _ (λ rest. not_in_front c.args.bytes.now c.args.word.now (32 ∷ rest) c.in_err-strip_prefix.ensures.cases)

pub returns-then-first-eq32-clause-read : goal.returns-then-first-eq32-clause-read
returns-then-first-eq32-clause-read c =
    in_front c.args.bytes.now c.args.word.now c.in_ok-strip_prefix.field-0.now c.in_ok-strip_prefix.ensures.cases.0 c.in_ok-strip_prefix.ensures.cases.1
    ∙ ap (λ (l : List ℕ). c.args.word.now ++ l) (c.in_ok-first.ensures.cases.0 ∙ ap (λ (b : ℕ). b ∷ c.in_ok-first.rest.now) c.if-first-eq32.true)
