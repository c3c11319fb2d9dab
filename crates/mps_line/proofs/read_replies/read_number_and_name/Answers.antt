-- `read_number_and_name` meets its clauses `none` and `read`, by the lemmas of Splitting, CommandLines and ReplyLines.
use Rattle.std.proofs.Common.{ℕ, List, refl}
use Rattle.std.proofs.lemmas.Bool.{false≢true}
use Rattle.std.specs.Prelude.{[], ◌∷◌}
use Rattle.mps_line.specs.Tokens.{Number, Called, SpellsLine}
use Rattle.mps_line.proofs.Splitting.{if_none, alone, line_of_one}
use Rattle.mps_line.proofs.CommandLines.{name_read}
use Rattle.mps_line.proofs.ReplyLines.{number_in_front, split_number, never_parted}
use Rattle.mps_line.proofs.read_replies.read_number_and_name.Goals as goal

pub returns-in_err-parts-clause-none : goal.returns-in_err-parts-clause-none
returns-in_err-parts-clause-none c = if_none {P = (n : ℕ) (name : List ℕ) → SpellsLine [] c.args.bytes.now (Number n ∷ Called name ∷ []) → ⊥} _ (λ n name h. never_parted c.args.bytes.now (Number n) (Called name) [] c.in_err-parts.ensures.none h)

pub returns-in_err-number-clause-none : goal.returns-in_err-number-clause-none
returns-in_err-number-clause-none c = if_none {P = (n : ℕ) (name : List ℕ) → SpellsLine [] c.args.bytes.now (Number n ∷ Called name ∷ []) → ⊥} _ (λ n name h. c.in_err-number.ensures.none n (split_number c.args.bytes.now _ _ n (Called name) [] c.in_ok-parts.ensures.parts c.in_ok-parts.ensures.first h).number)

pub returns-in_err-name-clause-none : goal.returns-in_err-name-clause-none
returns-in_err-name-clause-none c = if_none {P = (n : ℕ) (name : List ℕ) → SpellsLine [] c.args.bytes.now (Number n ∷ Called name ∷ []) → ⊥} _ (λ n name h. false≢true (c.in_err-name.ensures.some.1 (alone [] _ (Called name) (split_number c.args.bytes.now _ _ n (Called name) [] c.in_ok-parts.ensures.parts c.in_ok-parts.ensures.first h).others).allowed))

pub returns-clause-read : goal.returns-clause-read
returns-clause-read c = number_in_front _ _ _ _ _ [] c.in_ok-parts.ensures.parts c.in_ok-number.ensures.read (line_of_one [] _ (Called _) (name_read _ _ (c.in_ok-name.ensures.some.0 refl) c.in_ok-name.ensures.name))
