-- `exchange_at` meets its clause `runs`, by the lemmas of Propagated.
use Rattle.std.proofs.Common.{[], ◌∷◌, ◌∙◌}
use Rattle.std.specs.Prelude.{codes}
use Rattle.mps_text.specs.Private.Reading.{Token, AName, Exchange, behind_exchange}
use Rattle.mps_text.proofs.Propagated.{fails_behind}
use Rattle.mps_text.proofs.reading.exchange_at.Goals as goal

pub returns-in_err-sort-clause-runs : goal.returns-in_err-sort-clause-runs
returns-in_err-sort-clause-runs c = λ depth.
    fails_behind (Token (codes "->") ∷ AName ∷ Exchange depth ∷ []) (Exchange depth ∷ []) (λ x. behind_exchange depth x.1) (behind_exchange depth) c.args.cursor.now c.name_at.new.cursor c.payload_at.new.cursor c.payload_at.new.cursor c.from_residual-in_err-sort.result c.payload_at.result c.in_err-sort.field-0.0
    (λ others. c.in_ok-expect.ensures.runs (AName ∷ Exchange depth ∷ others) ∙ c.in_ok-receiver.ensures.runs (Exchange depth ∷ others))
    c.from_residual-in_err-sort.ensures.1 c.in_err-sort.was (c.payload_at.ensures.runs depth)
