-- `branches_at` and `global_at` meet their clause `runs`, by the lemmas of Propagated.
use Rattle.std.proofs.Common.{◌+◌, [], ◌∷◌, ◌++◌, ap, ◌∙◌}
use Rattle.std.specs.Prelude.{codes}
use Rattle.mps_text.specs.Private.Reading.{Token, AName, Node, Exchange, Others, branch, behind_first, behind_exchange, behind_branch, run_from}
use Rattle.mps_text.specs.declared.reading.First.{First}
use Rattle.mps_text.proofs.Propagated.{fails_behind}
use Rattle.mps_text.proofs.reading.+reading.Goals as goal

pub branches_at-returns-in_err-another_at-clause-runs : goal.branches_at-returns-in_err-another_at-clause-runs
branches_at-returns-in_err-another_at-clause-runs t c =
    let depth = c.args.depth in
    let failed = c.from_residual-in_err-another_at in
    fails_behind (branch depth) (Others depth ∷ []) (λ x. []) (behind_branch depth) c.args.cursor.now c.global_at.new.cursor c.another_at.new.cursor c.another_at.new.cursor failed.result c.another_at.result c.in_err-another_at.field-0.0
    (λ others. c.in_ok-label.ensures.runs (Token (codes ":") ∷ Node depth ∷ Others depth ∷ others) ∙ c.in_ok-expect.ensures.runs (Node depth ∷ Others depth ∷ others) ∙ c.in_ok-next.ensures.runs (Others depth ∷ others))
    failed.ensures.1 c.in_err-another_at.was (c.another_at.ensures.runs depth)

pub global_at-returns-in_err-receiver-in-Sender-clause-runs : goal.global_at-returns-in_err-receiver-in-Sender-clause-runs
global_at-returns-in_err-receiver-in-Sender-clause-runs t c =
    let depth = c.args.depth in
    let failed = c.from_residual-in_err-receiver-in-Sender in
    fails_behind (Node depth ∷ []) (Token (codes "->") ∷ AName ∷ Exchange (depth + 1) ∷ []) (λ x. []) (λ x. behind_exchange (depth + 1) x.1) c.args.cursor.now c.node_at.new.cursor c.exchange_at.new.cursor c.exchange_at.new.cursor failed.result c.exchange_at.result c.in_err-receiver-in-Sender.field-0.0
    (λ others. c.in_ok-node_at.ensures.runs others ∙ ap (λ (first : First). run_from (behind_first depth first ++ others) c.node_at.new.cursor) c.in-Sender.is)
    failed.ensures.1 c.in_err-receiver-in-Sender.was (c.exchange_at.ensures.runs (depth + 1))
