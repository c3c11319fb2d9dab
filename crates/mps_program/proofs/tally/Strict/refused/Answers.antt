-- `Strict::refused` meets its contract, by the lemmas of Passing.
use Rattle.std.proofs.Common.{◌≡◌, true, false, sym, ◌∙◌, arith}
use Rattle.mps_program.proofs.Passing.{named, none_ended, none_heard}
use Rattle.mps_program.proofs.tally.Strict.refused.Goals as goal
use Rattle.mps_program.proofs.tally.Strict.refused.Goals.{else-refused-gt0-via-then-refused-gt0+else-has_ended, else-refused-gt0-via-else-refused-gt0}

pub returns-then-has_ended : goal.returns-then-has_ended
returns-then-has_ended g c passed h =
    named passed c.refused.result c.lines.result h.ends (c.refused.ensures passed h.heard) c.if-refused-gt0.true ((c.has_ended.ensures passed h.heard).0 c.if-has_ended.true) (c.lines.ensures passed h.heard)

pub returns-else-refused-gt0 : goal.returns-else-refused-gt0
returns-else-refused-gt0 g c passed h =
    elim c.else-refused-gt0.branch [
      | else-refused-gt0-via-then-refused-gt0+else-has_ended w ↦
          none_ended passed h.ends (λ e. let wrong : false ≡ true = sym w.if-has_ended.false ∙ (w.has_ended.ensures passed h.heard).1 e in absurd cc)
      | else-refused-gt0-via-else-refused-gt0 w ↦
          none_heard passed c.refused.result h.ends (c.refused.ensures passed h.heard) (omega (arith, w.if-refused-gt0.false))
    ]
