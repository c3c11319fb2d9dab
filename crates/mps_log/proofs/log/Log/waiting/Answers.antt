-- `Log::waiting` may call `of`, by the lemmas of Waiting.
use Rattle.std.proofs.Common.{◌<◌, ℕ, List, arith, sym, ap, length}
use Rattle.std.specs.Prelude.{slice_get}
use Rattle.mps_history.specs.Steps.{receives}
use Rattle.mps_arena.specs.KeyedSteps.{keys_of}
use Rattle.mps_log.proofs.Waiting.{no_stranger}
use Rattle.mps_log.proofs.log.Log.waiting.Goals as goal
use Rattle.mps_log.proofs.log.Log.waiting.Goals.{then-index-ge8-via-then-index-ge8, then-index-ge8-via-else-index-ge8+then-index-ge8-2}

pub of-requires-clause-first : goal.of-requires-clause-first
of-requires-clause-first c =
    let es = c.self.inside.arena.keyed_steps in
    let far : c.args.from < 8 → c.args.to < 8 → ⊥ =
    elim c.then-index-ge8.branch [
      | then-index-ge8-via-then-index-ge8 w ↦ λ p q. omega (arith, c.index.ensures.place, w.if-index-ge8.true)
      | then-index-ge8-via-else-index-ge8+then-index-ge8-2 w ↦ λ p q. omega (arith, w.index-else-index-ge8.ensures.place, w.if-index-ge8-2.true)
    ] in
    sym (ap (λ (l : List ℕ). slice_get l (length (keys_of (receives c.args.from c.args.to) es))) (no_stranger es c.self.invariant.sound c.args.from c.args.to far es c.self.invariant.sound.small))
