-- `Moves::of` meets its contract, by the lemmas of Walks.
use Rattle.std.proofs.Common.{[], ap, ◌∙◌}
use Rattle.mps_log.specs.Shown.{shown}
use Rattle.mps_log.specs.Private.Shown.{from_key}
use Rattle.mps_log.proofs.Walks.{from_part}
use Rattle.mps_log.proofs.moves.Moves.of.Goals as goal

pub returns : goal.returns
returns c =
    let es = c.args.arena.now.keyed_steps in
    ap (λ k. shown es (from_key k es)) c.first.ensures ∙ ap (shown es) (from_part [] es c.requires.distinct)
