-- `Queue::of` meets its contract, by the lemmas of Queued.
use Rattle.std.proofs.Common.{◌∙◌}
use Rattle.mps_queues.proofs.Moves.{first_left}
use Rattle.mps_log.proofs.Queued.{left_from}
use Rattle.mps_log.proofs.queue.Queue.of.Goals as goal

pub returns : goal.returns
returns c =
    let es = c.args.arena.now.keyed_steps in
    left_from es c.requires.sound c.args.from c.args.to c.args.first 0 (c.requires.first ∙ first_left es c.requires.sound c.args.from c.args.to)
