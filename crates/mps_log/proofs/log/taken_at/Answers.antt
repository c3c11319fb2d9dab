-- `taken_at` may call `message_at`, by the lemmas of Waiting.
use Rattle.std.proofs.Common.{sym, ◌∙◌}
use Rattle.mps_log.proofs.Waiting.{source_keyed}
use Rattle.mps_log.proofs.log.taken_at.Goals as goal

pub message_at-requires : goal.message_at-requires
message_at-requires c = source_keyed c.args.arena.now.keyed_steps c.args.key c.in_ok-source.source (sym c.source.ensures ∙ c.in_ok-source.was)
