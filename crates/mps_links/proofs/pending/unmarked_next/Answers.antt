-- `unmarked_next` may call `marked`, by a lemma of Present.
use Rattle.std.proofs.Common.{sym, ◌∙◌}
use Rattle.mps_links.proofs.Present.{next_there}
use Rattle.mps_links.proofs.pending.unmarked_next.Goals as goal

pub marked-requires : goal.marked-requires
marked-requires c = next_there c.args.arena.now.keyed_steps c.args.key c.in_ok-next.next (sym c.next_of_role.ensures ∙ c.in_ok-next.was)
