-- `form_of` meets its clause `list`: a step has no list.
use Rattle.std.proofs.Common.{length}
use Rattle.mps_room.proofs.journal.form_of.Goals as goal

pub returns-in-Stepped-clause-list : goal.returns-in-Stepped-clause-list
returns-in-Stepped-clause-list c = c.form_of_step.ensures.list (length c.args.lists.now.items)
