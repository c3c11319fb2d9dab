-- In each turn of the loop of `write_tree` the text so far, with the parts that wait, is that of the type.
use Rattle.std.proofs.Common.{◌≡◌, length}
use Rattle.std.specs.List.{AllByRecursion}
use Rattle.mps_base.specs.Spaced.{with_tokens}
use Rattle.mps_local.specs.Local.{plain}
use Rattle.mps_local.specs.Text.{local_tokens}
use Rattle.mps_local.specs.Private.Writing.{IsTodoKnown, left_tokens, left_weight}
use Rattle.mps_local.proofs.writing.write_tree.Given as goal

-- what waits is what is still to be written
abbrev pub invariant-loop-next : goal.invariant-loop-next
invariant-loop-next l = record {
  text : with_tokens l.out.items (left_tokens l.roles l.waiting.items) ≡ with_tokens l.fn.out.items (local_tokens l.roles (plain l.tree));
  known : AllByRecursion (IsTodoKnown (length l.roles)) l.waiting.items;
}

abbrev pub decreases-loop-next : goal.decreases-loop-next
decreases-loop-next l = left_weight l.waiting.items
