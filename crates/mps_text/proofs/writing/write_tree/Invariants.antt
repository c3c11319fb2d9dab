-- In each turn of the loop of `write_tree` the text so far, with the parts that wait, is that of the tree.
use Rattle.std.proofs.Common.{◌≡◌}
use Rattle.std.specs.List.{AllByRecursion}
use Rattle.mps_base.specs.Spaced.{with_tokens}
use Rattle.mps_global.specs.Global.{plain}
use Rattle.mps_text.specs.Grammar.{IsNamed}
use Rattle.mps_text.specs.Private.Writing.{global_tokens, IsTodoNamed, left_tokens, left_weight}
use Rattle.mps_text.proofs.writing.write_tree.Given as goal

-- what waits is what is still to be written
abbrev pub invariant-loop-next : goal.invariant-loop-next
invariant-loop-next l = record {
  text : with_tokens l.out.items (left_tokens l.waiting.items) ≡ with_tokens l.fn.out.items (global_tokens (plain l.tree));
  named : AllByRecursion IsTodoNamed l.waiting.items → IsNamed (plain l.tree);
}

abbrev pub decreases-loop-next : goal.decreases-loop-next
decreases-loop-next l = left_weight l.waiting.items
