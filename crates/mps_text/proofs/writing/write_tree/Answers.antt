-- `write_tree` keeps what holds in each turn of its loop, by the lemmas of Written.
use Rattle.mps_base.specs.Spaced.{with_tokens}
use Rattle.mps_global.specs.Global.{plain}
use Rattle.mps_text.specs.Grammar.{IsNamed}
use Rattle.mps_text.specs.Private.Writing.{global_tokens}
use Rattle.mps_text.proofs.Written.{written_turn, named_turn}
use Rattle.mps_text.proofs.writing.write_tree.Goals as goal

pub loop-next-preserved : goal.loop-next-preserved
loop-next-preserved c =
    let tree = plain c.args.tree.now in
    let before = c.loop-next.waiting.items in
    let others = c.pop.new.self.items in
    let after = c.write_next.new.waiting.items in
    let popped = c.in-Some.ensures.items in
    let step = c.in_ok-write_next.ensures in
    record {
      text = written_turn c.loop-next.out.items c.write_next.new.out.items (with_tokens c.args.out.now.items (global_tokens tree)) before others after c.in-Some.next popped c.loop-next.invariant.text step.text;
      named = named_turn (IsNamed tree) before others after c.in-Some.next popped c.loop-next.invariant.named step.named;
    }
