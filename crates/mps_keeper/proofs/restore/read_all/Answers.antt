-- `read_all` meets its clauses `bytes` and `end` and keeps what holds in each turn of its loop, by the lemmas of Restoring.
use Rattle.std.proofs.Common.{arith, ap, Ok}
use Rattle.mps_wire.proofs.Bytes.{same_space, Consumes-none}
use Rattle.mps_keeper.specs.declared.restore.TheConstants.{JOURNAL_BLOCK}
use Rattle.mps_keeper.proofs.Restoring.{reads_on}
use Rattle.mps_keeper.proofs.restore.read_all.Goals as goal

pub loop-init : goal.loop-init
loop-init g c = record {
  space = omega (arith, c.in_ok-block.block.ok.0, c.in_ok-block.ensures.len);
  reads = omega arith;
  read = rw c.new-all.ensures.items (Consumes-none (g.R.Source.remaining c.args.reader.now));
}

pub loop-preserved : goal.loop-preserved
loop-preserved g c = record {
  space = same_space c.loop.block.len JOURNAL_BLOCK c.read_once.new.block c.loop.block.items c.loop.block.ok.0 c.loop.invariant.space;
  reads = omega (arith, c.in_ok-read_once.ensures.reads, c.loop.invariant.reads);
  read = reads_on _ _ _ _ _ c.loop.invariant.read c.in_ok-read_once.ensures.more;
}

pub returns-then-branch-clause-bytes : goal.returns-then-branch-clause-bytes
returns-then-branch-clause-bytes g c = reads_on _ _ _ _ _ c.loop.invariant.read c.in_ok-read_once.ensures.more

pub returns-then-branch-clause-end : goal.returns-then-branch-clause-end
returns-then-branch-clause-end g c = c.in_ok-read_once.ensures.end (ap Ok c.if-branch.true)
