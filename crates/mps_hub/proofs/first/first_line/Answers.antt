-- `first_line` meets its clause `line`, keeps what holds in each turn of its loop, and may call `keep`, by the lemmas of Bytewise.
use Rattle.std.proofs.Common.{◌∙◌, arith}
use Rattle.mps_hub.proofs.Bytewise.{last_one, one_more, short_kept}
use Rattle.mps_hub.proofs.first.first_line.Goals as goal

pub returns-then-byte-eq10-clause-line : goal.returns-then-byte-eq10-clause-line
returns-then-byte-eq10-clause-line g c =
    let counted = c.in-Some.ensures.counted in
    last_one g.R.Source c.args.reader.now c.loop.reader c.read_byte.new.reader c.loop.line.items c.loop.invariant.begun c.in-Some.byte c.in-Some.ensures.byte c.if-byte-eq10.true
    (record { no_failure = counted.0 ∙ c.loop.invariant.failed; no_end = counted.1 ∙ c.loop.invariant.ends })

pub keep-requires : goal.keep-requires
keep-requires g c = short_kept g.R.Source c.args.reader.now c.loop.reader c.loop.line.items c.loop.invariant.begun

pub loop-preserved : goal.loop-preserved
loop-preserved g c =
    let i = c.loop.invariant in
    let e = c.in-Some.ensures in
    record {
      reads = omega (arith, c.read_byte.ensures.calls, i.reads);
      failed = e.counted.0 ∙ i.failed;
      ends = e.counted.1 ∙ i.ends;
      begun = one_more g.R.Source c.args.reader.now c.loop.reader c.read_byte.new.reader c.loop.line.items i.begun c.in-Some.byte c.keep.new.line.items e.byte c.if-byte-eq10.false c.in_ok-keep.ensures.ok;
    }
