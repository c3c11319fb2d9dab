-- `read_and_answer` meets its clause `step`, by the lemmas of Conversing and Turning.
use Rattle.std.proofs.Common.{rules, take, refl}
use Rattle.mps_wire.specs.Streams.{streams}
use Rattle.mps_wire.specs.Conversations.{ConversesLine, ConversesBrokenOff}
use Rattle.mps_wire.specs.declared.conversation.Broken.TheVariants.{Write, Memory, Untold}
use Rattle.mps_wire.proofs.Conversing.{failed_is, goes_on, breaks_off, stays}
use Rattle.mps_wire.proofs.Turning.{counts_at_end, counts_before_end, none_more, gave_some, none_taken}
use Rattle.mps_wire.proofs.conversation.read_and_answer.Goals as goal

pub returns-then-count-eq0-clause-step : goal.returns-then-count-eq0-clause-step
returns-then-count-eq0-clause-step g c = λ start first h.
    let old = streams g.R.Source g.W.Sink c.args.reader.now c.args.writer.now in
    let new = streams g.R.Source g.W.Sink c.read.new.self c.args.writer.now in (
      stays (ConversesLine g.C.Caller (g.V.Vigil.waits c.args.vigil.now)) start first old new _ _ h (none_taken _ _ c.in-Ok.count c.read.new.buf c.if-count-eq0.true c.in-Ok.ensures.bytes.0) refl,
      counts_at_end old new c.in-Ok.count c.args.block.now 0 c.in-Ok.ensures.failures c.in-Ok.ensures.ends c.if-count-eq0.true c.requires.space (none_more _ _ refl),
      search rules,
    )

pub returns-in-Ok-feed-clause-step : goal.returns-in-Ok-feed-clause-step
returns-in-Ok-feed-clause-step g c = λ start first h.
    let old = streams g.R.Source g.W.Sink c.args.reader.now c.args.writer.now in
    let new = streams g.R.Source g.W.Sink c.read.new.self c.feed.new.writer in (
      goes_on (ConversesLine g.C.Caller (g.V.Vigil.waits c.args.vigil.now)) start first old new _ _ h (take c.in-Ok.count c.read.new.buf) _ _ c.in-Ok.ensures.bytes.0 c.in-Ok-feed.ensures.ok,
      counts_before_end old new c.in-Ok.count c.args.block.now 0 c.in-Ok.ensures.failures c.in-Ok.ensures.ends c.if-count-eq0.false c.in-Ok-feed.ensures.writes,
      gave_some old new c.in-Ok.count c.read.new.buf c.if-count-eq0.false (search rules) c.in-Ok.ensures.bytes.0,
    )

pub returns-in-Err-Write-clause-step : goal.returns-in-Err-Write-clause-step
returns-in-Err-Write-clause-step g c = λ start first h.
    let old = streams g.R.Source g.W.Sink c.args.reader.now c.args.writer.now in
    let new = streams g.R.Source g.W.Sink c.read.new.self c.feed.new.writer in (
      breaks_off (ConversesLine g.C.Caller (g.V.Vigil.waits c.args.vigil.now)) start first old new _ _ h (ConversesBrokenOff g.C.Caller (g.V.Vigil.waits c.args.vigil.now)) (take c.in-Ok.count c.read.new.buf) _ c.in-Ok.ensures.bytes.0 c.in-Err-Write.ensures.err,
      counts_before_end old new c.in-Ok.count c.args.block.now 1 c.in-Ok.ensures.failures c.in-Ok.ensures.ends c.if-count-eq0.false (failed_is _ Write c.in-Err-Write.field-0-is _ _ c.in-Err-Write.ensures.writes),
    )

pub returns-in-Err-Memory-clause-step : goal.returns-in-Err-Memory-clause-step
returns-in-Err-Memory-clause-step g c = λ start first h.
    let old = streams g.R.Source g.W.Sink c.args.reader.now c.args.writer.now in
    let new = streams g.R.Source g.W.Sink c.read.new.self c.feed.new.writer in (
      breaks_off (ConversesLine g.C.Caller (g.V.Vigil.waits c.args.vigil.now)) start first old new _ _ h (ConversesBrokenOff g.C.Caller (g.V.Vigil.waits c.args.vigil.now)) (take c.in-Ok.count c.read.new.buf) _ c.in-Ok.ensures.bytes.0 c.in-Err-Memory.ensures.err,
      counts_before_end old new c.in-Ok.count c.args.block.now 0 c.in-Ok.ensures.failures c.in-Ok.ensures.ends c.if-count-eq0.false (failed_is _ Memory c.in-Err-Memory.field-0-is _ _ c.in-Err-Memory.ensures.writes),
    )

pub returns-in-Err-Untold-clause-step : goal.returns-in-Err-Untold-clause-step
returns-in-Err-Untold-clause-step g c = λ start first h.
    let old = streams g.R.Source g.W.Sink c.args.reader.now c.args.writer.now in
    let new = streams g.R.Source g.W.Sink c.read.new.self c.feed.new.writer in (
      breaks_off (ConversesLine g.C.Caller (g.V.Vigil.waits c.args.vigil.now)) start first old new _ _ h (ConversesBrokenOff g.C.Caller (g.V.Vigil.waits c.args.vigil.now)) (take c.in-Ok.count c.read.new.buf) _ c.in-Ok.ensures.bytes.0 c.in-Err-Untold.ensures.err,
      counts_before_end old new c.in-Ok.count c.args.block.now 0 c.in-Ok.ensures.failures c.in-Ok.ensures.ends c.if-count-eq0.false (failed_is _ Untold c.in-Err-Untold.field-0-is _ _ c.in-Err-Untold.ensures.writes),
    )
