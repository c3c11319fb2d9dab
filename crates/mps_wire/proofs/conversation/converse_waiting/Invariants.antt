-- In each turn of the loop of `converse_waiting` the whole lines read so far were answered, and each read is counted.
use Rattle.std.proofs.Common.{◌≡◌, ◌+◌, ◌≤◌, length}
use Rattle.mps_lines.specs.Lines.{most_kept}
use Rattle.mps_wire.specs.Runs.{Going, GaveAtLeast}
use Rattle.mps_wire.specs.Streams.{Counts, all_went_well, streams}
use Rattle.mps_wire.specs.Conversations.{ConversesLine}
use Rattle.mps_wire.specs.declared.conversation.TheConstants.{CONVERSATION_BLOCK}
use Rattle.mps_wire.proofs.conversation.converse_waiting.Given as goal

abbrev pub invariant-loop : goal.invariant-loop
invariant-loop g l =
    let first = streams g.R.Source g.W.Sink l.fn.reader l.fn.writer in
    let now = streams g.R.Source g.W.Sink l.reader l.writer in
    record {
      short : length l.going.line.items ≤ most_kept;
      space : length l.block.items ≡ CONVERSATION_BLOCK;
      reads : now.reads ≡ first.reads + l.counter;
      counts : Counts first now all_went_well;
      gave : GaveAtLeast l.counter first now;
      waits : g.V.Vigil.waits l.vigil ≡ g.V.Vigil.waits l.fn.vigil;
      going : Going (ConversesLine g.C.Caller (g.V.Vigil.waits l.fn.vigil)) l.fn.caller first now l.going.line.items l.caller;
    }
