-- In each turn of the loop of `replay_session` the whole lines read so far were answered, no answer waits to be written, and each read is counted.
use Rattle.std.proofs.Common.{◌≡◌, ◌+◌, ◌≤◌, [], length}
use Rattle.mps_lines.specs.Lines.{most_kept}
use Rattle.mps_wire.specs.Runs.{Going, GaveAtLeast}
use Rattle.mps_wire.specs.Script.{AnswersLine}
use Rattle.mps_wire.specs.Streams.{Counts, all_went_well, streams}
use Rattle.mps_wire.specs.declared.script.TheConstants.{SCRIPT_BLOCK}
use Rattle.mps_wire.proofs.script.replay_session.Given as goal

abbrev pub invariant-loop : goal.invariant-loop
invariant-loop g l =
    let first = streams g.R.Source g.W.Sink l.fn.reader l.fn.writer in
    let now = streams g.R.Source g.W.Sink l.reader l.writer in
    record {
      names : l.run.room.names ≡ l.fn.roles;
      types : l.run.room.types ≡ l.fn.session.types;
      short : length l.run.line.items ≤ most_kept;
      none_waits : l.run.answers.items ≡ [];
      space : length l.block.items ≡ SCRIPT_BLOCK;
      reads : now.reads ≡ first.reads + l.counter;
      counts : Counts first now all_went_well;
      gave : GaveAtLeast l.counter first now;
      going : Going (AnswersLine l.fn.roles l.fn.session.types) [] first now l.run.line.items l.run.room.journal;
    }
