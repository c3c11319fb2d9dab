-- `replay_session` meets its clause `outcome` and keeps what holds in each turn of its loop.
use Rattle.std.proofs.Common.{◌≡◌, [], length, Ok, Err, ap, ◌∙◌, arith}
use Rattle.mps_room.specs.RoomState.{RoomState}
use Rattle.mps_dev.specs.Reads.{max_reads}
use Rattle.mps_wire.specs.Runs.{ScriptRan}
use Rattle.mps_wire.specs.Script.{AnswersLine}
use Rattle.mps_wire.specs.Streams.{all_went_well, one_read_ended, streams}
use Rattle.mps_wire.specs.declared.script.TheConstants.{SCRIPT_BLOCK}
use Rattle.mps_wire.proofs.Bytes.{same_space}
use Rattle.mps_wire.proofs.Carrying.{turned}
use Rattle.mps_session.proofs.PassedOn.{passed_on}
use Rattle.mps_wire.proofs.Outcomes.{same_counts, counts_more, breaks, at_end, before_end, starts_starved}
use Rattle.mps_wire.proofs.Turning.{begun, gave_none, gave_more, gave_fewer}
use Rattle.mps_wire.proofs.script.replay_session.Goals as goal

pub returns-in_err-block-clause-outcome : goal.returns-in_err-block-clause-outcome
returns-in_err-block-clause-outcome g c =
    let types = c.args.session.types in
    let first = streams g.R.Source g.W.Sink c.args.reader.now c.args.writer.now in
    passed_on _ _ (ScriptRan c.args.roles types first first) c.from_residual.ensures.1 (starts_starved (AnswersLine c.args.roles types) [] first)

pub loop-init : goal.loop-init
loop-init g c =
    let first = streams g.R.Source g.W.Sink c.args.reader.now c.args.writer.now in
    let types = c.args.session.types in
    let new : RoomState = record { names = c.args.roles; types = types; journal = [] } in
    let room : c.open.result ≡ new = c.open.ensures in
    record {
      names = ap (λ (r : RoomState). r.names) room;
      types = ap (λ (r : RoomState). r.types) room;
      short = omega (arith, ap length c.new.ensures.items);
      none_waits = c.new-2.ensures.items;
      space = omega (arith, c.in_ok-block.block.ok.0, c.in_ok-block.ensures.len);
      reads = omega arith;
      counts = same_counts first;
      gave = gave_none first;
      going = begun (AnswersLine c.args.roles types) [] first _ _ c.new.ensures.items (ap (λ (r : RoomState). r.journal) room);
    }

pub returns-in_err-read_and_answer-clause-outcome : goal.returns-in_err-read_and_answer-clause-outcome
returns-in_err-read_and_answer-clause-outcome g c =
    let types = c.args.session.types in
    let first = streams g.R.Source g.W.Sink c.args.reader.now c.args.writer.now in
    let old = streams g.R.Source g.W.Sink c.loop.reader c.loop.writer in
    let now = streams g.R.Source g.W.Sink c.read_and_answer.new.reader c.read_and_answer.new.writer in
    let i = c.loop.invariant in
    passed_on _ _ (ScriptRan c.args.roles types first now) c.from_residual-in_err-read_and_answer.ensures.1
    (breaks first old now i.counts (AnswersLine c.args.roles types) [] c.read_and_answer.new.run.line.items c.read_and_answer.new.run.room.journal c.in_err-read_and_answer.field-0.0
    (turned c.args.roles c.loop.run.room.names types c.loop.run.room.types i.names i.types old now c.loop.run.line.items c.read_and_answer.new.run.line.items c.loop.run.room.journal c.read_and_answer.new.run.room.journal (Err c.in_err-read_and_answer.field-0.0) c.in_err-read_and_answer.ensures.step first i.going))

pub returns-then-branch-clause-outcome : goal.returns-then-branch-clause-outcome
returns-then-branch-clause-outcome g c =
    let types = c.args.session.types in
    let first = streams g.R.Source g.W.Sink c.args.reader.now c.args.writer.now in
    let old = streams g.R.Source g.W.Sink c.loop.reader c.loop.writer in
    let now = streams g.R.Source g.W.Sink c.read_and_answer.new.reader c.read_and_answer.new.writer in
    let i = c.loop.invariant in
    let done =
    at_end (AnswersLine c.args.roles types) [] first old now c.read_and_answer.new.run.line.items c.read_and_answer.new.run.room.journal c.in_ok-read_and_answer.field-0
    (turned c.args.roles c.loop.run.room.names types c.loop.run.room.types i.names i.types old now c.loop.run.line.items c.read_and_answer.new.run.line.items c.loop.run.room.journal c.read_and_answer.new.run.room.journal (Ok c.in_ok-read_and_answer.field-0) c.in_ok-read_and_answer.ensures.step first i.going) c.if-branch.true in
    ((done.0, counts_more first old now i.counts one_read_ended done.1), c.in_ok-read_and_answer.ensures.names ∙ i.names, c.in_ok-read_and_answer.ensures.types ∙ i.types)

pub loop-preserved : goal.loop-preserved
loop-preserved g c =
    let types = c.args.session.types in
    let first = streams g.R.Source g.W.Sink c.args.reader.now c.args.writer.now in
    let old = streams g.R.Source g.W.Sink c.loop.reader c.loop.writer in
    let now = streams g.R.Source g.W.Sink c.read_and_answer.new.reader c.read_and_answer.new.writer in
    let i = c.loop.invariant in
    let on =
    before_end (AnswersLine c.args.roles types) [] first old now c.read_and_answer.new.run.line.items c.read_and_answer.new.run.room.journal c.in_ok-read_and_answer.field-0
    (turned c.args.roles c.loop.run.room.names types c.loop.run.room.types i.names i.types old now c.loop.run.line.items c.read_and_answer.new.run.line.items c.loop.run.room.journal c.read_and_answer.new.run.room.journal (Ok c.in_ok-read_and_answer.field-0) c.in_ok-read_and_answer.ensures.step first i.going) c.if-branch.false in
    record {
      names = c.in_ok-read_and_answer.ensures.names ∙ i.names;
      types = c.in_ok-read_and_answer.ensures.types ∙ i.types;
      short = c.in_ok-read_and_answer.ensures.short;
      none_waits = c.in_ok-read_and_answer.ensures.none_wait;
      space = same_space c.loop.block.len SCRIPT_BLOCK c.read_and_answer.new.block c.loop.block.items c.loop.block.ok.0 i.space;
      reads = omega (arith, c.in_ok-read_and_answer.ensures.reads, i.reads);
      counts = counts_more first old now i.counts all_went_well on.1;
      gave = gave_more first old now _ i.gave on.2;
      going = on.0;
    }

pub returns-clause-outcome : goal.returns-clause-outcome
returns-clause-outcome g c =
    let i = c.loop.invariant in
    let first = streams g.R.Source g.W.Sink c.args.reader.now c.args.writer.now in
    let now = streams g.R.Source g.W.Sink c.loop.reader c.loop.writer in (
      record { kept = c.loop.run.line.items; st = c.loop.run.room.journal; going = i.going },
      i.counts,
      record {
        reads = omega (arith, i.reads, c.loop.auto.counter-end, c.loop-test.false);
        gave = gave_fewer first now c.loop.counter max_reads (omega (arith, c.loop.auto.counter-end, c.loop-test.false)) i.gave;
      },
    )
