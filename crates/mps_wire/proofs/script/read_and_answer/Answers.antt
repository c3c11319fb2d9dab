-- `read_and_answer` meets its clause `step`, by the lemmas of Turning.
use Rattle.std.proofs.Common.{rules, ◌≡◌, ◌+◌, [], take, inl, inr, refl}
use Rattle.std.specs.Io.KnownBytes.{Appends}
use Rattle.mps_wire.specs.Sending.{TookFront}
use Rattle.mps_wire.specs.Private.Places.{answering_of, place_of_run}
use Rattle.mps_wire.specs.Streams.{streams}
use Rattle.mps_wire.proofs.Turning.{counts_at_end, counts_before_end, none_more, gave_some, runs_out, runs_out_at_end, goes_on, breaks_off, ends, end_breaks_off, none_taken, was_last, was_not_last}
use Rattle.mps_wire.proofs.script.read_and_answer.Goals as goal
use Rattle.mps_wire.proofs.script.read_and_answer.Goals.{then-count-eq0+in_ok-finish, else-count-eq0+in_ok-feed}

pub returns-in_err-finish-clause-step : goal.returns-in_err-finish-clause-step
returns-in_err-finish-clause-step g c = λ first h.
    let run = c.args.run.now in
    let old = streams g.R.Source g.W.Sink c.args.reader.now c.args.writer.now in
    let new = streams g.R.Source g.W.Sink c.read.new.self c.args.writer.now in
    runs_out_at_end (answering_of run) [] first old new (place_of_run run) h _ _ _ c.from_residual.ensures.1 (none_taken _ _ c.in-Ok.count c.read.new.buf c.if-count-eq0.true c.in-Ok.ensures.bytes.0)
    (search rules) refl (counts_at_end old new c.in-Ok.count c.args.block.now 0 c.in-Ok.ensures.failures c.in-Ok.ensures.ends c.if-count-eq0.true c.requires.space (none_more _ _ refl))

pub returns-in_err-feed-clause-step : goal.returns-in_err-feed-clause-step
returns-in_err-feed-clause-step g c = λ first h.
    let run = c.args.run.now in
    let old = streams g.R.Source g.W.Sink c.args.reader.now c.args.writer.now in
    let new = streams g.R.Source g.W.Sink c.read.new.self c.args.writer.now in
    runs_out (answering_of run) [] first old new (place_of_run run) h _ _ _ c.from_residual-in_err-feed.ensures.1 (take c.in-Ok.count c.read.new.buf) c.in-Ok.ensures.bytes.0 refl
    (counts_before_end old new c.in-Ok.count c.args.block.now 0 c.in-Ok.ensures.failures c.in-Ok.ensures.ends c.if-count-eq0.false (none_more _ _ refl))

pub returns-then-is_err-clause-step : goal.returns-then-is_err-clause-step
returns-then-is_err-clause-step g c = λ first h.
    let run = c.args.run.now in
    let next = c.if-count-eq0.run in
    let old = streams g.R.Source g.W.Sink c.args.reader.now c.args.writer.now in
    let new = streams g.R.Source g.W.Sink c.read.new.self c.send_all.new.writer in
    let front : TookFront old.taken new.taken next.answers.items = search rules in
    let failed : new.failed_writes ≡ old.failed_writes + 1 = search rules in
    elim c.if-count-eq0.branch [
      | then-count-eq0+in_ok-finish w ↦
          inr (
            end_breaks_off (answering_of run) [] first old new (place_of_run run) h (place_of_run next) c.requires.none_wait (none_taken _ _ c.in-Ok.count c.read.new.buf w.if-count-eq0.true c.in-Ok.ensures.bytes.0)
                (rw w.run-is w.in_ok-finish.ensures.answered) (search rules) front,
            counts_at_end old new c.in-Ok.count c.args.block.now 1 c.in-Ok.ensures.failures c.in-Ok.ensures.ends w.if-count-eq0.true c.requires.space failed,
          )
      | else-count-eq0+in_ok-feed w ↦
          inl (
            breaks_off (answering_of run) [] first old new (place_of_run run) h (place_of_run next) (take c.in-Ok.count c.read.new.buf) c.requires.none_wait c.in-Ok.ensures.bytes.0
                (rw w.run-is w.in_ok-feed.ensures.answered) front,
            counts_before_end old new c.in-Ok.count c.args.block.now 1 c.in-Ok.ensures.failures c.in-Ok.ensures.ends w.if-count-eq0.false failed,
          )
    ]

pub returns-clause-step : goal.returns-clause-step
returns-clause-step g c = λ first h.
    let run = c.args.run.now in
    let next = c.if-count-eq0.run in
    let old = streams g.R.Source g.W.Sink c.args.reader.now c.args.writer.now in
    let new = streams g.R.Source g.W.Sink c.read.new.self c.send_all.new.writer in
    let sent : Appends old.taken new.taken next.answers.items = search rules in
    let counted : new.failed_writes ≡ old.failed_writes + 0 = none_more _ _ (search rules) in
    elim c.if-count-eq0.branch [
      | then-count-eq0+in_ok-finish w ↦
          was_last (answering_of run) [] first old new next.line.items next.room.journal c.in-Ok.count w.if-count-eq0.true (
            ends (answering_of run) [] first old new (place_of_run run) h (place_of_run next) c.requires.none_wait (none_taken _ _ c.in-Ok.count c.read.new.buf w.if-count-eq0.true c.in-Ok.ensures.bytes.0)
                (rw w.run-is w.in_ok-finish.ensures.answered) (search rules) sent,
            counts_at_end old new c.in-Ok.count c.args.block.now 0 c.in-Ok.ensures.failures c.in-Ok.ensures.ends w.if-count-eq0.true c.requires.space counted,
          )
      | else-count-eq0+in_ok-feed w ↦
          was_not_last (answering_of run) [] first old new next.line.items next.room.journal c.in-Ok.count w.if-count-eq0.false (
            goes_on (answering_of run) [] first old new (place_of_run run) h (place_of_run next) (take c.in-Ok.count c.read.new.buf) c.requires.none_wait c.in-Ok.ensures.bytes.0
                (rw w.run-is w.in_ok-feed.ensures.answered) sent,
            counts_before_end old new c.in-Ok.count c.args.block.now 0 c.in-Ok.ensures.failures c.in-Ok.ensures.ends w.if-count-eq0.false counted,
            gave_some old new c.in-Ok.count c.read.new.buf w.if-count-eq0.false (search rules) c.in-Ok.ensures.bytes.0,
          )
    ]
