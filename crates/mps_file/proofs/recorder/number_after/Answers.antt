-- `number_after` meets its clause `some`, by the lemma of Spelling.
use Rattle.mps_line.proofs.Splitting.{in_front}
use Rattle.mps_file.proofs.Spelling.{after_word}
use Rattle.mps_file.proofs.recorder.number_after.Goals as goal

pub returns : goal.returns
returns c =
    let rest = c.in_ok-strip_prefix.field-0.now in
    let cases = c.in_ok-strip_prefix.ensures.cases in
    record { some = after_word c.args.word.now rest c.args.line.now c.read_number.result (in_front c.args.line.now c.args.word.now rest cases.0 cases.1) c.read_number.ensures.read }
