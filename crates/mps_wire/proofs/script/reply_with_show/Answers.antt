-- `reply_with_show` meets its contract, by the lemmas of Serving.
use Rattle.mps_command.specs.declared.command.Command.TheVariants.{Show}
use Rattle.mps_wire.proofs.Serving.{answered, unchanged}
use Rattle.mps_wire.proofs.script.reply_with_show.Goals as goal

pub returns : goal.returns
returns c role =
    let m = c.args.room.now in
    let a = c.answer_show.result in
    answered m.names m.types m.journal role Show m.journal a c.append_answer.result c.args.answers.now.items c.append_answer.new.out.items
    (c.answer_show.ensures.answer role) (unchanged m.journal role Show a c.answer_show.ensures.asked) c.append_answer.ensures.ok
