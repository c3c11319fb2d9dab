-- `reply_with_news` meets its contract, by the lemmas of Serving.
use Rattle.mps_command.specs.declared.command.Command.TheVariants.{News}
use Rattle.mps_wire.proofs.Serving.{answered, unchanged}
use Rattle.mps_wire.proofs.script.reply_with_news.Goals as goal

pub returns : goal.returns
returns c =
    let m = c.args.room.now in
    let a = c.answer_news.result in
    answered m.names m.types m.journal c.args.role (News c.args.known) m.journal a c.append_answer.result c.args.answers.now.items c.append_answer.new.out.items
    c.answer_news.ensures.answer (unchanged m.journal c.args.role (News c.args.known) a c.answer_news.ensures.asked) c.append_answer.ensures.ok
