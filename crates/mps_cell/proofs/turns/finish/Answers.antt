-- `finish` meets its clause `gave` and may call `give_back`, by the lemmas of Taking.
use Rattle.mps_room.specs.Journal.{grown}
use Rattle.mps_cell.specs.Rule.{journal_in}
use Rattle.mps_cell.proofs.Taking.{answered, gave_by}
use Rattle.mps_cell.proofs.turns.finish.Goals as goal

pub give_back-requires-clause-room : goal.give_back-requires-clause-room
give_back-requires-clause-room c =
    let r = c.answer_in-answer.ensures in
    answered _ _ c.args.role c.args.command c.answer_in-answer.result c.requires.room c.requires.role r.room r.legal

pub returns-clause-gave : goal.returns-clause-gave
returns-clause-gave c =
    let a = c.answer_in-answer in
    gave_by c.args.seat.now.me a.new.seat.me c.give_back.new.seat.me (grown (journal_in c.args.seat.now.me.1) c.args.role c.args.command a.result) a.ensures.room c.give_back.ensures.gave
