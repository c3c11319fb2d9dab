-- `done_is_spellable` meets its contract, by the lemmas of Spellings.
use Rattle.std.proofs.Common.{subst, sym, arith}
use Rattle.std.specs.Prelude.{Option}
use Rattle.mps_base.specs.declared.action.Message.{Message}
use Rattle.mps_line.specs.Replies.{done_tokens}
use Rattle.mps_line.specs.Private.Spellable.{AreSpellable}
use Rattle.mps_line.proofs.Spellings.{number}
use Rattle.mps_line.proofs.answer_texts.done_is_spellable.Goals as goal

pub returns-in-Some : goal.returns-in-Some
returns-in-Some c =
    let id = c.args.done.now.id in
    subst (λ (got : Option Message). AreSpellable (done_tokens id got)) (sym c.in-Some.is) (number id (omega (arith, c.number-number.ensures.number, c.number-number.ensures.small)), (c.message_is_spellable.ensures, tt))

pub returns-in-None : goal.returns-in-None
returns-in-None c =
    let id = c.args.done.now.id in
    subst (λ (got : Option Message). AreSpellable (done_tokens id got)) (sym c.in-None.is) (number id (omega (arith, c.number-number.ensures.number, c.number-number.ensures.small)), tt)
