-- `Session::serve` meets its clause `served`.
use Rattle.std.proofs.Common.{◌≡◌, Some, Result, refl, sym, ap, ◌∙◌, subst}
use Rattle.mps_command.specs.Changes.{change_of, command_of}
use Rattle.mps_command.specs.declared.answer.Answer.{Answer}
use Rattle.mps_command.specs.declared.answer.Refusal.{Refusal}
use Rattle.mps_command.specs.declared.command.Change.{Change}
use Rattle.mps_command.specs.declared.command.Change.TheVariants.{Forward, Undo, Rollback, Back}
use Rattle.mps_machine.specs.Answering.{IsChanged}
use Rattle.mps_machine.specs.Machine.{serve}
use Rattle.mps_machine.proofs.Answering.{no_refusal}
use Rattle.mps_session.proofs.session.Session.serve.Goals as goal

asked : (change : Change) → change_of (command_of change) ≡ Some change
asked (Forward step) = refl
asked (Undo id) = refl
asked (Rollback id) = refl
asked (Back name) = refl

pub returns-in-Ok-clause-served : goal.returns-in-Ok-clause-served
returns-in-Ok-clause-served c =
    let m = c.args.self.now in
    let is = c.in-Ok.ensures.accepted c.args.change (ap change_of c.command_of.ensures ∙ asked c.args.change) in
    subst (λ (r : Result Answer Refusal). IsChanged m.types c.args.role c.args.change r m.state c.attempt.new.self.state)
    (sym (no_refusal c.in-Ok.answer (serve m.types m.state c.args.role c.args.change).0 is.answer)) is
