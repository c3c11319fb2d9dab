-- `Session::forward` meets its clauses `never_mismatch`, `newest`, `undone` and `stays`, by the lemmas of PassedOn and OneProtocol.
use Rattle.std.proofs.Common.{◌≡◌, ◌≢◌, Result, Err, subst}
use Rattle.mps_command.specs.Acts.{act_of}
use Rattle.mps_command.specs.declared.answer.Done.{Done}
use Rattle.mps_command.specs.declared.answer.Refusal.{Refusal}
use Rattle.mps_command.specs.declared.answer.Refusal.TheVariants.{Violation as Violates}
use Rattle.mps_command.specs.declared.answer.Violation.TheVariants.{Mismatch}
use Rattle.mps_machine.specs.Machine.{IsSound}
use Rattle.mps_machine.proofs.Undoing.{is_newest, newest_undone, stays_final}
use Rattle.mps_session.specs.SessionState.{SessionState}
use Rattle.mps_session.proofs.PassedOn.{passed_on}
use Rattle.mps_session.proofs.OneProtocol.{no_mismatch}
use Rattle.mps_session.proofs.session.Session.forward.Goals as goal

pub returns-in_err-done-clause-never_mismatch : goal.returns-in_err-done-clause-never_mismatch
returns-in_err-done-clause-never_mismatch c own =
    let m = c.args.self.now in
    let refusal = c.in_err-done.field-0.0 in
    let sound = subst (λ (k : SessionState). IsSound k.types k.state) c.self.view_is c.self.invariant.holds.sound in
    passed_on _ refusal (λ (r : Result Done Refusal). r ≢ Err (Violates Mismatch)) c.from_residual.ensures.1
    (λ e. let is : refusal ≡ Violates Mismatch = cc in no_mismatch m.types m.state c.args.role c.args.step refusal sound c.in_err-done.ensures.served.answer own is)

pub returns-clause-newest : goal.returns-clause-newest
returns-clause-newest c =
    let m = c.args.self.now in
    let sound = subst (λ (k : SessionState). IsSound k.types k.state) c.self.view_is c.self.invariant.holds.sound in
    let served = c.in_ok-done.ensures.served in
    is_newest m.types m.state c.attempt_forward.new.self.state c.args.role (act_of c.args.step) c.in_ok-done.done sound served.answer served.state

pub returns-clause-undone : goal.returns-clause-undone
returns-clause-undone c other =
    let m = c.args.self.now in
    let sound = subst (λ (k : SessionState). IsSound k.types k.state) c.self.view_is c.self.invariant.holds.sound in
    let served = c.in_ok-done.ensures.served in
    newest_undone m.types m.state c.attempt_forward.new.self.state c.args.role (act_of c.args.step) c.in_ok-done.done sound served.answer served.state other

pub returns-clause-stays : goal.returns-clause-stays
returns-clause-stays c commit =
    let m = c.args.self.now in
    let sound = subst (λ (k : SessionState). IsSound k.types k.state) c.self.view_is c.self.invariant.holds.sound in
    let served = c.in_ok-done.ensures.served in
    stays_final m.types m.state c.attempt_forward.new.self.state c.args.role (act_of c.args.step) c.in_ok-done.done sound served.answer served.state commit
